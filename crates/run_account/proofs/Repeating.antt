-- Samples that were noted together, and one more.
use Rattle.std.proofs.Common.{◌≡◌, ◌⊎◌, inl, inr, refl, ap, sym, ◌∙◌, subst, arith, ℕ, zero, suc, ◌+◌, ◌-◌, ◌<◌, ◌≤◌, ◌==◌, leb, Bool, true, false, List, [], ◌∷◌, length, map, slice_get, nat_lt, Option, Some, None, is_some, if◌then◌else◌, not, ◌&&◌, option_map, true≢false}
use Rattle.std.specs.List.{AllByRecursion, list_all}
use Rattle.std.proofs.lemmas.Bool.{leb-true, ltb-false, ltb-true}
use Rattle.std.specs.Option.{option_flatten}
use Rattle.lc_model.specs.Kept.Summary.{LcOwn}
use Rattle.lc_model.specs.LimitChecker.Steps.{is_disabled}
use Rattle.lc_model.specs.declared.command.SampleRequest.{SampleRequest}
use Rattle.lc_model.specs.declared.mode.ApResult.{ApResult}
use Rattle.lc_model.specs.declared.mode.ApResult.TheVariants.{Pass, Fail, Stale, Error}
use Rattle.run_account.specs.Clock.{add, capped}
use Rattle.run_account.specs.Counts.{counts_with, row_sampled, row_with}
use Rattle.run_account.specs.Lanes.{lane_with, over, two_cycles}
use Rattle.run_account.specs.Repeats.{AreAllResults, IsOnTime, found_at, is_in_time, lane_by, lane_in, row_by, row_in}
use Rattle.run_account.specs.Samples.{are_taking, result_of}
use Rattle.run_account.specs.declared.clock.RunClock.{RunClock}
use Rattle.run_account.specs.declared.counts.RuleCounts.{RuleCounts}
use Rattle.run_account.specs.declared.counts.RuleRow.{RuleRow}
use Rattle.run_account.specs.declared.lanes.Lane.{Lane}
use Rattle.run_account.specs.declared.repeats.Repeats.{Repeats}

-- ---- none was noted

row_none : (n : ℕ) (force : Option ℕ) (results : List (Option ApResult)) (row : RuleRow) → n ≡ 0 → row_by n force results row ≡ row
row_none zero force results row none = refl
row_none (suc n) force results row none = absurd (omega (arith, none))

pub rows_none : (n : ℕ) (force : Option ℕ) (results : List (Option ApResult)) (rows : List RuleRow) → n ≡ 0 → map (row_by n force results) rows ≡ rows
rows_none n force results [] none = refl
rows_none n force results (row ∷ rows) none = λ i. row_none n force results row none i ∷ rows_none n force results rows none i

lane_none : (n last allowed : ℕ) (results : List (Option ApResult)) (lane : Lane) → n ≡ 0 → lane_by n last allowed results lane ≡ lane
lane_none zero last allowed results lane none = refl
lane_none (suc n) last allowed results lane none = absurd (omega (arith, none))

pub lanes_none : (n last allowed : ℕ) (results : List (Option ApResult)) (lanes : List Lane) → n ≡ 0 → map (lane_by n last allowed results) lanes ≡ lanes
lanes_none n last allowed results [] none = refl
lanes_none n last allowed results (lane ∷ lanes) none = λ i. lane_none n last allowed results lane none i ∷ lanes_none n last allowed results lanes none i

-- ---- one more row

added_more : (x n : ℕ) → add (add x n) 1 ≡ add x (suc n)
added_more x n = omega arith

counts_one : (n : ℕ) (found : ApResult) (counts : RuleCounts) → counts_with 1 found (counts_with n found counts) ≡ counts_with (suc n) found counts
counts_one n Pass counts = λ i. record counts { passed = added_more counts.passed n i }
counts_one n Fail counts = λ i. record counts { failed = added_more counts.failed n i }
counts_one n Stale counts = λ i. record counts { stale = added_more counts.stale n i }
counts_one n Error counts = λ i. record counts { errors = added_more counts.errors n i }

row_by_text : (n text : ℕ) (found : ApResult) (row : RuleRow) (b : Bool) → text == row.text ≡ b →
    row_with 1 (Some text) (Some found) (row_with n (Some text) (Some found) row) ≡ row_with (suc n) (Some text) (Some found) row
row_by_text n text found row true test = rw test (rw test (ap (λ (counts : RuleCounts). record row { counts = counts }) (counts_one n found row.counts)))
row_by_text n text found row false test = rw test (rw test refl)

row_many_more : (n : ℕ) (force : Option ℕ) (found : Option ApResult) (row : RuleRow) → row_with 1 force found (row_with n force found row) ≡ row_with (suc n) force found row
row_many_more n None found row = refl
row_many_more n (Some text) None row = refl
row_many_more n (Some text) (Some found) row = row_by_text n text found row (text == row.text) refl

row_one_more : (n : ℕ) (was force : Option ℕ) (results : List (Option ApResult)) (row : RuleRow) → (n ≡ 0) ⊎ (was ≡ force) →
    row_with 1 force (found_at results row.rule) (row_by n was results row) ≡ row_by (suc n) force results row
row_one_more zero was force results row same = refl
row_one_more (suc n) was force results row (inl none) = absurd (omega (arith, none))
row_one_more (suc n) was force results row (inr same) =
    (λ i. row_with 1 force (found_at results row.rule) (row_with (suc n) (same i) (found_at results row.rule) row)) ∙ row_many_more (suc n) force (found_at results row.rule) row

rule_by_text : (n text : ℕ) (found : ApResult) (row : RuleRow) (b : Bool) → text == row.text ≡ b → (row_with n (Some text) (Some found) row).rule ≡ row.rule
rule_by_text n text found row true test = rw test refl
rule_by_text n text found row false test = rw test refl

rule_many : (n : ℕ) (force : Option ℕ) (found : Option ApResult) (row : RuleRow) → (row_with n force found row).rule ≡ row.rule
rule_many n None found row = refl
rule_many n (Some text) None row = refl
rule_many n (Some text) (Some found) row = rule_by_text n text found row (text == row.text) refl

same_rule : (n : ℕ) (force : Option ℕ) (results : List (Option ApResult)) (row : RuleRow) → (row_by n force results row).rule ≡ row.rule
same_rule zero force results row = refl
same_rule (suc n) force results row = rule_many (suc n) force (found_at results row.rule) row

pub rows_one_more : (n : ℕ) (was force : Option ℕ) (results : List (Option ApResult)) (requests : List SampleRequest) (checker : Option LcOwn) (rows : List RuleRow) →
    (n ≡ 0) ⊎ (was ≡ force) → AreAllResults requests checker results →
    map (row_sampled requests checker force) (map (row_by n was results) rows) ≡ map (row_by (suc n) force results) rows
rows_one_more n was force results requests checker [] same are = refl
rows_one_more n was force results requests checker (row ∷ rows) same are =
    let first : row_sampled requests checker force (row_by n was results row) ≡ row_by (suc n) force results row =
    (λ i. row_with 1 force (result_of requests checker (same_rule n was results row i)) (row_by n was results row))
    ∙ (λ i. row_with 1 force (sym (are row.rule) i) (row_by n was results row))
    ∙ row_one_more n was force results row same in
    λ i. first i ∷ rows_one_more n was force results requests checker rows same are i

-- ---- one more lane

late_none : (unsampled late : ℕ) → late ≡ 0 → add unsampled late ≡ capped unsampled
late_none unsampled late none = omega (arith, none)

late_none_again : (unsampled late : ℕ) → late ≡ 0 → add (capped unsampled) late ≡ capped unsampled
late_none_again unsampled late none = omega (arith, none)

lane_rule : (n last allowed : ℕ) (results : List (Option ApResult)) (lane : Lane) (b : Bool) → is_some (found_at results lane.rule) ≡ b → (lane_by n last allowed results lane).rule ≡ lane.rule
lane_rule zero last allowed results lane b test = refl
lane_rule (suc n) last allowed results lane true test = rw test refl
lane_rule (suc n) last allowed results lane false test = rw test refl

lane_sampled : (n last allowed slots : ℕ) (clock : RunClock) (results : List (Option ApResult)) (lane : Lane) → is_some (found_at results lane.rule) ≡ true →
    IsOnTime results clock (lane_by n last allowed results lane) →
    record (lane_by n last allowed results lane) {
      last = clock.passed;
      allowed = two_cycles slots clock.tick;
      unsampled = add (lane_by n last allowed results lane).unsampled (over (lane_by n last allowed results lane).allowed (clock.passed - (lane_by n last allowed results lane).last));
    } ≡ lane_by (suc n) clock.passed (two_cycles slots clock.tick) results lane
lane_sampled zero last allowed slots clock results lane test on_time =
    rw test (λ i. record lane { last = clock.passed; allowed = two_cycles slots clock.tick; unsampled = late_none lane.unsampled (over lane.allowed (clock.passed - lane.last)) (on_time test) i })
lane_sampled (suc n) last allowed slots clock results lane test on_time = by_late (subst (λ b. IsOnTime results clock (noted b)) test on_time)
  where
    noted : Bool → Lane
    noted b = if b then record lane { last = last; allowed = allowed; unsampled = capped lane.unsampled } else lane

    by_late : (is_some (found_at results lane.rule) ≡ true → over allowed (clock.passed - last) ≡ 0) →
        record (lane_by (suc n) last allowed results lane) {
          last = clock.passed;
          allowed = two_cycles slots clock.tick;
          unsampled = add (lane_by (suc n) last allowed results lane).unsampled (over (lane_by (suc n) last allowed results lane).allowed (clock.passed - (lane_by (suc n) last allowed results lane).last));
        } ≡ lane_by (suc (suc n)) clock.passed (two_cycles slots clock.tick) results lane
    by_late none = rw test (λ i. record lane { last = clock.passed; allowed = two_cycles slots clock.tick; unsampled = late_none_again lane.unsampled (over allowed (clock.passed - last)) (none test) i })

lane_one_more : (n last allowed slots : ℕ) (clock : RunClock) (results : List (Option ApResult)) (requests : List SampleRequest) (checker : Option LcOwn) (lane : Lane) (b : Bool) →
    is_some (found_at results lane.rule) ≡ b → AreAllResults requests checker results → IsOnTime results clock (lane_by n last allowed results lane) →
    lane_with slots clock requests checker (lane_by n last allowed results lane) ≡ lane_by (suc n) clock.passed (two_cycles slots clock.tick) results lane
lane_one_more n last allowed slots clock results requests checker lane b test are on_time =
    by_result b test
  where
    given : Lane
    given = lane_by n last allowed results lane

    sampled : is_some (result_of requests checker given.rule) ≡ is_some (found_at results lane.rule)
    sampled = (λ i. is_some (result_of requests checker (lane_rule n last allowed results lane b test i))) ∙ ap is_some (sym (are lane.rule))

    unsampled_before : (n : ℕ) → is_some (found_at results lane.rule) ≡ false → lane_by n last allowed results lane ≡ lane_by (suc n) clock.passed (two_cycles slots clock.tick) results lane
    unsampled_before zero none = rw none refl
    unsampled_before (suc n) none = rw none refl

    by_result : (b : Bool) → is_some (found_at results lane.rule) ≡ b → lane_with slots clock requests checker given ≡ lane_by (suc n) clock.passed (two_cycles slots clock.tick) results lane
    by_result true test = rw (sampled ∙ test) (lane_sampled n last allowed slots clock results lane test on_time)
    by_result false test = rw (sampled ∙ test) (unsampled_before n test)

pub lanes_one_more : (n last allowed slots : ℕ) (clock : RunClock) (results : List (Option ApResult)) (requests : List SampleRequest) (checker : Option LcOwn) (lanes : List Lane) →
    AreAllResults requests checker results → AllByRecursion (IsOnTime results clock) (map (lane_by n last allowed results) lanes) →
    map (lane_with slots clock requests checker) (map (lane_by n last allowed results) lanes) ≡ map (lane_by (suc n) clock.passed (two_cycles slots clock.tick) results) lanes
lanes_one_more n last allowed slots clock results requests checker [] are on_time = refl
lanes_one_more n last allowed slots clock results requests checker (lane ∷ lanes) are on_time =
    λ i. lane_one_more n last allowed slots clock results requests checker lane (is_some (found_at results lane.rule)) refl are on_time.0 i
    ∷ lanes_one_more n last allowed slots clock results requests checker lanes are on_time.1 i

-- ---- on time

none_late : (allowed gap : ℕ) (b : Bool) → nat_lt allowed gap ≡ b → b ≡ false → over allowed gap ≡ 0
none_late allowed gap false test none = rw test refl
none_late allowed gap true test none = absurd (true≢false none)

without_result : (results : List (Option ApResult)) (clock : RunClock) (lane : Lane) → is_some (found_at results lane.rule) ≡ false → IsOnTime results clock lane
without_result results clock lane none is = absurd (true≢false (sym is ∙ none))

one_in_time : (results : List (Option ApResult)) (clock : RunClock) (lane : Lane) (some late : Bool) → is_some (found_at results lane.rule) ≡ some → nat_lt lane.allowed (clock.passed - lane.last) ≡ late →
    not (some && late) ≡ true → IsOnTime results clock lane
one_in_time results clock lane false late is test so = without_result results clock lane is
one_in_time results clock lane true false is test so = λ there. none_late lane.allowed (clock.passed - lane.last) false test refl
one_in_time results clock lane true true is test so = absurd (true≢false (sym so))

each_by_first : (results : List (Option ApResult)) (clock : RunClock) (lane : Lane) (lanes : List Lane) (first others : Bool) → is_in_time results clock lane ≡ first → (others ≡ true → AllByRecursion (IsOnTime results clock) lanes) →
    (first && others) ≡ true → IsOnTime results clock lane × AllByRecursion (IsOnTime results clock) lanes
each_by_first results clock lane lanes false others is those so = absurd (true≢false (sym so))
each_by_first results clock lane lanes true others is those so =
    (one_in_time results clock lane (is_some (found_at results lane.rule)) (nat_lt lane.allowed (clock.passed - lane.last)) refl refl is, those so)

pub each_in_time : (results : List (Option ApResult)) (clock : RunClock) (lanes : List Lane) → list_all (is_in_time results clock) lanes ≡ true → AllByRecursion (IsOnTime results clock) lanes
each_in_time results clock [] all = tt
each_in_time results clock (lane ∷ lanes) all =
    each_by_first results clock lane lanes (is_in_time results clock lane) (list_all (is_in_time results clock) lanes) refl (each_in_time results clock lanes) all

noted_in_time : (n last allowed : ℕ) (results : List (Option ApResult)) (clock : RunClock) (lane : Lane) (b : Bool) → is_some (found_at results lane.rule) ≡ b → nat_lt allowed (clock.passed - last) ≡ false →
    IsOnTime results clock (lane_by (suc n) last allowed results lane)
noted_in_time n last allowed results clock lane true test early = rw test (λ is. none_late allowed (clock.passed - last) (nat_lt allowed (clock.passed - last)) refl early)
noted_in_time n last allowed results clock lane false test early = rw test (without_result results clock lane test)

pub all_in_time : (n last allowed : ℕ) (results : List (Option ApResult)) (clock : RunClock) (lanes : List Lane) → nat_lt allowed (clock.passed - last) ≡ false →
    AllByRecursion (IsOnTime results clock) (map (lane_by (suc n) last allowed results) lanes)
all_in_time n last allowed results clock [] early = tt
all_in_time n last allowed results clock (lane ∷ lanes) early =
    (noted_in_time n last allowed results clock lane (is_some (found_at results lane.rule)) refl early, all_in_time n last allowed results clock lanes early)

not_late : (allowed gap : ℕ) → leb gap allowed ≡ true → nat_lt allowed gap ≡ false
not_late allowed gap early = by_test (nat_lt allowed gap) refl
  where
    by_test : (late : Bool) → nat_lt allowed gap ≡ late → nat_lt allowed gap ≡ false
    by_test false is = is
    by_test true is = absurd (omega (arith, ltb-true allowed gap is, leb-true gap allowed early))

pub noted_all_in_time : (n last allowed gap : ℕ) (results : List (Option ApResult)) (clock : RunClock) (lanes : List Lane) → 0 < n → gap ≡ clock.passed - last → leb gap allowed ≡ true →
    AllByRecursion (IsOnTime results clock) (map (lane_by n last allowed results) lanes)
noted_all_in_time zero last allowed gap results clock lanes some is early = absurd (omega (arith, some))
noted_all_in_time (suc n) last allowed gap results clock lanes some is early = all_in_time n last allowed results clock lanes (not_late allowed (clock.passed - last) (subst (λ gap. leb gap allowed ≡ true) is early))

-- ---- all results

-- up to a rule
abbrev pub FirstResults : (requests : List SampleRequest) (checker : Option LcOwn) (results : List (Option ApResult)) → ℕ → Type 0
FirstResults requests checker results n = (rule : ℕ) → rule < n → found_at results rule ≡ result_of requests checker rule

pub one_result_more : (requests : List SampleRequest) (checker : Option LcOwn) (results : List (Option ApResult)) (n : ℕ) → FirstResults requests checker results n → found_at results n ≡ result_of requests checker n →
    FirstResults requests checker results (n + 1)
one_result_more requests checker results n before here rule less = by_place (nat_lt rule n) refl
  where
    by_place : (is_before : Bool) → nat_lt rule n ≡ is_before → found_at results rule ≡ result_of requests checker rule
    by_place true is = before rule (ltb-true rule n is)
    by_place false is =
        let same : n ≡ rule = omega (arith, less, ltb-false rule n is) in
        subst (λ k. found_at results k ≡ result_of requests checker k) same here

get_beyond : {X : Type 0} (xs : List X) (n : ℕ) → length xs ≤ n → slice_get xs n ≡ None
get_beyond [] n beyond = refl
get_beyond (x ∷ xs) zero beyond = absurd (omega (arith, beyond))
get_beyond (x ∷ xs) (suc n) beyond = get_beyond xs n (omega (arith, beyond))

result_beyond : (requests : List SampleRequest) (own : LcOwn) (rule : ℕ) (disabled taking : Bool) → is_disabled own.mode ≡ disabled → are_taking requests rule ≡ taking → slice_get own.points rule ≡ None →
    result_of requests (Some own) rule ≡ None
result_beyond requests own rule disabled false mode taken is = rw taken refl
result_beyond requests own rule true true mode taken is = rw (taken, mode) refl
result_beyond requests own rule false true mode taken is = rw (taken, mode, is) refl

pub all_results : (requests : List SampleRequest) (own : LcOwn) (results : List (Option ApResult)) (n : ℕ) → FirstResults requests (Some own) results n → length results ≤ n → length own.points ≤ length results →
    AreAllResults requests (Some own) results
all_results requests own results n before most few rule = by_place (nat_lt rule n) refl
  where
    by_place : (is_before : Bool) → nat_lt rule n ≡ is_before → found_at results rule ≡ result_of requests (Some own) rule
    by_place true is = before rule (ltb-true rule n is)
    by_place false is =
        let beyond : n ≤ rule = ltb-false rule n is in
        ap option_flatten (get_beyond results rule (omega (arith, most, beyond)))
        ∙ sym (result_beyond requests own rule (is_disabled own.mode) (are_taking requests rule) refl refl (get_beyond own.points rule (omega (arith, most, few, beyond))))
