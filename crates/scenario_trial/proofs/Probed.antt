-- What the lines of a script find, record by record.
use Rattle.std.proofs.Common.{◌≡◌, refl, sym, ◌∙◌, ap, subst, ℕ, zero, suc, ◌+◌, ◌<◌, ◌≤◌, Bool, true, false, nat_lt, List, [], ◌∷◌, ◌++◌, length, drop, append_assoc, append-nil, Option, Some, None, if◌then◌else◌, arith}
use Rattle.std.specs.List.{AllZip}
use Rattle.std.proofs.lemmas.List.{length-append, length-drop, take-append-le}
use Rattle.std.proofs.Math.ListN.{drop_of_length-le}
use Rattle.std.proofs.Math.Seq.{drop-append_seam, take-length}
use Rattle.lc_model.proofs.Facts.{tested_less, tested_not_less}
use Rattle.flight_core.specs.Feeding.{Feeding}
use Rattle.scenarios.specs.Declarations.{Declarations}
use Rattle.run_stepper.specs.Places.{end_behind, host_after, length_before}
use Rattle.run_stepper.specs.Steps.{Step, bytes_of}
use Rattle.run_stepper.specs.Trace.{size_in_front}
use Rattle.scenario_trial.specs.declared.probe.Finding.{Finding}
use Rattle.scenario_trial.specs.ProbedLine.{ProbedLine}
use Rattle.scenario_trial.specs.Probes.{AreAhead, AreFrom, end_in_front, finding_of, findings_before, is_before}
use Rattle.scenario_trial.specs.Probing.{AreProbed, IsProbed}

-- ---- lists

zip_append : {A B : Type 0} (R : A → B → Type 0) (xs ys : List A) (zs bs : List B) → AllZip R xs zs → AllZip R ys bs → AllZip R (xs ++ ys) (zs ++ bs)
zip_append R [] ys [] bs one other = other
zip_append R [] ys (z ∷ zs) bs one other = absurd one
zip_append R (x ∷ xs) ys [] bs one other = absurd one
zip_append R (x ∷ xs) ys (z ∷ zs) bs one other = (one.0, zip_append R xs ys zs bs one.1 other)

zip_long : {A B : Type 0} (R : A → B → Type 0) (xs : List A) (zs : List B) → AllZip R xs zs → length zs ≡ length xs
zip_long R [] [] all = refl
zip_long R [] (z ∷ zs) all = absurd all
zip_long R (x ∷ xs) [] all = absurd all
zip_long R (x ∷ xs) (z ∷ zs) all = ap suc (zip_long R xs zs all.1)

zip_so : {A B : Type 0} (R S : A → B → Type 0) → ((x : A) (a : B) → R x a → S x a) → (xs : List A) (zs : List B) → AllZip R xs zs → AllZip S xs zs
zip_so R S so [] [] all = tt
zip_so R S so [] (z ∷ zs) all = absurd all
zip_so R S so (x ∷ xs) [] all = absurd all
zip_so R S so (x ∷ xs) (z ∷ zs) all = (so x z all.0, zip_so R S so xs zs all.1)

-- ---- the order of lines

from_before : (place before : ℕ) (lines : List ProbedLine) → before ≤ place → AreFrom place lines → AreFrom before lines
from_before place before [] on is = tt
from_before place before (line ∷ lines) on is = (omega (arith, on, is.0), is.1)

pub from_ahead : (place : ℕ) (starts : List ℕ) (lines : List ProbedLine) → AreAhead place starts lines → AreFrom place lines
from_ahead place starts [] is = tt
from_ahead place starts (line ∷ lines) is = (is.2, from_ahead line.place starts lines is.3)

-- ---- a step more

bytes_more : (steps : List Step) (step : Step) → bytes_of (steps ++ step ∷ []) ≡ bytes_of steps ++ step.bytes
bytes_more [] step = append-nil step.bytes
bytes_more (one ∷ steps) step = ap (λ more. one.bytes ++ more) (bytes_more steps step) ∙ sym (append_assoc one.bytes (bytes_of steps) step.bytes)

pub length_more : (steps : List Step) (step : Step) → length (bytes_of (steps ++ step ∷ [])) ≡ length (bytes_of steps) + length step.bytes
length_more steps step = ap length (bytes_more steps step) ∙ length-append (bytes_of steps) step.bytes

host_kept : (first : Feeding) (steps : List Step) (step : Step) (count : ℕ) → count ≤ length steps → host_after first (steps ++ step ∷ []) count ≡ host_after first steps count
host_kept first steps step zero within = refl
host_kept first [] step (suc count) within = absurd (omega (arith, within))
host_kept first (one ∷ steps) step (suc count) within = host_kept one.host steps step count (omega (arith, within))

pub host_last : (first : Feeding) (steps : List Step) (step : Step) → host_after first (steps ++ step ∷ []) (length (steps ++ step ∷ [])) ≡ step.host
host_last first [] step = refl
host_last first (one ∷ steps) step = host_last one.host steps step

length_kept : (steps : List Step) (step : Step) (count : ℕ) → count ≤ length steps → length_before (steps ++ step ∷ []) count ≡ length_before steps count
length_kept steps step count within = ap (λ (some : List Step). length (bytes_of some)) (take-append-le count steps (step ∷ []) within)

end_kept : (stream : List ℕ) (steps : List Step) (step : Step) (count : ℕ) → count ≤ length steps → end_behind stream (steps ++ step ∷ []) count ≡ end_behind stream steps count
end_kept stream steps step count within = ap (λ k. k + size_in_front (drop k stream)) (length_kept steps step count within)

last_end : (stream : List ℕ) (steps : List Step) → end_behind stream steps (length steps) ≡ (let k : ℕ = length (bytes_of steps) in k + size_in_front (drop k stream))
last_end stream steps = ap (λ (some : List Step). let k : ℕ = length (bytes_of some) in k + size_in_front (drop k stream)) (take-length steps)

one_more : (steps : List Step) (step : Step) → length (steps ++ step ∷ []) ≡ length steps + 1
one_more steps step = length-append steps (step ∷ [])

-- what was found stays so
module _ (declared : Declarations) (stream : List ℕ) (start : Feeding) (steps : List Step) (step : Step) (goes_on : length (bytes_of steps) < length stream) where
  kept : (line : ProbedLine) (finding : Finding) → IsProbed declared stream start steps line finding → IsProbed declared stream start (steps ++ step ∷ []) line finding
  kept line finding is =
      let many = one_more steps step in
      let same = end_kept stream steps step is.count is.reached.within in
      record {
        count = is.count;
        reached = record {
          within = omega (arith, many, is.reached.within);
          late = λ before less. omega (arith, end_kept stream steps step before (omega (arith, less, is.reached.within)), is.reached.late before less);
          early = λ less. omega (arith, same, is.more goes_on);
        };
        more = λ _. omega (arith, same, is.more goes_on);
        finds = is.finds ∙ ap (λ host. finding_of declared host line) (sym (host_kept start steps step is.count is.reached.within));
      }

-- ---- what the next lines find

-- what is known of the lines that were left, before those find something that come before the end of the next record
module _ (declared : Declarations) (stream : List ℕ) (start : Feeding) (steps : List Step) where
  abbrev find : ProbedLine → Finding
  find = finding_of declared (host_after start steps (length steps))

  record Goes (left : List ProbedLine) (findings : List Finding) : Type 0 where
    now : List ProbedLine
    later : List ProbedLine
    parts : left ≡ now ++ later
    found : AllZip (IsProbed declared stream start steps) now findings
    ascend : AreFrom 0 later
    late : (before : ℕ) → before ≤ length steps → AreFrom (end_behind stream steps before) later
    over : length stream ≤ length (bytes_of steps) → later ≡ []

  module _ (end : Option ℕ) (goes_on : length (bytes_of steps) < length stream → end ≡ Some (end_behind stream steps (length steps)))
      (ends : length stream ≤ length (bytes_of steps) → end ≡ None) where
    before_it : (line : ProbedLine) → is_before end line.place ≡ true → length (bytes_of steps) < length stream → line.place < end_behind stream steps (length steps)
    before_it line is on =
        let that : nat_lt line.place (end_behind stream steps (length steps)) ≡ true = ap (λ e. is_before e line.place) (sym (goes_on on)) ∙ is in
        tested_less line.place (end_behind stream steps (length steps)) that

    behind_it : (line : ProbedLine) → is_before end line.place ≡ false → length (bytes_of steps) < length stream → end_behind stream steps (length steps) ≤ line.place
    behind_it line is on =
        let that : nat_lt line.place (end_behind stream steps (length steps)) ≡ false = ap (λ e. is_before e line.place) (sym (goes_on on)) ∙ is in
        tested_not_less line.place (end_behind stream steps (length steps)) that

    some_end : (line : ProbedLine) → is_before end line.place ≡ false → length stream ≤ length (bytes_of steps) → ⊥
    some_end line is on =
        let that : true ≡ false = ap (λ e. is_before e line.place) (sym (ends on)) ∙ is in
        cc that

    probed : (line : ProbedLine) → ((before : ℕ) → before < length steps → end_behind stream steps before ≤ line.place) → is_before end line.place ≡ true → IsProbed declared stream start steps line (find line)
    probed line late is = record {
      count = length steps;
      reached = record {
        within = omega arith;
        late = late;
        early = λ less. absurd (omega (arith, less));
      };
      more = before_it line is;
      finds = refl;
    }

    not_before : (line : ProbedLine) → is_before end line.place ≡ false → end_behind stream steps (length steps) ≤ line.place
    not_before line is = by_rest (nat_lt (length (bytes_of steps)) (length stream)) refl
      where
        by_rest : (b : Bool) → nat_lt (length (bytes_of steps)) (length stream) ≡ b → end_behind stream steps (length steps) ≤ line.place
        by_rest true less = behind_it line is (tested_less (length (bytes_of steps)) (length stream) less)
        by_rest false none = absurd (some_end line is (tested_not_less (length (bytes_of steps)) (length stream) none))

    reaches : (line : ProbedLine) → ((before : ℕ) → before < length steps → end_behind stream steps before ≤ line.place) → end_behind stream steps (length steps) ≤ line.place →
        (before : ℕ) → before ≤ length steps → end_behind stream steps before ≤ line.place
    reaches line late last before on = by_test (nat_lt before (length steps)) refl
      where
        by_test : (b : Bool) → nat_lt before (length steps) ≡ b → end_behind stream steps before ≤ line.place
        by_test true less = late before (tested_less before (length steps) less)
        by_test false none =
            let same : before ≡ length steps = omega (arith, on, tested_not_less before (length steps) none) in
            subst (λ k. end_behind stream steps k ≤ line.place) (sym same) last

    go : (left : List ProbedLine) → AreFrom 0 left → ((before : ℕ) → before < length steps → AreFrom (end_behind stream steps before) left) → Goes left (findings_before find end left)
    go [] ascend late = record { now = []; later = []; parts = refl; found = tt; ascend = tt; late = λ before on. tt; over = λ _. refl }
    go (line ∷ left) ascend late = by_test (is_before end line.place) refl (go left)
      where
        others : (before : ℕ) → before < length steps → AreFrom (end_behind stream steps before) left
        others before less = from_before line.place (end_behind stream steps before) left (late before less).0 (late before less).1

        by_test : (b : Bool) → is_before end line.place ≡ b →
            (AreFrom 0 left → ((before : ℕ) → before < length steps → AreFrom (end_behind stream steps before) left) → Goes left (findings_before find end left)) →
            Goes (line ∷ left) (if b then find line ∷ findings_before find end left else [])
        by_test true is rest =
            let more : Goes left (findings_before find end left) = rest (from_before line.place 0 left (omega arith) ascend.1) others in
            record {
              now = line ∷ more.now;
              later = more.later;
              parts = ap (λ them. line ∷ them) more.parts;
              found = (probed line (λ before less. (late before less).0) is, more.found);
              ascend = more.ascend;
              late = more.late;
              over = more.over;
            }
        by_test false is rest = record {
          now = [];
          later = line ∷ left;
          parts = refl;
          found = tt;
          ascend = ascend;
          late = λ before on. (reaches line (λ earlier less. (late earlier less).0) (not_before line is) before on, ascend.1);
          over = λ ended. absurd (some_end line is ended);
        }

-- ---- a record more

left_over : {A B : Type 0} (R : A → B → Type 0) (all done left : List A) (found : List B) → all ≡ done ++ left → AllZip R done found → drop (length found) all ≡ left
left_over R all done left found parts each =
    ap (λ k. drop k all) (zip_long R done found each)
    ∙ ap (drop (length done)) parts
    ∙ drop-append_seam done left

some_left : (place : ℕ) (rest : List ℕ) → 0 < length rest → end_in_front place rest ≡ Some (place + size_in_front rest)
some_left place [] some = absurd (omega (arith, some))
some_left place (byte ∷ rest) some = refl

end_is : (stream : List ℕ) (steps : List Step) → length (bytes_of steps) < length stream →
    end_in_front (length (bytes_of steps)) (drop (length (bytes_of steps)) stream) ≡ Some (end_behind stream steps (length steps))
end_is stream steps less =
    some_left (length (bytes_of steps)) (drop (length (bytes_of steps)) stream) (omega (arith, less, length-drop (length (bytes_of steps)) stream))
    ∙ ap Some (sym (last_end stream steps))

none_is : (place : ℕ) (stream : List ℕ) → length stream ≤ place → end_in_front place (drop place stream) ≡ None
none_is place stream none = ap (end_in_front place) (drop_of_length-le stream none)

-- what is found after these steps, and what the next lines find
module _ (declared : Declarations) (stream : List ℕ) (start : Feeding) (steps : List Step) (lines : List ProbedLine) where
  abbrev there : List ProbedLine → List Finding
  there left = findings_before (find declared stream start steps) (end_in_front (length (bytes_of steps)) (drop (length (bytes_of steps)) stream)) left

  going : (left : List ProbedLine) → AreFrom 0 left → ((before : ℕ) → before < length steps → AreFrom (end_behind stream steps before) left) → Goes declared stream start steps left (there left)
  going = go declared stream start steps (end_in_front (length (bytes_of steps)) (drop (length (bytes_of steps)) stream))
      (end_is stream steps) (none_is (length (bytes_of steps)) stream)

  joined : (done left : List ProbedLine) (found : List Finding) → lines ≡ done ++ left → AllZip (IsProbed declared stream start steps) done found → Goes declared stream start steps left (there left) →
      AreProbed declared stream start steps lines (found ++ there left)
  joined done left found parts each goes = record {
    done = done ++ goes.now;
    left = goes.later;
    parts = parts ∙ ap (λ them. done ++ them) goes.parts ∙ sym (append_assoc done goes.now goes.later);
    found = zip_append (IsProbed declared stream start steps) done goes.now found (there left) each goes.found;
    ascend = goes.ascend;
    late = goes.late;
    over = goes.over;
  }

pub first_probed : (declared : Declarations) (stream : List ℕ) (start : Feeding) (lines : List ProbedLine) (findings : List Finding) → AreFrom 0 lines →
    findings ≡ findings_before (finding_of declared start) (end_in_front 0 (drop 0 stream)) (drop 0 lines) → AreProbed declared stream start [] lines findings
first_probed declared stream start lines findings ascend are =
    subst (AreProbed declared stream start [] lines) (sym are)
    (joined declared stream start [] lines [] lines [] refl tt (going declared stream start [] lines lines ascend (λ before less. absurd (omega (arith, less)))))

module _ (declared : Declarations) (stream : List ℕ) (start : Feeding) (steps : List Step) (step : Step) (lines : List ProbedLine) (old : List Finding) (is : AreProbed declared stream start steps lines old)
    (goes_on : length (bytes_of steps) < length stream) where
  abbrev after : List Step
  after = steps ++ step ∷ []

  late_now : (before : ℕ) → before < length after → AreFrom (end_behind stream after before) is.left
  late_now before less =
      let on : before ≤ length steps = omega (arith, less, one_more steps step) in
      subst (λ k. AreFrom k is.left) (sym (end_kept stream steps step before on)) (is.late before on)

  pub more_probed : (place : ℕ) (new : List Finding) → place ≡ length (bytes_of steps) + length step.bytes →
      new ≡ old ++ findings_before (finding_of declared step.host) (end_in_front place (drop place stream)) (drop (length old) lines) → AreProbed declared stream start after lines new
  more_probed place new same are =
      let here : place ≡ length (bytes_of after) = same ∙ sym (length_more steps step) in
      let rest : drop (length old) lines ≡ is.left = left_over (IsProbed declared stream start steps) lines is.done is.left old is.parts is.found in
      let those : new ≡ old ++ there declared stream start after lines is.left =
      are
      ∙ ap (λ host. old ++ findings_before (finding_of declared host) (end_in_front place (drop place stream)) (drop (length old) lines)) (sym (host_last start steps step))
      ∙ ap (λ k. old ++ findings_before (find declared stream start after) (end_in_front k (drop k stream)) (drop (length old) lines)) here
      ∙ ap (λ left. old ++ there declared stream start after lines left) rest in
      subst (AreProbed declared stream start after lines) (sym those)
      (joined declared stream start after lines is.done is.left old is.parts
      (zip_so (IsProbed declared stream start steps) (IsProbed declared stream start after) (kept declared stream start steps step goes_on) is.done old is.found)
      (going declared stream start after lines is.left is.ascend late_now))

-- ---- at the end

pub all_probed : (declared : Declarations) (stream : List ℕ) (start : Feeding) (steps : List Step) (lines : List ProbedLine) (findings : List Finding) → AreProbed declared stream start steps lines findings →
    length stream ≤ length (bytes_of steps) → AllZip (IsProbed declared stream start steps) lines findings
all_probed declared stream start steps lines findings is over =
    let all : lines ≡ is.done = is.parts ∙ ap (λ left. is.done ++ left) (is.over over) ∙ append-nil is.done in
    subst (λ these. AllZip (IsProbed declared stream start steps) these findings) (sym all) is.found
