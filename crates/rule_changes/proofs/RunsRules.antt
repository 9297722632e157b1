-- One rule, sampled: its state, its failures in a row and its request, by what they depend on.
use Rattle.std.proofs.Common.{◌≡◌, ℕ, ◌+◌, Bool, true, false, ◌&&◌, List, [], ◌∷◌, ◌++◌, nat_le, refl, ap, ap₂, ◌∙◌, if◌then◌else◌, cond, inl, inr}
use Rattle.std.specs.Prelude.{◌⊎◌}
use Rattle.std.specs.List.{filter}
use Rattle.lc_model.specs.declared.truth.Truth.{Truth}
use Rattle.lc_model.specs.declared.truth.Truth.TheVariants.{True, False, Stale, Error}
use Rattle.lc_model.specs.declared.mode.LcMode.{LcMode}
use Rattle.lc_model.specs.declared.mode.LcMode.TheVariants as mode
use Rattle.lc_model.specs.declared.mode.ApMode.{ApMode}
use Rattle.lc_model.specs.declared.mode.ApMode.TheVariants as state
use Rattle.lc_model.specs.declared.mode.ApResult.TheVariants.{Pass, Fail}
use Rattle.lc_model.specs.declared.command.SampleRequest.{SampleRequest}
use Rattle.lc_model.specs.Count.{capped}
use Rattle.lc_model.specs.Rule.{Actionpoint}
use Rattle.lc_model.specs.Events.Request.{failed_passive, turned_to_fail, turned_to_pass}
use Rattle.lc_model.specs.Command.{takes}
use Rattle.lc_model.specs.LimitChecker.Watch.{History, truth_of, result_of, result_of_truth}
use Rattle.lc_model.specs.LimitChecker.Past.{Past, is_result, has_turned, turns, run_of_fails, quiet_count}
use Rattle.lc_model.specs.LimitChecker.Reaction.{Reaction, turn_reports, on_failure}
use Rattle.lc_model.specs.LimitChecker.Steps.{by_lists, is_sampled, sampled_point}
use Rattle.lc_model.proofs.Host.SameCore.{numbers_in}
use Rattle.rule_analysis.specs.Quiet.{HasNoFailure, IsQuiet, StaysQuiet}
use Rattle.rule_analysis.proofs.QuietLaws.{quiet_rules_stay_quiet}
use Rattle.rule_changes.specs.Runs.{RequestsNone}
use Rattle.rule_changes.proofs.RunsSeats.{Seat, fresh_point, seat_sampled, Change, changed}
use Rattle.rule_changes.proofs.RunsComparison.{numbers-append}

-- the sequence that is requested, by whether the rule failed often enough in a row, its state, and LC's mode
abbrev pub fired : Bool → ApMode → LcMode → ℕ → List ℕ
fired true state.Active mode.Active sequence = sequence ∷ []
fired enough s m sequence = []

-- the state afterwards
abbrev pub state_after : Bool → ApMode → ApMode
state_after true state.Active = state.Passive
state_after enough s = s

no_turns : (rule : Actionpoint) (n : ℕ) (past : Past) → numbers_in (turn_reports rule n past) ≡ []
no_turns rule n past = by_tests (has_turned Pass Fail past && nat_le (capped (turns Pass Fail past)) rule.report.pass_to_fail)
    (has_turned Fail Pass past && nat_le (capped (turns Fail Pass past)) rule.report.fail_to_pass)
  where
    by_tests : (a b : Bool) → numbers_in (if a then turned_to_fail n ∷ [] else if b then turned_to_pass n ∷ [] else []) ≡ []
    by_tests true b = refl
    by_tests false true = refl
    by_tests false false = refl

module _ (rule : Actionpoint) (n : ℕ) (m : LcMode) (past : Past) where
  abbrev failing : Bool → ApMode → Reaction
  failing enough s = if enough then on_failure rule n m s past else record { requests = []; state = s }

  failing_asks : (enough : Bool) (s : ApMode) → numbers_in (failing enough s).requests ≡ fired enough s m rule.sequence
  failing_asks false s = refl
  failing_asks true state.Active = by_mode m
    where
      by_mode : (m : LcMode) → numbers_in (on_failure rule n m state.Active past).requests ≡ fired true state.Active m rule.sequence
      by_mode mode.Active = refl
      by_mode mode.Passive = refl
      by_mode mode.Disabled = refl
  failing_asks true state.Passive = by_test (nat_le (quiet_count rule.fails past) rule.report.passive)
    where
      by_test : (reports : Bool) → numbers_in (if reports then failed_passive n ∷ [] else []) ≡ []
      by_test true = refl
      by_test false = refl
  failing_asks true state.Disabled = refl
  failing_asks true state.PermOff = refl

  failing_state : (enough : Bool) (s : ApMode) → (failing enough s).state ≡ state_after enough s
  failing_state false s = refl
  failing_state true state.Active = refl
  failing_state true state.Passive = refl
  failing_state true state.Disabled = refl
  failing_state true state.PermOff = refl

-- ---- a rule with its point

-- the failures in a row with one more sample
abbrev pub run_with : History → Seat → ℕ
run_with h seat = if is_result Fail (result_of seat.0.condition h) then 1 + run_of_fails seat.1.past else 0

abbrev pub enough_with : History → Seat → Bool
enough_with h seat = nat_le seat.0.fails (run_with h seat)

-- what a request does to a rule, by whether it is sampled
abbrev pub is_taken : SampleRequest → ℕ → Seat → Bool
is_taken request n seat = takes request n && is_sampled seat.1.state

module _ (request : SampleRequest) (m : LcMode) (h : History) (n : ℕ) (seat : Seat) where
  abbrev past_with : Past
  past_with = record { result = result_of seat.0.condition h; state = seat.1.state } ∷ seat.1.past

  pub sampled_asks : numbers_in (sampled_point by_lists [] m h n seat.0 seat.1).1 ≡ fired (enough_with h seat) seat.1.state m seat.0.sequence
  sampled_asks =
      numbers-append (turn_reports seat.0 n past_with) (failing seat.0 n m past_with (enough_with h seat) seat.1.state).requests
      ∙ ap (λ ns. ns ++ numbers_in (failing seat.0 n m past_with (enough_with h seat) seat.1.state).requests) (no_turns seat.0 n past_with)
      ∙ failing_asks seat.0 n m past_with (enough_with h seat) seat.1.state

  pub seat_asks : numbers_in (seat_sampled request m h n seat).1 ≡ (if is_taken request n seat then fired (enough_with h seat) seat.1.state m seat.0.sequence else [])
  seat_asks = by_test (is_taken request n seat)
    where
      by_test : (test : Bool) → numbers_in (if test then sampled_point by_lists [] m h n seat.0 seat.1 else (seat.1, [])).1
          ≡ (if test then fired (enough_with h seat) seat.1.state m seat.0.sequence else [])
      by_test true = sampled_asks
      by_test false = refl

  pub seat_state : (seat_sampled request m h n seat).0.state ≡ (if is_taken request n seat then state_after (enough_with h seat) seat.1.state else seat.1.state)
  seat_state = by_test (is_taken request n seat)
    where
      by_test : (test : Bool) → (if test then sampled_point by_lists [] m h n seat.0 seat.1 else (seat.1, [])).0.state
          ≡ (if test then state_after (enough_with h seat) seat.1.state else seat.1.state)
      by_test true = failing_state seat.0 n m past_with (enough_with h seat) seat.1.state
      by_test false = refl

  pub seat_run : run_of_fails (seat_sampled request m h n seat).0.past ≡ (if is_taken request n seat then run_with h seat else run_of_fails seat.1.past)
  seat_run = by_test (is_taken request n seat)
    where
      by_test : (test : Bool) → run_of_fails (if test then sampled_point by_lists [] m h n seat.0 seat.1 else (seat.1, [])).0.past
          ≡ (if test then run_with h seat else run_of_fails seat.1.past)
      by_test true = refl
      by_test false = refl

-- ---- conditions that are true at the same times

same_fail : (a b : Truth) → (a ≡ True → b ≡ True) → (b ≡ True → a ≡ True) → is_result Fail (result_of_truth a) ≡ is_result Fail (result_of_truth b)
same_fail True True f g = refl
same_fail True False f g = cc (f refl)
same_fail True Stale f g = cc (f refl)
same_fail True Error f g = cc (f refl)
same_fail False True f g = cc (g refl)
same_fail False False f g = refl
same_fail False Stale f g = refl
same_fail False Error f g = refl
same_fail Stale True f g = cc (g refl)
same_fail Stale False f g = refl
same_fail Stale Stale f g = refl
same_fail Stale Error f g = refl
same_fail Error True f g = cc (g refl)
same_fail Error False f g = refl
same_fail Error Stale f g = refl
same_fail Error Error f g = refl

pub same_run : (h : History) (x y : Seat) → (truth_of x.0.condition h ≡ True → truth_of y.0.condition h ≡ True) →
    (truth_of y.0.condition h ≡ True → truth_of x.0.condition h ≡ True) → run_of_fails x.1.past ≡ run_of_fails y.1.past → run_with h x ≡ run_with h y
same_run h x y f g same =
    ap₂ (λ test run. if test then 1 + run else 0) (same_fail (truth_of x.0.condition h) (truth_of y.0.condition h) f g) same

-- ---- rules that request nothing of a set

module _ (wanted : ℕ → Bool) where
  -- of another sequence, or without any failure
  abbrev pub IsSilent : Seat → Type 0
  IsSilent seat = (wanted seat.0.sequence ≡ false) ⊎ (IsQuiet seat.0 × HasNoFailure seat.1.past)

  unwanted : (enough : Bool) (s : ApMode) (m : LcMode) (sequence : ℕ) → wanted sequence ≡ false → filter wanted (fired enough s m sequence) ≡ []
  unwanted true state.Active mode.Active sequence e = ap (λ test. cond test (sequence ∷ []) []) e
  unwanted true state.Active mode.Passive sequence e = refl
  unwanted true state.Active mode.Disabled sequence e = refl
  unwanted true state.Passive m sequence e = refl
  unwanted true state.Disabled m sequence e = refl
  unwanted true state.PermOff m sequence e = refl
  unwanted false s m sequence e = refl

  pub silent_sampled : (request : SampleRequest) (m : LcMode) (h : History) (n : ℕ) (seat : Seat) → IsSilent seat →
      IsSilent (seat.0, (seat_sampled request m h n seat).0) × (filter wanted (numbers_in (seat_sampled request m h n seat).1) ≡ [])
  silent_sampled request m h n seat (inl other) =
      (inl other, ap (filter wanted) (seat_asks request m h n seat) ∙ by_test (is_taken request n seat))
    where
      by_test : (test : Bool) → filter wanted (if test then fired (enough_with h seat) seat.1.state m seat.0.sequence else []) ≡ []
      by_test true = unwanted (enough_with h seat) seat.1.state m seat.0.sequence other
      by_test false = refl
  silent_sampled request m h n seat (inr quiet) = by_test (is_taken request n seat)
    where
      stays : StaysQuiet [] m h n seat.0 seat.1
      stays = quiet_rules_stay_quiet [] m h n seat.0 seat.1 quiet.0 quiet.1

      by_test : (test : Bool) →
          IsSilent (seat.0, (if test then sampled_point by_lists [] m h n seat.0 seat.1 else (seat.1, [])).0)
          × (filter wanted (numbers_in (if test then sampled_point by_lists [] m h n seat.0 seat.1 else (seat.1, [])).1) ≡ [])
      by_test true = (inr (quiet.0, stays.past), ap (λ requests. filter wanted (numbers_in requests)) stays.asks)
      by_test false = (inr quiet, refl)

  pub silent_changed : (change : Change) (seat : Seat) → IsSilent seat → IsSilent (seat.0, changed change seat.1)
  silent_changed change seat (inl other) = inl other
  silent_changed change seat (inr quiet) = inr quiet

  pub silent_fresh : (rule : Actionpoint) → RequestsNone wanted rule → IsSilent (rule, fresh_point rule)
  silent_fresh rule (inl other) = inl other
  silent_fresh rule (inr quiet) = inr (quiet, tt)
