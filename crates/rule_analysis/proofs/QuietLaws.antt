-- A rule that never fails asks for nothing.
use Rattle.std.proofs.Common.{◌≡◌, ℕ, ◌+◌, ◌≤◌, Bool, true, false, ◌&&◌, List, [], ◌∷◌, ◌++◌, nat_le, refl, ap, ◌∙◌, arith, if◌then◌else◌}
use Rattle.std.specs.Prelude.{IsFalse, ◌≢◌}
use Rattle.lc_model.specs.declared.truth.Truth.{Truth}
use Rattle.lc_model.specs.declared.truth.Truth.TheVariants.{True, False, Stale, Error}
use Rattle.lc_model.specs.declared.mode.LcMode.{LcMode}
use Rattle.lc_model.specs.declared.mode.ApResult.TheVariants as result
use Rattle.lc_model.specs.Rule.{Actionpoint}
use Rattle.lc_model.specs.Events.Request.{Request, turned_to_fail, turned_to_pass}
use Rattle.lc_model.specs.Count.{capped}
use Rattle.lc_model.specs.LimitChecker.Watch.{truth_of, result_of, result_of_truth}
use Rattle.lc_model.specs.LimitChecker.Past.{Past, Sample, is_result, run_of_fails, has_turned, turns}
use Rattle.lc_model.specs.LimitChecker.Reaction.{Reaction, reaction, turn_reports, on_failure}
use Rattle.rule_analysis.specs.Quiet.{HasNoFailure, QuietRulesStayQuiet}

no_fail : (x : Truth) → x ≢ True → IsFalse (is_result result.Fail (result_of_truth x))
no_fail True n = absurd (n refl)
no_fail False n = refl
no_fail Stale n = refl
no_fail Error n = refl

no_run : (sample : Sample) (past : Past) → IsFalse (is_result result.Fail sample.result) → run_of_fails (sample ∷ past) ≡ 0
no_run sample past e = ap (λ test. if test then 1 + run_of_fails past else 0) e

no_turn_to_fail : (sample : Sample) (past : Past) → IsFalse (is_result result.Fail sample.result) → has_turned result.Pass result.Fail (sample ∷ past) ≡ false
no_turn_to_fail sample [] e = refl
no_turn_to_fail sample (old ∷ past) e = ap (λ test. is_result result.Pass old.result && test) e ∙ and_false (is_result result.Pass old.result)
  where
    and_false : (b : Bool) → (b && false) ≡ false
    and_false true = refl
    and_false false = refl

no_turn_to_pass : (sample : Sample) (past : Past) → HasNoFailure past → has_turned result.Fail result.Pass (sample ∷ past) ≡ false
no_turn_to_pass sample [] all = refl
no_turn_to_pass sample (old ∷ past) all = ap (λ test. test && is_result result.Pass sample.result) all.0

never_enough : (fails run : ℕ) → 1 ≤ fails → run ≡ 0 → nat_le fails run ≡ false
never_enough fails run counts e = grind arith

-- what a sample that does not fail leads to, behind others that do not
pub quiet_reaction : (rule : Actionpoint) (number : ℕ) (mode : LcMode) (sample : Sample) (past : Past) → 1 ≤ rule.fails →
    IsFalse (is_result result.Fail sample.result) → HasNoFailure past →
    reaction rule number mode (sample ∷ past) ≡ record { requests = []; state = sample.state }
quiet_reaction rule number mode sample past counts passes all =
    ap by_enough (never_enough rule.fails (run_of_fails (sample ∷ past)) counts (no_run sample past passes))
    ∙ ap (λ reports. record { requests = reports ++ []; state = sample.state })
    (ap to_fail (no_turn_to_fail sample past passes) ∙ ap to_pass (no_turn_to_pass sample past all))
  where
    by_enough : Bool → Reaction
    by_enough test =
        let failure : Reaction = if test then on_failure rule number mode sample.state (sample ∷ past) else record { requests = []; state = sample.state } in
        record { requests = turn_reports rule number (sample ∷ past) ++ failure.requests; state = failure.state }

    to_pass : Bool → List Request
    to_pass test = if test && nat_le (capped (turns result.Fail result.Pass (sample ∷ past))) rule.report.fail_to_pass then turned_to_pass number ∷ [] else []

    to_fail : Bool → List Request
    to_fail test = if test && nat_le (capped (turns result.Pass result.Fail (sample ∷ past))) rule.report.pass_to_fail then turned_to_fail number ∷ []
        else to_pass (has_turned result.Fail result.Pass (sample ∷ past))

pub quiet_rules_stay_quiet : QuietRulesStayQuiet
quiet_rules_stay_quiet terms mode history number rule point quiet all =
    let passes = no_fail (truth_of rule.condition history) (quiet.never history) in
    let same = quiet_reaction rule number mode (record { result = result_of rule.condition history; state = point.state }) point.past quiet.counts passes all in
    record {
      asks = ap (λ (r : Reaction). r.requests) same;
      state = ap (λ (r : Reaction). r.state) same;
      past = (passes, all);
    }
