-- What a trial comes to.
use Rattle.std.proofs.Common.{◌≡◌, refl, sym, ◌∙◌, ap, subst, ℕ, List, [], ◌∷◌, length, map, find, None, Result, Ok, Err}
use Rattle.std.specs.Prelude.{IfErr}
use Rattle.std.proofs.lemmas.List.{length-map}
use Rattle.lc_model.specs.Host.Schedule.{Schedule}
use Rattle.scenarios.specs.Declarations.{Declarations, AreDeclared, nothing_declared}
use Rattle.rpn_compiler.specs.TextParts.{AreTextsOf}
use Rattle.rpn_compiler.specs.declared.rule_text.RuleText.{RuleText}
use Rattle.scenarios.specs.Plain.{PlainScript}
use Rattle.scenarios.specs.declared.force.ForceChange.{ForceChange}
use Rattle.scenario_trial.specs.declared.error.TrialError.{TrialError}
use Rattle.scenario_trial.specs.declared.error.TrialError.TheVariants as trial
use Rattle.scenario_trial.specs.declared.trial.JudgedRun.{JudgedRun}
use Rattle.scenario_trial.specs.declared.trial.TrialOutcome.{TrialOutcome}
use Rattle.scenario_trial.specs.declared.trial.Tried.{Tried}
use Rattle.scenario_trial.specs.Outcomes.{IsJudgedRun, IsPlainTried, IsTried}
use Rattle.scenario_trial.specs.Probing.{IsRunOver}
use Rattle.scenario_trial.specs.Warned.{IsWarnedBefore, state_warnings, warnings_of}
use Rattle.scenario_trial.specs.declared.expectation_lines.Placed.{Placed}
use Rattle.scenario_trial.specs.declared.verdict.Judged.{Judged}
use Rattle.scenario_trial.specs.Arrivals.{arrivals_of, has_no_rule, placed_in}
use Rattle.scenario_trial.specs.Judged.{unmet_of}
use Rattle.scenario_trial.specs.Reading.{expectations_in, placed_of}
use Rattle.scenario_trial.specs.Settled.{IsGuessed, IsSettled}
use Rattle.scenario_trial.specs.Untried.{IsPlainUntried, IsUntried}

each_placed : (judged : List Judged) → map (λ (one : Judged). placed_of one.placed) judged ≡ map placed_of (map placed_in judged)
each_placed [] = refl
each_placed (one ∷ others) = ap (λ rest. placed_of one.placed ∷ rest) (each_placed others)

-- what a run and its expectations come to
pub tried_by : (sources : List (List ℕ)) (schedule : Schedule) (texts : List RuleText) (declared : Declarations) (plain : PlainScript) (expectations : List Placed) (run : JudgedRun) (outcome : TrialOutcome) →
    expectations_in plain.script ≡ Ok (map placed_of expectations) → find (has_no_rule declared) (map placed_of expectations) ≡ None → IsJudgedRun sources schedule declared plain expectations run →
    outcome.tried ≡ record { expected = length run.judged.items; unmet = length (unmet_of (arrivals_of run.trace) run.judged.items) } →
    outcome.warnings.items ≡ warnings_of texts declared plain.lines run.judged.items (map placed_of expectations) run.trace.parts → outcome.account ≡ run.account →
    IsPlainTried sources schedule texts declared plain outcome
tried_by sources schedule texts declared plain expectations run outcome expects known is counts warned account = record {
  expectations = map placed_of expectations;
  expects = expects;
  stream = is.stream;
  says = is.says;
  trace = run.trace;
  traced = is.traced;
  whole = is.whole;
  over = subst (IsRunOver sources schedule is.stream run.trace) (sym account) is.over;
  judged = record {
    known = known;
    judged = run.judged.items;
    each = each_placed run.judged.items ∙ ap (map placed_of) is.each;
    found = is.found;
    counted = ap (λ (t : Tried). t.expected) counts ∙ sym (length-map run.judged.items placed_in) ∙ ap length is.each ∙ sym (length-map expectations placed_of);
    counts = ap (λ (t : Tried). t.unmet) counts;
  };
  warned = warned;
}

-- why a plain script isn't tried is why the scenario isn't that is short for it
pub untried_for : (sources : List (List ℕ)) (schedule : Schedule) (text : List ℕ) (declared : Declarations) (plain : PlainScript) (error : TrialError) →
    AreDeclared sources nothing_declared declared → IsGuessed sources schedule declared text plain → IsPlainUntried sources schedule declared plain error → IsUntried sources schedule text error
untried_for sources schedule text declared plain trial.Memory declares short why = tt
untried_for sources schedule text declared plain trial.Write declares short why = tt
untried_for sources schedule text declared plain (trial.Rules number error) declares short why = why
untried_for sources schedule text declared plain (trial.Scenario error) declares short why = absurd why
untried_for sources schedule text declared plain (trial.Unsettled n) declares short why = absurd why
untried_for sources schedule text declared plain (trial.Script error) declares short why = (declared, plain, record { declares = declares; short = short }, why)
untried_for sources schedule text declared plain (trial.Expectation error) declares short why = (declared, plain, record { declares = declares; short = short }, why)
untried_for sources schedule text declared plain (trial.NoRule n) declares short why = (declared, plain, record { declares = declares; short = short }, why)
untried_for sources schedule text declared plain (trial.Stopped n) declares short why = (declared, plain, record { declares = declares; short = short }, why)

pub untried : (sources : List (List ℕ)) (schedule : Schedule) (text : List ℕ) (declared : Declarations) (plain : PlainScript) (result : Result TrialOutcome TrialError) →
    AreDeclared sources nothing_declared declared → IsGuessed sources schedule declared text plain → IfErr result (IsPlainUntried sources schedule declared plain) → IfErr result (IsUntried sources schedule text)
untried sources schedule text declared plain (Ok tried) declares short why = tt
untried sources schedule text declared plain (Err error) declares short why = untried_for sources schedule text declared plain error declares short why

-- what a plain script comes to, with the warnings of the scenario's lines, is what the scenario comes to that is short for it
pub tried_so : (sources : List (List ℕ)) (schedule : Schedule) (text : List ℕ) (texts : List RuleText) (declared : Declarations) (plain : PlainScript) (changes : List ForceChange) (run outcome : TrialOutcome) →
    AreTextsOf sources texts → AreDeclared sources nothing_declared declared → IsSettled sources schedule declared text plain changes → IsPlainTried sources schedule texts declared plain run →
    IsWarnedBefore (state_warnings texts declared plain.lines changes text) run outcome → IsTried sources schedule text outcome
tried_so sources schedule text texts declared plain changes run outcome read declares settled tries warned = record {
  texts = texts;
  read = read;
  declared = declared;
  declares = declares;
  plain = plain;
  changes = changes;
  settled = settled;
  run = run;
  tries = tries;
  warned = warned;
}
