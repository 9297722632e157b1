-- What the lines of expectations found.
use Rattle.std.proofs.Common.{◌≡◌, refl, sym, ◌∙◌, ap, subst, ℕ, true, List, [], ◌∷◌, map, Ok}
use Rattle.std.specs.List.{AllByRecursion, AllZip}
use Rattle.flight_core.specs.Compiled.{sources_of}
use Rattle.lc_model.specs.Host.Schedule.{Schedule}
use Rattle.run_stepper.specs.Trace.{IsTraced, Traced}
use Rattle.scenarios.specs.Declarations.{Declarations}
use Rattle.scenarios.specs.Plain.{PlainScript}
use Rattle.stream_script.specs.Script.{script_in}
use Rattle.scenario_trial.specs.declared.expectation_lines.Placed.{Placed}
use Rattle.scenario_trial.specs.declared.probe.Finding.{Finding}
use Rattle.scenario_trial.specs.declared.probing.Trial.{Trial}
use Rattle.scenario_trial.specs.declared.probing.TrialRun.{TrialRun}
use Rattle.scenario_trial.specs.declared.trial.JudgedRun.{JudgedRun}
use Rattle.scenario_trial.specs.Arrivals.{IsFound, is_whole, placed_in}
use Rattle.scenario_trial.specs.Outcomes.{IsJudgedRun}
use Rattle.scenario_trial.specs.Probes.{expected_line, judged_by}
use Rattle.scenario_trial.specs.Probing.{AreFoundThere, HasGoneOver, HasTraced, IsFoundThere, IsRunOver}
use Rattle.scenario_trial.specs.Reading.{silenced_in}

module _ (sources : List (List ℕ)) (schedule : Schedule) (declared : Declarations) (script starts : List ℕ) where
  pub each_judged : (ps : List Placed) (findings : List Finding) → AllZip (IsFoundThere sources schedule declared script) (map (expected_line starts) ps) findings → map placed_in (judged_by ps findings) ≡ ps
  each_judged [] findings all = refl
  each_judged (p ∷ ps) [] all = absurd all
  each_judged (p ∷ ps) (finding ∷ findings) all = ap (λ others. p ∷ others) (each_judged ps findings all.1)

  pub all_found : (ps : List Placed) (findings : List Finding) → AllZip (IsFoundThere sources schedule declared script) (map (expected_line starts) ps) findings →
      AllByRecursion (IsFound sources schedule declared script) (judged_by ps findings)
  all_found [] findings all = tt
  all_found (p ∷ ps) [] all = absurd all
  all_found (p ∷ ps) (finding ∷ findings) all = (all.0, all_found ps findings all.1)

-- what a whole run comes to, where what is the same has several names
pub judged_so : (it : Trial) (plain : PlainScript) (ps : List Placed) (stream starts' : List ℕ) (findings' : List Finding) (run : TrialRun) (judged : JudgedRun) →
    it.script.now ≡ silenced_in plain.script → script_in it.script.now ≡ Ok stream → it.stream.now ≡ stream → it.probes.now ≡ map (expected_line starts') ps → findings' ≡ run.findings.items →
    HasTraced it run → is_whole run.trace.ending ≡ true → HasGoneOver it run → AreFoundThere it run.findings.items →
    judged.trace ≡ run.trace → judged.account ≡ run.account → judged.judged.items ≡ judged_by ps findings' →
    IsJudgedRun (sources_of it.inputs.texts.now) it.inputs.schedule.now it.declared.now plain ps judged
judged_so it plain ps stream starts' findings' run judged silent says same lines as_well traced whole over found trace account are =
    let sources : List (List ℕ) = sources_of it.inputs.texts.now in
    let schedule : Schedule = it.inputs.schedule.now in
    let each : AllZip (IsFoundThere sources schedule it.declared.now it.script.now) (map (expected_line starts') ps) run.findings.items =
    subst (λ them. AllZip (IsFoundThere sources schedule it.declared.now it.script.now) them run.findings.items) lines found in
    let judgments : judged.judged.items ≡ judged_by ps run.findings.items = are ∙ ap (judged_by ps) as_well in
    record {
      stream = it.stream.now;
      says = ap script_in (sym silent) ∙ says ∙ ap Ok (sym same);
      traced = subst (IsTraced sources schedule it.stream.now) (sym trace) traced;
      whole = ap (λ (t : Traced). is_whole t.ending) trace ∙ whole;
      over = subst (IsRunOver sources schedule it.stream.now judged.trace) (sym account) (subst (λ (t : Traced). IsRunOver sources schedule it.stream.now t run.account) (sym trace) over);
      each = ap (map placed_in) judgments ∙ each_judged sources schedule it.declared.now it.script.now starts' ps run.findings.items each;
      found = subst (AllByRecursion (IsFound sources schedule it.declared.now (silenced_in plain.script))) (sym judgments)
          (subst (λ script. AllByRecursion (IsFound sources schedule it.declared.now script) (judged_by ps run.findings.items)) silent
          (all_found sources schedule it.declared.now it.script.now starts' ps run.findings.items each));
    }
