use Rattle.std.proofs.Common.{refl, ap, ◌∙◌, ◌+◌, length}
use Rattle.run_stepper.specs.Trace.{Traced}
use Rattle.run_stepper.specs.Watching.{step_shown}
use Rattle.scenario_trial.proofs.Runs.{added}
use Rattle.scenario_trial.proofs.probing.TrialRun.add.Goals as goal

pub returns : goal.returns
returns c = λ start steps has.
    added c.args.trial.now start c.args.self.now _ steps (step_shown c.args.stepping.now) c.in-Some.place has c.in-Some.ensures.goes_on
    (c.in-Some.ensures.after ∙ ap (λ bytes. c.args.self.now.place + length bytes) c.last_record.ensures) refl
    (ap (λ (t : Traced). t.parts) c.in_ok-add.ensures) c.add-requests.ensures.account c.add-requests.ensures.schedule c.in_ok-find_to_next.ensures.found
