use Rattle.run_stepper.specs.Watching.{step_shown}
use Rattle.scenario_trial.proofs.Runs.{seen_more}
use Rattle.scenario_trial.proofs.probing.TrialObserverObserver.show.Goals as goal

pub returns : goal.returns
returns c = λ first taken steps has.
    seen_more c.add.result first.trial c.args.self.now.trial first.run c.args.self.now.run c.add.new.self steps (step_shown c.args.stepping.now) has c.add.ensures
