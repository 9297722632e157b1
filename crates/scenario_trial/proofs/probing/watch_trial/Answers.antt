use Rattle.std.proofs.Common.{refl, ap, Some}
use Rattle.run_stepper.specs.Stepping.{host_in}
use Rattle.scenario_trial.proofs.Runs.{watched_so}
use Rattle.scenario_trial.proofs.probing.watch_trial.Goals as goal

pub returns-in-Ok-clause-watched : goal.returns-in-Ok-clause-watched
returns-in-Ok-clause-watched c =
    watched_so c.args.trial.now c.watch-ended.new.observer.trial (host_in c.args.stepping.now) _ _ c.args.run c.watch-ended.new.observer.run _ c.in-Ok.ending c.requires.first
    (c.in-Ok.ensures.watched (record { same = refl; run = λ start is. is })) (ap Some c.new-reader.ensures.left) refl refl refl c.end.ensures
