use Rattle.std.proofs.Common.{◌≡◌, true}
use Rattle.run_stepper.specs.Stepping.{host_in}
use Rattle.scenario_trial.specs.declared.probing.TrialRun.{TrialRun}
use Rattle.scenario_trial.specs.Arrivals.{is_whole}
use Rattle.scenario_trial.specs.Probing.{AreFoundThere, HasTraced, HasWatched}
use Rattle.scenario_trial.proofs.Runs.{found_all, if_ok, traced}
use Rattle.scenario_trial.proofs.probing.run_once.Goals as goal

pub returns-clause-traced : goal.returns-clause-traced
returns-clause-traced c =
    if_ok c.run_from-run.result (HasWatched c.args.trial.now (host_in c.in_ok-stepping.stepping)) (HasTraced c.args.trial.now)
    (λ run watched. traced c.args.trial.now (host_in c.in_ok-stepping.stepping) run c.in_ok-stepping.ensures.begun watched c.steps_are_a_run.ensures) c.run_from-run.ensures.watched

pub returns-clause-found : goal.returns-clause-found
returns-clause-found c =
    if_ok c.run_from-run.result (HasWatched c.args.trial.now (host_in c.in_ok-stepping.stepping)) (λ (run : TrialRun). is_whole run.trace.ending ≡ true → AreFoundThere c.args.trial.now run.findings.items)
    (λ run watched. found_all c.args.trial.now (host_in c.in_ok-stepping.stepping) run c.in_ok-stepping.ensures.begun watched c.runs_are_seen_through.ensures c.requires.starts c.requires.ahead)
    c.run_from-run.ensures.watched
