use Rattle.flight_core.specs.Compiled.{sources_of}
use Rattle.run_page.proofs.running.watch_run.Goals as goal

pub returns-clause-shown : goal.returns-clause-shown
returns-clause-shown g c = c.watch_new-run.ensures.shown (sources_of c.args.texts.now) c.args.schedule.now c.in_ok-stepping.ensures.begun
