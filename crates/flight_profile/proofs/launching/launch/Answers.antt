use Rattle.flight_profile.proofs.Named.{keeps}
use Rattle.flight_profile.proofs.launching.launch.Goals as goal

pub returns-in-Ok : goal.returns-in-Ok
returns-in-Ok g c = record {
  promises = keeps _ c.args.texts.now c.args.schedule.now _ c.in-Ok.ensures.profile _ _ c.in-Ok.ensures.names c.run_gathered.ensures.promises;
}
