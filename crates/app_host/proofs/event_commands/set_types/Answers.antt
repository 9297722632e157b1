use Rattle.std.proofs.Common.{◌≡◌, ap, ◌∙◌, length, arith, Err, take}
use Rattle.std.specs.Prelude.{slice_index, ◌%◌}
use Rattle.lc_model.specs.Name.{name_in}
use Rattle.lc_model.specs.Events.Log.{TypesSet}
use Rattle.lc_model.specs.Services.Events.{commanded}
use Rattle.app_host.proofs.EventsRead.{of_size}
use Rattle.app_host.proofs.event_commands.set_types.Goals as goal

pub returns-in-Ok-clause-answer : goal.returns-in-Ok-clause-answer
returns-in-Ok-clause-answer c =
    let long : length c.args.payload.now ≡ 22 = grind (arith, c.if-payload-ne22.false) in
    of_size 22 c.args.payload.now (name_in (take 20 c.args.payload.now), TypesSet (slice_index c.args.payload.now 20 % 16) c.args.on) c.args.events.now _ long (c.in-Ok.ensures.answer ∙ (λ i. commanded (c.name_in.ensures.name i) (TypesSet (c.of_command-types.ensures i) c.args.on) c.args.events.now))

pub returns-in-Err-clause-answer : goal.returns-in-Err-clause-answer
returns-in-Err-clause-answer c =
    let long : length c.args.payload.now ≡ 22 = grind (arith, c.if-payload-ne22.false) in
    of_size 22 c.args.payload.now (name_in (take 20 c.args.payload.now), TypesSet (slice_index c.args.payload.now 20 % 16) c.args.on) c.args.events.now _ long (ap Err c.of_events.ensures ∙ c.in-Err.ensures.answer ∙ (λ i. commanded (c.name_in.ensures.name i) (TypesSet (c.of_command-types.ensures i) c.args.on) c.args.events.now))
