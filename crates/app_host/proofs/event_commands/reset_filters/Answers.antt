use Rattle.std.proofs.Common.{◌≡◌, ap, ◌∙◌, length, arith, Err}
use Rattle.lc_model.specs.Name.{name_in}
use Rattle.lc_model.specs.Events.Log.{FiltersReset}
use Rattle.lc_model.specs.Services.Events.{commanded}
use Rattle.app_host.proofs.EventsRead.{of_size}
use Rattle.app_host.proofs.event_commands.reset_filters.Goals as goal

pub returns-in-Ok-clause-answer : goal.returns-in-Ok-clause-answer
returns-in-Ok-clause-answer c =
    let long : length c.args.payload.now ≡ 20 = grind (arith, c.if-payload-ne20.false) in
    of_size 20 c.args.payload.now (name_in c.args.payload.now, FiltersReset) c.args.events.now _ long (c.in-Ok.ensures.answer ∙ ap (λ name. commanded name FiltersReset c.args.events.now) c.name_in.ensures.name)

pub returns-in-Err-clause-answer : goal.returns-in-Err-clause-answer
returns-in-Err-clause-answer c =
    let long : length c.args.payload.now ≡ 20 = grind (arith, c.if-payload-ne20.false) in
    of_size 20 c.args.payload.now (name_in c.args.payload.now, FiltersReset) c.args.events.now _ long (ap Err c.of_events.ensures ∙ c.in-Err.ensures.answer ∙ ap (λ name. commanded name FiltersReset c.args.events.now) c.name_in.ensures.name)
