use Rattle.std.proofs.Common.{◌≡◌, ap, ◌∙◌, length, arith, Err, take}
use Rattle.lc_model.specs.Bytes.{u16_at}
use Rattle.lc_model.specs.Name.{name_in}
use Rattle.lc_model.specs.Events.Log.{FilterSet}
use Rattle.lc_model.specs.Services.Events.{commanded}
use Rattle.app_host.proofs.EventsRead.{of_size}
use Rattle.app_host.proofs.event_commands.set_filter.Goals as goal

pub returns-in-Ok-clause-answer : goal.returns-in-Ok-clause-answer
returns-in-Ok-clause-answer c =
    let long : length c.args.payload.now ≡ 24 = grind (arith, c.if-payload-ne24.false) in
    of_size 24 c.args.payload.now (name_in (take 20 c.args.payload.now), FilterSet (u16_at c.args.payload.now 20) (u16_at c.args.payload.now 22)) c.args.events.now _ long (c.in-Ok.ensures.answer ∙ (λ i. commanded (c.name_in.ensures.name i) (FilterSet (c.u16_at.ensures i) (c.u16_at-2.ensures i)) c.args.events.now))

pub returns-in-Err-clause-answer : goal.returns-in-Err-clause-answer
returns-in-Err-clause-answer c =
    let long : length c.args.payload.now ≡ 24 = grind (arith, c.if-payload-ne24.false) in
    of_size 24 c.args.payload.now (name_in (take 20 c.args.payload.now), FilterSet (u16_at c.args.payload.now 20) (u16_at c.args.payload.now 22)) c.args.events.now _ long (ap Err c.of_events.ensures ∙ c.in-Err.ensures.answer ∙ (λ i. commanded (c.name_in.ensures.name i) (FilterSet (c.u16_at.ensures i) (c.u16_at-2.ensures i)) c.args.events.now))
