use Rattle.std.proofs.Common.{refl, ap, ◌∙◌, arith, rules}
use Rattle.std.specs.Prelude.{Some, option_map}
use Rattle.lc_model.specs.Command.{event_command_in}
use Rattle.lc_model.specs.Events.Request.{event_services, command_done, command_refused}
use Rattle.lc_model.specs.Services.Events.{EventService, sender_at}
use Rattle.app_host.specs.Telling.{name_of}
use Rattle.app_host.proofs.EventsObeyed.{names_stay, whole_obeyed, is_obeyed, is_not_obeyed}
use Rattle.app_host.proofs.Responding.{events_obeyed, events_refused}
use Rattle.lc_model.proofs.Services.SenderLaws.{commands_by_name}
use Rattle.lc_model.proofs.Services.TableNames.{tables_are_found}
use Rattle.app_host.proofs.host.Host.obey_events.Goals as goal

pub tell_alone-requires : goal.tell_alone-requires
tell_alone-requires g c = (
  omega arith,
  (
    whole_obeyed tables_are_found commands_by_name _ _ c.args.packet.now c.requires.whole c.is_service.ensures
        (record { stock = refl; seats = refl; is_closed = refl; bus = refl; tables = refl; counts = refl; moment = refl; outgoing = refl })
        (names_stay (event_command_in c.args.packet.now) c.args.self.now.services.events c.obey.new.events c.in-Ok.ensures.answer),
    (search rules, search rules),
  ),
)

pub tell_alone-requires-in-Err : goal.tell_alone-requires-in-Err
tell_alone-requires-in-Err g c = (
  omega arith,
  (
    whole_obeyed tables_are_found commands_by_name _ _ c.args.packet.now c.requires.whole c.is_service.ensures
        (record { stock = refl; seats = refl; is_closed = refl; bus = refl; tables = refl; counts = refl; moment = refl; outgoing = refl })
        (record { sent = ap (λ (x : EventService). x.sent) c.in-Err.ensures.refused; names = λ seat. ap (λ (x : EventService). option_map name_of (sender_at (Some seat) x)) c.in-Err.ensures.refused }),
    (search rules, search rules),
  ),
)

pub returns-in-Ok-clause-handled : goal.returns-in-Ok-clause-handled
returns-in-Ok-clause-handled g c =
    is_obeyed tables_are_found commands_by_name _ _ c.args.packet.now c.requires.whole c.is_service.ensures
    (record { stock = refl; seats = refl; is_closed = refl; bus = refl; tables = refl; counts = refl; moment = refl; outgoing = refl })
    c.in-Ok.ensures.answer _ (c.command_done-text.ensures ∙ ap (command_done event_services) c.function_code.ensures) _ _ _ c.tell_alone.result c.tell_alone.ensures.handled

pub returns-in-Err-clause-handled : goal.returns-in-Err-clause-handled
returns-in-Err-clause-handled g c =
    is_not_obeyed tables_are_found commands_by_name _ _ c.args.packet.now c.requires.whole c.is_service.ensures
    (record { stock = refl; seats = refl; is_closed = refl; bus = refl; tables = refl; counts = refl; moment = refl; outgoing = refl })
    c.in-Err.ensures.refused c.in-Err.numbers c.in-Err.ensures.answer _
    (c.command_refused-text.ensures ∙ ap (command_refused event_services) c.as_slice.ensures.numbers) _ _ _ c.tell_alone-in-Err.result c.tell_alone-in-Err.ensures.handled

pub returns-in-Ok-clause-own : goal.returns-in-Ok-clause-own
returns-in-Ok-clause-own g c =
    events_obeyed _ _ _ refl refl refl (record { bus = refl; counts = refl }) _ _ _ c.tell_alone.result c.tell_alone.ensures.own refl c.args.packet.now _ c.in-Ok.ensures.answer
    (c.command_done-text.ensures ∙ ap (command_done event_services) c.function_code.ensures)

pub returns-in-Err-clause-own : goal.returns-in-Err-clause-own
returns-in-Err-clause-own g c =
    events_refused _ _ _ refl refl refl (record { bus = refl; counts = refl }) _ _ _ c.tell_alone-in-Err.result c.tell_alone-in-Err.ensures.own refl c.in-Err.ensures.refused c.args.packet.now _ c.in-Err.numbers c.in-Err.ensures.answer
    (c.command_refused-text.ensures ∙ ap (command_refused event_services) c.as_slice.ensures.numbers)
