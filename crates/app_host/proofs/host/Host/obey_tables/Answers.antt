use Rattle.std.proofs.Common.{refl, ap, ◌∙◌, arith, rules}
use Rattle.lc_model.specs.Command.{table_command_in}
use Rattle.lc_model.specs.Events.Request.{table_services, command_done, command_refused}
use Rattle.app_host.proofs.TablesObeyed.{kept_by, whole_obeyed, whole_refused, is_obeyed, is_not_obeyed}
use Rattle.app_host.proofs.Responding.{tables_obeyed, tables_refused}
use Rattle.lc_model.proofs.Services.TableNames.{changing_tables, tables_are_found}
use Rattle.app_host.proofs.host.Host.obey_tables.Goals as goal

pub tell_alone-requires : goal.tell_alone-requires
tell_alone-requires g c = (
  omega arith,
  (
    whole_obeyed _ _ c.requires.whole (record { stock = refl; seats = refl; is_closed = refl; bus = refl; events = refl; counts = refl; moment = refl; outgoing = refl })
        tables_are_found changing_tables c.is_service.ensures
        (kept_by c.table_commands_go_by_names.ensures.forms (table_command_in c.args.packet.now) c.args.self.now.services.tables c.obey-obeyed.new.tables
        c.in-Ok.ensures.answer),
    (search rules, search rules),
  ),
)

pub tell_alone-requires-in-Err : goal.tell_alone-requires-in-Err
tell_alone-requires-in-Err g c = (
  omega arith,
  (
    whole_refused _ _ c.requires.whole (record { stock = refl; seats = refl; is_closed = refl; bus = refl; events = refl; counts = refl; moment = refl; outgoing = refl })
        tables_are_found c.is_service.ensures c.in-Err.ensures.refused,
    (search rules, search rules),
  ),
)

pub returns-in-Ok-clause-handled : goal.returns-in-Ok-clause-handled
returns-in-Ok-clause-handled g c =
    is_obeyed _ _ c.requires.whole (record { stock = refl; seats = refl; is_closed = refl; bus = refl; events = refl; counts = refl; moment = refl; outgoing = refl })
    c.table_commands_go_by_names.ensures.moves c.table_commands_go_by_names.ensures.loads c.is_service.ensures c.args.packet.now c.in-Ok.ensures.answer
    (kept_by c.table_commands_go_by_names.ensures.forms (table_command_in c.args.packet.now) c.args.self.now.services.tables c.obey-obeyed.new.tables
    c.in-Ok.ensures.answer)
    _ (c.command_done-text.ensures ∙ ap (command_done table_services) c.function_code.ensures) _ _ _ c.tell_alone.result c.tell_alone.ensures.handled

pub returns-in-Err-clause-handled : goal.returns-in-Err-clause-handled
returns-in-Err-clause-handled g c =
    is_not_obeyed _ _ c.requires.whole (record { stock = refl; seats = refl; is_closed = refl; bus = refl; events = refl; counts = refl; moment = refl; outgoing = refl })
    c.table_commands_go_by_names.ensures.moves c.table_commands_go_by_names.ensures.loads c.is_service.ensures c.args.packet.now
    c.in-Err.ensures.refused c.in-Err.numbers c.in-Err.ensures.answer
    _ (c.command_refused-text.ensures ∙ ap (command_refused table_services) c.as_slice.ensures.numbers) _ _ _ c.tell_alone-in-Err.result c.tell_alone-in-Err.ensures.handled

pub returns-in-Ok-clause-own : goal.returns-in-Ok-clause-own
returns-in-Ok-clause-own g c =
    tables_obeyed _ _ _ refl refl refl (record { bus = refl; counts = refl }) _ _ _ c.tell_alone.result c.tell_alone.ensures.own refl c.args.packet.now _ c.in-Ok.ensures.answer
    (c.command_done-text.ensures ∙ ap (command_done table_services) c.function_code.ensures)

pub returns-in-Err-clause-own : goal.returns-in-Err-clause-own
returns-in-Err-clause-own g c =
    tables_refused _ _ _ refl refl refl (record { bus = refl; counts = refl }) _ _ _ c.tell_alone-in-Err.result c.tell_alone-in-Err.ensures.own refl c.in-Err.ensures.refused c.args.packet.now _ c.in-Err.numbers c.in-Err.ensures.answer
    (c.command_refused-text.ensures ∙ ap (command_refused table_services) c.as_slice.ensures.numbers)
