use Rattle.std.proofs.Common.{refl, ap, ◌∙◌, arith, rules}
use Rattle.lc_model.specs.Services.Tables.{TableService}
use Rattle.lc_model.specs.Events.Request.{file_refused}
use Rattle.tbl_service.specs.Error.{refusal_of}
use Rattle.app_host.proofs.Filed.{places_stay, whole_filed, is_filed, is_not_filed}
use Rattle.app_host.proofs.Responding.{file_kept, file_turned_away}
use Rattle.lc_model.proofs.Services.TableNames.{storing_files, tables_are_found}
use Rattle.app_host.proofs.host.Host.store_file.Goals as goal

pub tell_alone-requires : goal.tell_alone-requires
tell_alone-requires g c = (
  omega arith,
  (
    whole_filed tables_are_found storing_files _ _ c.args.name.now c.args.bytes.now c.requires.whole c.requires.quiet c.is_service.ensures
        c.is_service-2.ensures (record { stock = refl; seats = refl; is_closed = refl; bus = refl; events = refl; counts = refl; moment = refl; outgoing = refl })
        (places_stay c.args.name.now c.args.bytes.now c.args.self.now.services.tables c.put_file-stored.new.self c.in-Ok.ensures.answer),
    (search rules, search rules),
  ),
)

pub tell_alone-requires-in-Err : goal.tell_alone-requires-in-Err
tell_alone-requires-in-Err g c = (
  omega arith,
  (
    whole_filed tables_are_found storing_files _ _ c.args.name.now c.args.bytes.now c.requires.whole c.requires.quiet c.is_service.ensures
        c.is_service-2.ensures (record { stock = refl; seats = refl; is_closed = refl; bus = refl; events = refl; counts = refl; moment = refl; outgoing = refl })
        (ap (λ (t : TableService). t.places) c.in-Err.ensures.refused),
    (search rules, search rules),
  ),
)

pub returns-in-Ok-clause-handled : goal.returns-in-Ok-clause-handled
returns-in-Ok-clause-handled g c =
    is_filed tables_are_found storing_files _ _ c.args.name.now c.args.bytes.now c.requires.whole c.requires.quiet c.is_service.ensures
    c.is_service-2.ensures (record { stock = refl; seats = refl; is_closed = refl; bus = refl; events = refl; counts = refl; moment = refl; outgoing = refl })
    c.in-Ok.ensures.answer _ c.file_stored-text.ensures _ _ _ c.tell_alone.result c.tell_alone.ensures.handled

pub returns-in-Err-clause-handled : goal.returns-in-Err-clause-handled
returns-in-Err-clause-handled g c =
    is_not_filed tables_are_found storing_files _ _ c.args.name.now c.args.bytes.now c.requires.whole c.requires.quiet c.is_service.ensures
    c.is_service-2.ensures (record { stock = refl; seats = refl; is_closed = refl; bus = refl; events = refl; counts = refl; moment = refl; outgoing = refl })
    c.in-Err.ensures.refused (refusal_of c.in-Err.error) c.in-Err.ensures.answer _
    (c.file_refused-text.ensures ∙ ap file_refused (c.as_slice.ensures.numbers ∙ c.of_tables-numbers.ensures)) _ _ _ c.tell_alone-in-Err.result c.tell_alone-in-Err.ensures.handled

pub returns-in-Ok-clause-own : goal.returns-in-Ok-clause-own
returns-in-Ok-clause-own g c = file_kept _ _ _ refl refl refl (record { bus = refl; counts = refl }) _ _ _ c.tell_alone.result c.tell_alone.ensures.own refl _ c.in-Ok.ensures.answer c.file_stored-text.ensures

pub returns-in-Err-clause-own : goal.returns-in-Err-clause-own
returns-in-Err-clause-own g c =
    file_turned_away _ _ _ refl refl refl (record { bus = refl; counts = refl }) _ _ _ c.tell_alone-in-Err.result c.tell_alone-in-Err.ensures.own refl c.in-Err.ensures.refused _ (refusal_of c.in-Err.error) c.in-Err.ensures.answer
    (c.file_refused-text.ensures ∙ ap file_refused (c.as_slice.ensures.numbers ∙ c.of_tables-numbers.ensures))
