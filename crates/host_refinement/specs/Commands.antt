-- Laws: table commands by name.
use Rattle.std.specs.Prelude.{◌≡◌, ◌⊎◌, List, ℕ, map, Ok, IfOk}
use Rattle.std.specs.List.{AllByRecursion}
use Rattle.lc_model.specs.Name.{Name}
use Rattle.lc_model.specs.Refusal.{◌>>=◌}
use Rattle.lc_model.specs.Tables.HalvesAndBytes.{as_bytes}
use Rattle.lc_model.specs.Tables.InForce.{layouts}
use Rattle.lc_model.specs.Tables.Slot.{Move}
use Rattle.lc_model.specs.Command.{TableCommand, Load, Manage}
use Rattle.lc_model.specs.Kept.Call.{ServicesNow}
use Rattle.lc_model.specs.Kept.Executive.{managed_now}
use Rattle.lc_model.specs.Services.Seen.{files_seen, slot_among}
use Rattle.lc_model.specs.Services.Settled.{form_of, wdt_form, adt_form}
use Rattle.lc_model.specs.Services.Tables.{Table, TableService, IsTableService, table_commanded}

-- The table has the name and the sizes of LC's WDT or ADT.
abbrev pub HasKnownForm : Table → Type 0
HasKnownForm table = (form_of table ≡ wdt_form) ⊎ (form_of table ≡ adt_form)

-- Law: validate, activate and abort change the named slot as in the host in numbers.
abbrev pub MovesByName : Type 0
MovesByName = (move : Move) (name : Name) (service : TableService) (services : ServicesNow (List ℕ)) → IsTableService service →
    services.slots ≡ slot_among service.places →
    managed_now (as_bytes layouts) (Manage move name) services
    ≡ (table_commanded (Manage move name) service >>= (λ after. Ok (record services { slots = slot_among after.places })))

-- Law: a load changes the named slot as in the host in numbers, if all tables are LC's.
abbrev pub LoadsByName : Type 0
LoadsByName = (file : Name) (service : TableService) (services : ServicesNow (List ℕ)) → IsTableService service →
    AllByRecursion (λ (tables : List Table). AllByRecursion HasKnownForm tables) service.places →
    services.slots ≡ slot_among service.places → services.files ≡ files_seen service.files →
    managed_now (as_bytes layouts) (Load file) services
    ≡ (table_commanded (Load file) service >>= (λ after. Ok (record services { slots = slot_among after.places })))

-- Law: commands keep the names, sizes and seats of tables, and the stored files.
abbrev pub CommandsKeepForms : Type 0
CommandsKeepForms = (command : TableCommand) (service : TableService) →
    IfOk (table_commanded command service) (λ (after : TableService). (map (map form_of) after.places ≡ map (map form_of) service.places) × (after.files ≡ service.files))
