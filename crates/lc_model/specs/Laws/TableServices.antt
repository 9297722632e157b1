-- Laws of the table services: each call keeps their invariant (`IsTableService`).
use Rattle.std.specs.Prelude.{ℕ, List, Option, IfOk}
use Rattle.lc_model.specs.Name.{Name}
use Rattle.lc_model.specs.Tables.Slot.{Slot}
use Rattle.lc_model.specs.Command.{TableCommand}
use Rattle.lc_model.specs.Services.Tables.{TableService, Handle, IsTableService, first_tables, file_put, table_registered, tables_unregistered, table_commanded, slot_changed}

-- Law: new services keep the invariant.
abbrev pub FirstIsSound : Type 0
FirstIsSound = IsTableService first_tables

-- Law: `put_file` keeps the invariant.
abbrev pub FilesStaySound : Type 0
FilesStaySound = (name : Name) (bytes : List ℕ) (service : TableService) → IsTableService service → IfOk (file_put name bytes service) IsTableService

-- Law: `register` keeps the invariant.
abbrev pub RegisteringStaysSound : Type 0
RegisteringStaysSound = (seat : ℕ) (name : Name) (size : ℕ) (other : Option ℕ) (service : TableService) → IsTableService service →
    IfOk (table_registered seat name size other service) IsTableService

-- Law: `unregister` keeps the invariant.
abbrev pub UnregisteringStaysSound : Type 0
UnregisteringStaysSound = (seat : ℕ) (service : TableService) → IsTableService service → IsTableService (tables_unregistered seat service)

-- Law: load, validate, activate and abort keep the invariant.
abbrev pub CommandsStaySound : Type 0
CommandsStaySound = (command : TableCommand) (service : TableService) → IsTableService service → IfOk (table_commanded command service) IsTableService

-- Law: any change of one table's slot keeps the invariant, as `set_verdict`, `take` and `install` do it.
abbrev pub ChangesStaySound : Type 0
ChangesStaySound = (change : Slot (List ℕ) → Slot (List ℕ)) (handle : Handle) (service : TableService) → IsTableService service →
    IsTableService (slot_changed change handle service)
