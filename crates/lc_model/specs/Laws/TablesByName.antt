-- Laws of the table services by names.
use Rattle.std.specs.Prelude.{◌≡◌, ℕ, ◌<◌, List, [], ◌∷◌, map, length, Option, Some, None, Ok, IfOk}
use Rattle.lc_model.specs.Name.{Name}
use Rattle.lc_model.specs.Refusal.{◌>>=◌}
use Rattle.lc_model.specs.Tables.Slot.{Slot, no_images}
use Rattle.lc_model.specs.Host.React.{stored}
use Rattle.lc_model.specs.Kept.Call.{with_at}
use Rattle.lc_model.specs.Kept.Executive.{seat_count}
use Rattle.lc_model.specs.Services.Tables.{Table, TableService, Handle, IsTableService, tables_at, table_at, file_put, table_registered, tables_unregistered, slot_changed}
use Rattle.lc_model.specs.Services.Seen.{files_seen, meaning_of, slot_among}

-- The map without these names.
abbrev pub withdrawn : {X : Type 0} → List Name → (Name → Option X) → Name → Option X
withdrawn [] held = held
withdrawn (name ∷ names) held = withdrawn names (with_at name None held)

-- Law: a table of a seat is found under its name.
abbrev pub TablesAreFound : Type 0
TablesAreFound = (handle : Handle) (table : Table) (service : TableService) → IsTableService service → table_at handle service.places ≡ Some table →
    slot_among service.places table.name ≡ Some table.slot

-- Law: a table that was just registered has no images; every other name keeps its slot.
abbrev pub RegisteringTables : Type 0
RegisteringTables = (seat : ℕ) (name : Name) (size : ℕ) (other : Option ℕ) (service : TableService) → seat < seat_count → IsTableService service →
    IfOk (table_registered seat name size other service) (λ (after : TableService). slot_among after.places ≡ with_at name (Some no_images) (slot_among service.places))

-- Law: after `unregister` the names of the seat's tables have no slots; every other name keeps its slot.
abbrev pub UnregisteringTables : Type 0
UnregisteringTables = (seat : ℕ) (service : TableService) → IsTableService service →
    slot_among (tables_unregistered seat service).places ≡ withdrawn (map (λ (table : Table). table.name) (tables_at seat service.places)) (slot_among service.places)

-- Law: a change of one table's slot leaves the other names' slots alone.
abbrev pub ChangingTables : Type 0
ChangingTables = (change : Slot (List ℕ) → Slot (List ℕ)) (handle : Handle) (table : Table) (service : TableService) → IsTableService service →
    table_at handle service.places ≡ Some table →
    slot_among (slot_changed change handle service).places ≡ with_at table.name (Some (change table.slot)) (slot_among service.places)

-- Law: a file is stored with the meaning of its bytes.
abbrev pub StoringFiles : Type 0
StoringFiles = (name : Name) (bytes : List ℕ) (service : TableService) →
    (file_put name bytes service >>= (λ after. Ok (files_seen after.files))) ≡ stored name (length bytes) (meaning_of bytes) (files_seen service.files)
