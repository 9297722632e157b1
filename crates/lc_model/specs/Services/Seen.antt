-- The services as applications see them: files by their meaning; slots, senders and sequence counts by name. The services follow
-- the cFE user's guide (table, event and software bus services); seats are this project's own.
use Rattle.std.specs.Prelude.{ℕ, List, [], ◌∷◌, map, slice_index_or, if◌then◌else◌, Option, Some, None}
use Rattle.std.specs.Option.{option_or}
use Rattle.lc_model.specs.Name.{Name, is_named}
use Rattle.lc_model.specs.Tables.File.{opened}
use Rattle.lc_model.specs.Tables.Slot.{Slot}
use Rattle.lc_model.specs.Tables.Interpretation.{FileMeaning}
use Rattle.lc_model.specs.Tables.HalvesAndBytes.{meaning_by}
use Rattle.lc_model.specs.Kept.Call.{ServicesNow}
use Rattle.lc_model.specs.Services.Events.{counts_with, EventService, sender_named}
use Rattle.lc_model.specs.Services.Tables.{Table, Places, TableService}

-- ---- files

-- The meaning of a file's bytes.
abbrev pub meaning_of : List ℕ → FileMeaning (List ℕ)
meaning_of bytes = meaning_by (λ image. image) (opened bytes)

-- The stored files with their meanings.
abbrev pub files_seen : List (Name × List ℕ) → List (Name × FileMeaning (List ℕ))
files_seen files = map (λ (file : Name × List ℕ). (file.0, meaning_of file.1)) files

-- ---- tables

-- The slot of the table with this name, among a seat's.
abbrev pub slot_in : List Table → Name → Option (Slot (List ℕ))
slot_in [] name = None
slot_in (table ∷ tables) name = if is_named name table.name then Some table.slot else slot_in tables name

-- The slot of the table with this name, on any seat.
abbrev pub slot_among : Places → Name → Option (Slot (List ℕ))
slot_among [] name = None
slot_among (tables ∷ places) name = option_or (slot_in tables name) (slot_among places name)

-- ---- sequence counts

-- The sequence count stored for a message id. That of event packets is stored by the event services instead.
abbrev pub count_among : List ℕ → ℕ → ℕ
count_among counts mid = slice_index_or counts mid 0

-- ---- all services

-- The services by names, from the three services by seats.
abbrev pub services_seen : EventService → TableService → List ℕ → ServicesNow (List ℕ)
services_seen events tables counts = record {
  files = files_seen tables.files;
  slots = slot_among tables.places;
  events = sender_named events;
  counts = counts_with events.sent (count_among counts);
}
