-- Table services by seats: stored files and registered tables, and what each call returns and changes. Load, validate, activate
-- and abort follow the cFE user's guide (table services); seats, limits and refusal numbers are this project's own.
use Rattle.std.specs.Prelude.{◌≡◌, ℕ, ◌+◌, ◌≤◌, Bool, false, ◌&&◌, ◌||◌, ◌==◌, nat_lt, nat_le, List, [], ◌∷◌, ◌++◌, length, map, replicate, slice_get, slice_index_or, slice_set, if◌then◌else◌, Option, Some, None, is_some, is_none, Result, Ok, Err}
use Rattle.std.specs.Option.{option_map_or}
use Rattle.std.specs.List.{position_from, AllByRecursion}
use Rattle.lc_model.specs.Name.{Name, is_named, AreDistinct, name_in, value_under, put}
use Rattle.lc_model.specs.Refusal.{Refusal, ◌>>=◌, refused, found, provided, no_file, file_fault, unknown_table, wrong_image_size, store_full, file_too_long, no_slot}
use Rattle.lc_model.specs.Tables.File.{TableFile, opened}
use Rattle.lc_model.specs.Tables.Slot.{Move, Slot, no_images, loaded, moved, judged, taken, installed}
use Rattle.lc_model.specs.Command.{TableCommand, Load, Manage}
use Rattle.lc_model.specs.Host.World.{max_files}
use Rattle.lc_model.specs.Host.React.{max_file_size}
use Rattle.lc_model.specs.Kept.Executive.{seat_count}

-- A registered table: its name, the one or two image sizes that it takes, and its slot.
pub record Table : Type 0 where
  pub name : Name
  pub size : ℕ
  pub other : Option ℕ
  pub slot : Slot (List ℕ)

-- Stored files, and the tables of each seat in the order in which they were registered.
pub record TableService : Type 0 where
  pub files : List (Name × List ℕ)
  pub places : List (List Table)

-- The most tables of a seat.
abbrev pub tables_a_seat : ℕ
tables_a_seat = 2

-- No file is stored, and no table is registered.
abbrev pub first_tables : TableService
first_tables = record { files = []; places = replicate seat_count [] }

-- ---- files

-- The files with this one added, or in place of that of its name; 119 (over 32,768 bytes) or 118 (eight other files are stored).
abbrev pub files_with : Name → List ℕ → List (Name × List ℕ) → Result (List (Name × List ℕ)) Refusal
files_with name bytes files =
    if nat_lt max_file_size (length bytes) then refused file_too_long
    else if nat_le max_files (length files) && is_none (value_under name files) then refused store_full
    else Ok (put name bytes files)

-- `put_file`.
abbrev pub file_put : Name → List ℕ → TableService → Result TableService Refusal
file_put name bytes service = do
  files ← files_with name bytes service.files
  Ok (record service { files = files })

-- ---- finding a table

-- The tables of each seat.
abbrev pub Places : Type 0
Places = List (List Table)

-- A table by its seat and its number there: the program's `tbl_service::Slot`.
pub record Handle : Type 0 where
  pub seat : ℕ
  pub number : ℕ

-- The tables of a seat.
abbrev pub tables_at : ℕ → Places → List Table
tables_at seat places = slice_index_or places seat []

-- The table of a handle.
abbrev pub table_at : Handle → Places → Option Table
table_at handle places = slice_get (tables_at handle.seat places) handle.number

-- The number of the table with this name, among a seat's.
abbrev pub number_named : Name → List Table → Option ℕ
number_named name tables = position_from (λ (table : Table). is_named name table.name) 0 tables

-- The handle of the table with this name; the first list is that of seat `seat`.
unfoldable pub handle_from : Name → ℕ → Places → Option Handle
handle_from name seat [] = None
handle_from name seat (tables ∷ places) =
    option_map_or (λ number. Some (record { seat = seat; number = number })) (number_named name tables) (handle_from name (seat + 1) places)

-- The handle of the table with this name.
abbrev pub handle_named : Name → Places → Option Handle
handle_named name places = handle_from name 0 places

-- Whether the table takes images of this size.
abbrev pub fits_table : Table → ℕ → Bool
fits_table table size = size == table.size || option_map_or (λ other. size == other) table.other false

-- ---- registering

-- A table without images.
abbrev pub new_table : Name → ℕ → Option ℕ → Table
new_table name size other = record { name = name; size = size; other = other; slot = no_images }

-- `register`; 120 for a third table of the seat, or a name that is taken.
abbrev pub table_registered : ℕ → Name → ℕ → Option ℕ → TableService → Result TableService Refusal
table_registered seat name size other service =
    let tables : List Table = tables_at seat service.places in
    if nat_le tables_a_seat (length tables) || is_some (handle_named name service.places) then refused no_slot
    else Ok (record service { places = slice_set service.places seat (tables ++ new_table name size other ∷ []) })

-- The handle of the table that is registered next on this seat.
abbrev pub new_handle : ℕ → TableService → Handle
new_handle seat service = record { seat = seat; number = length (tables_at seat service.places) }

-- `unregister`: all tables of the seat are removed, with their images.
abbrev pub tables_unregistered : ℕ → TableService → TableService
tables_unregistered seat service = record service { places = slice_set service.places seat [] }

-- ---- slots

-- The slot of a handle's table; an empty one if there is no such table.
abbrev pub slot_at : Handle → TableService → Slot (List ℕ)
slot_at handle service = option_map_or (λ (table : Table). table.slot) (table_at handle service.places) no_images

-- The tables with this one's slot replaced.
abbrev pub with_slot : Handle → Table → Places → Slot (List ℕ) → Places
with_slot handle table places slot =
    slice_set places handle.seat (slice_set (tables_at handle.seat places) handle.number (record table { slot = slot }))

-- The tables with `change` done to the slot of a handle's table.
abbrev pub changed_among : (Slot (List ℕ) → Slot (List ℕ)) → Handle → Places → Places
changed_among change handle places = option_map_or (λ (table : Table). with_slot handle table places (change table.slot)) (table_at handle places) places

-- The services with `change` done to the slot of a handle's table.
abbrev pub slot_changed : (Slot (List ℕ) → Slot (List ℕ)) → Handle → TableService → TableService
slot_changed change handle service = record service { places = changed_among change handle service.places }

-- `set_verdict`: an image that is asked to be validated becomes valid, or loaded again.
abbrev pub verdict_set : Handle → Bool → TableService → TableService
verdict_set handle valid service = slot_changed (judged valid) handle service

-- `take`: the activated waiting image becomes active.
abbrev pub image_taken : Handle → TableService → TableService
image_taken handle service = slot_changed taken handle service

-- `install`: this image becomes active at once; a waiting image stays.
abbrev pub image_installed : Handle → List ℕ → TableService → TableService
image_installed handle image service = slot_changed (installed image) handle service

-- The image of a file that opens.
abbrev pub image_in : Result TableFile ℕ → Option (List ℕ)
image_in (Ok file) = Some file.image
image_in (Err fault) = None

-- The image of a stored file that opens.
abbrev pub stored_image : Name → TableService → Option (List ℕ)
stored_image name service = option_map_or (λ bytes. image_in (opened bytes)) (value_under name service.files) None

-- Whether the handle's table takes images of this size.
abbrev pub fits_at : Handle → TableService → List ℕ → Bool
fits_at handle service image = option_map_or (λ (table : Table). fits_table table (length image)) (table_at handle service.places) false

-- ---- commands

-- A file's fault as refusal 112.
abbrev pub file_refusal : Result TableFile ℕ → Result TableFile Refusal
file_refusal (Ok file) = Ok file
file_refusal (Err fault) = Err (file_fault ∷ fault ∷ [])

-- The tables after validate, activate or abort of the named one; 113, 115, 116 or 117.
abbrev pub moved_among : Move → Name → Places → Result Places Refusal
moved_among move name places = do
  handle ← found (handle_named name places) unknown_table
  table ← found (table_at handle places) unknown_table
  slot ← moved move table.slot
  Ok (with_slot handle table places slot)

-- The tables after this image is loaded into the named one; 113, 114 or 115.
abbrev pub image_loaded_among : List ℕ → Name → Places → Result Places Refusal
image_loaded_among image name places = do
  handle ← found (handle_named name places) unknown_table
  table ← found (table_at handle places) unknown_table
  fitting ← provided (fits_table table (length image)) wrong_image_size image
  slot ← loaded fitting table.slot
  Ok (with_slot handle table places slot)

-- The tables after this file is loaded: 112 if it does not open; its header names the table.
abbrev pub loaded_among : List ℕ → Places → Result Places Refusal
loaded_among bytes places = do
  file ← file_refusal (opened bytes)
  image_loaded_among file.image (name_in file.name_field) places

-- The services with these tables, or the refusal.
abbrev pub with_places : TableService → Result Places Refusal → Result TableService Refusal
with_places service r = do
  places ← r
  Ok (record service { places = places })

-- A command to table services; a load of a file that is not stored is refused with 111.
abbrev pub table_commanded : TableCommand → TableService → Result TableService Refusal
table_commanded (Load name) service = do
  bytes ← found (value_under name service.files) no_file
  with_places service (loaded_among bytes service.places)
table_commanded (Manage move name) service = with_places service (moved_among move name service.places)

-- ---- the invariant between two calls

-- How many tables in the list have this name.
unfoldable pub times_in : Name → List Table → ℕ
times_in name [] = 0
times_in name (table ∷ tables) = (if is_named name table.name then 1 else 0) + times_in name tables

-- How many tables of all seats have this name.
unfoldable pub times_among : Name → Places → ℕ
times_among name [] = 0
times_among name (tables ∷ places) = times_in name tables + times_among name places

-- At most eight files with different names and at most 32,768 bytes each; eight seats with at most two tables each; no table name
-- twice.
pub record IsTableService (service : TableService) : Type 0 where
  pub few_files : length service.files ≤ max_files
  pub file_names : AreDistinct (map (λ (file : Name × List ℕ). file.0) service.files)
  pub file_sizes : AllByRecursion (λ (file : Name × List ℕ). length file.1 ≤ max_file_size) service.files
  pub seats : length service.places ≡ seat_count
  pub few_tables : AllByRecursion (λ (tables : List Table). length tables ≤ tables_a_seat) service.places
  pub table_names : (name : Name) → times_among name service.places ≤ 1
