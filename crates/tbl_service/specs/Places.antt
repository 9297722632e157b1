-- The tables of a seat, from the program's fields.
use Rattle.std.specs.Prelude.{◌≡◌, ℕ, ◌+◌, List, length, slice_index_or, slice_set, Result, Ok}
use Rattle.std.specs.Option.{option_map_or}
use Rattle.lc_model.specs.Refusal.{Refusal, ◌>>=◌, provided}
use Rattle.lc_model.specs.Tables.Slot.{Slot, loaded, no_images}
use Rattle.lc_model.specs.Services.Tables.{Table, Handle, fits_table, table_at}

-- The most tables of a seat.
abbrev pub most_tables : ℕ
most_tables = 2

-- A seat has two pairs of image buffers, in use or spare, and both lists have the room for two that they were made with.
pub record IsPlace (tables : List Table) (spare : List (Slot (List ℕ))) (table_room spare_room : ℕ) : Type 0 where
  pub images : length tables + length spare ≡ most_tables
  pub tables_fit : table_room ≡ most_tables
  pub spare_fits : spare_room ≡ most_tables

-- The table with another slot.
abbrev pub with_images : Slot (List ℕ) → Table → Table
with_images slot table = record table { slot = slot }

-- The tables with `change` done to the slot of one; `d` stands for a table that does not exist.
abbrev pub with_images_at : ℕ → (Slot (List ℕ) → Slot (List ℕ)) → Table → List Table → List Table
with_images_at number change d tables =
    slice_set tables number (with_images (change (slice_index_or tables number d).slot) (slice_index_or tables number d))

-- The tables with the slot of one changed, or the refusal of the change.
abbrev pub changed_by : (Slot (List ℕ) → Result (Slot (List ℕ)) Refusal) → ℕ → Table → List Table → Result (List Table) Refusal
changed_by change number d tables = do
  slot ← change (slice_index_or tables number d).slot
  Ok (slice_set tables number (with_images slot (slice_index_or tables number d)))

-- The tables after an image is loaded into one; 114 for an image of another size.
abbrev pub loaded_at : List ℕ → ℕ → Table → List Table → Result (List Table) Refusal
loaded_at image number d tables = do
  fitting ← provided (fits_table (slice_index_or tables number d) (length image)) 114 image
  changed_by (loaded fitting) number d tables

-- The slot of a handle's table; without images if there is no such table.
abbrev pub slot_among : Handle → List (List Table) → Slot (List ℕ)
slot_among handle places = option_map_or (λ (table : Table). table.slot) (table_at handle places) no_images
