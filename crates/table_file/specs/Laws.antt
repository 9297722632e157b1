-- Laws of images: the readers return the values that were written.
use Rattle.std.specs.Prelude.{◌≡◌, ◌≢◌, ℕ, ◌<◌, ◌≤◌, ◌^◌, List, length, map}
use Rattle.std.specs.List.{AllByRecursion}
use Rattle.lc_model.specs.declared.field.Term.{Term}
use Rattle.lc_model.specs.declared.kind.Kind.TheVariants.{Adt}
use Rattle.lc_model.specs.declared.mode.ApMode.TheVariants.{PermOff}
use Rattle.lc_model.specs.Codes.{table_entries}
use Rattle.lc_model.specs.Tables.Image.{Layout, kind_of, TableEntry, FitsWatchpoint, FitsEntry, EndsOnce, wdt_image, adt_image, own_count, HasPreamble, entry_at, numbers_below}
use Rattle.lc_model.specs.Tables.Spelled.{read_entry, spelled_terms}

-- The fields of all used ADT entries of an image, as the readers return them.
abbrev pub entries_in : Layout → List ℕ → List TableEntry
entries_in l image = map (λ n. read_entry (entry_at l image n)) (numbers_below (own_count image))

-- Law: from a written WDT image the readers return its hash, counts and watchpoints.
abbrev pub WatchpointsAreReadAgain : Type 0
WatchpointsAreReadAgain = (hash : List ℕ) (terms : List Term) → length hash ≡ 32 → length terms ≤ table_entries →
    AllByRecursion FitsWatchpoint terms →
    HasPreamble (wdt_image hash terms) hash (length terms) (length terms) × (spelled_terms (wdt_image hash terms) ≡ terms)

-- An ADT entry that is read as it was written: it fits its fields, EQUAL stands only at the end, and its default state is not
-- "permanently off".
pub record FitsTable (l : Layout) (e : TableEntry) : Type 0 where
  pub fits : FitsEntry l e
  pub once : EndsOnce e
  pub begins : e.mode ≢ PermOff

-- Law: from a written ADT image the readers return its hash, counts and entries.
abbrev pub ActionpointsAreReadAgain : Type 0
ActionpointsAreReadAgain = (l : Layout) (hash : List ℕ) (watchpoints : ℕ) (entries : List TableEntry) → kind_of l ≡ Adt →
    length hash ≡ 32 → watchpoints < 2 ^ 16 → length entries ≤ table_entries → AllByRecursion (FitsTable l) entries →
    HasPreamble (adt_image l hash watchpoints entries) hash (length entries) watchpoints
    × (entries_in l (adt_image l hash watchpoints entries) ≡ entries)
