-- The start of the application on a seat: its two tables, the default files, and the tables in force after it. From the cFS
-- Limit Checker user's guide, table definitions; the default files' names are this project's own.
use Rattle.std.specs.Prelude.{◌≡◌, ℕ, List, [], ◌∷◌, length, Option, Some, None, IsTrue, IsFalse, slice_set}
use Rattle.std.specs.List.{AllByRecursion}
use Rattle.lc_model.specs.declared.kind.Kind.{Kind}
use Rattle.lc_model.specs.declared.kind.Kind.TheVariants.{Wdt, Adt}
use Rattle.lc_model.specs.Name.{lc_name}
use Rattle.lc_model.specs.Tables.File.{table_name}
use Rattle.lc_model.specs.Tables.Image.{Watchpoints, Actionpoints, WideActionpoints, image_length}
use Rattle.lc_model.specs.Tables.Interpretation.{Pair, default_file}
use Rattle.lc_model.specs.Tables.Slot.{in_use}
use Rattle.lc_model.specs.LimitChecker.Steps.{default_image, default_pair}
use Rattle.lc_model.specs.Kept.Summary.{LcOwn}
use Rattle.lc_model.specs.Services.Interface.{is_table_of}
use Rattle.lc_model.specs.Services.Seen.{files_seen}
use Rattle.lc_model.specs.Services.Tables.{Table, TableService, new_table, fits_table, stored_image}
use Rattle.table_validator.specs.Sound.{TableImage}
use Rattle.app_host.specs.Shared.{on_board}
use Rattle.limit_engine.specs.Engine.{without_tables, with_tables}

-- ---- the two tables

-- The WDT without images, as it is registered.
abbrev pub new_wdt : Table
new_wdt = new_table (table_name Wdt) (image_length Watchpoints) None

-- The ADT without images, as it is registered with the sizes of both versions.
abbrev pub new_adt : Table
new_adt = new_table (table_name Adt) (image_length Actionpoints) (Some (image_length WideActionpoints))

-- The new WDT or ADT.
abbrev pub new_of : Kind → Table
new_of Wdt = new_wdt
new_of Adt = new_adt

-- The table services after both were registered on a seat.
abbrev pub with_both : ℕ → TableService → TableService
with_both seat service = record service { places = slice_set service.places seat (new_wdt ∷ new_adt ∷ []) }

-- No table has a name that begins with the application's and a dot.
abbrev pub AreUnused : TableService → Type 0
AreUnused service = AllByRecursion (λ (tables : List Table). AllByRecursion (λ (table : Table). IsFalse (is_table_of lc_name table.name)) tables) service.places

-- ---- the default files

-- The sound image in a table's default file, if any.
abbrev pub start_image : Kind → TableService → Option (List ℕ)
start_image kind service = default_image on_board kind (files_seen service.files)

-- The pair of the default files, if both are sound and they match.
abbrev pub start_pair : TableService → Option (Pair (List ℕ))
start_pair service = default_pair on_board (files_seen service.files)

-- The image is that of its table's default file, and has one of the table's sizes.
pub record IsDefault (service : TableService) (image : TableImage) : Type 0 where
  pub stored : stored_image (default_file image.kind) service ≡ Some image.bytes
  pub fits : IsTrue (fits_table (new_of image.kind) (length image.bytes))

-- Both images are those of their default files.
pub record AreDefaults (service : TableService) (images : TableImage × TableImage) : Type 0 where
  pub wdt : IsDefault service images.0
  pub adt : IsDefault service images.1

-- ---- the tables in force

-- The object after its start, with this pair in force or without tables.
abbrev pub own_started : Option (Pair (List ℕ)) → LcOwn
own_started None = without_tables
own_started (Some pair) = with_tables (on_board.terms pair) (on_board.rules pair) without_tables

-- The WDT with this pair in use, or without an image.
abbrev pub started_wdt : Option (Pair (List ℕ)) → Table
started_wdt None = new_wdt
started_wdt (Some pair) = record new_wdt { slot = in_use pair.wdt }

-- The ADT with this pair in use, or without an image.
abbrev pub started_adt : Option (Pair (List ℕ)) → Table
started_adt None = new_adt
started_adt (Some pair) = record new_adt { slot = in_use pair.adt }

-- Both tables of a started Limit Checker.
abbrev pub started_tables : Option (Pair (List ℕ)) → List Table
started_tables pair = started_wdt pair ∷ started_adt pair ∷ []

-- The table services with these tables on the seat.
abbrev pub tables_started : ℕ → Option (Pair (List ℕ)) → TableService → TableService
tables_started seat pair service = record service { places = slice_set service.places seat (started_tables pair) }
