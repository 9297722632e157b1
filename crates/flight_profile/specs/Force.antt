-- The rule text in force. This project's own.
use Rattle.std.specs.Prelude.{◌≡◌, ℕ, Bool, false, ◌&&◌, List, bytes_eq, drop, Option, Some, None}
use Rattle.std.specs.List.{position}
use Rattle.lc_model.specs.declared.kind.Kind.TheVariants.{Wdt, Adt}
use Rattle.lc_model.specs.Name.{Name}
use Rattle.lc_model.specs.Tables.File.{headers_length, table_name}
use Rattle.lc_model.specs.Tables.Slot.{Slot}
use Rattle.lc_model.specs.Kept.Executive.{Executive}
use Rattle.rpn_compiler.specs.declared.files.TablePair.{TablePair}
use Rattle.tbl_service.specs.Images.{active_of}
use Rattle.flight_core.specs.Compiled.{AreAllCompiled}

-- Whether there is an image, and it is that of this table file.
abbrev pub is_of_file : Option (List ℕ) → List ℕ → Bool
is_of_file None file = false
is_of_file (Some image) file = bytes_eq image (drop headers_length file)

-- Whether the active images of the two tables are those of this text's files.
abbrev pub is_of_pair : (wdt adt : Option (List ℕ)) → TablePair → Bool
is_of_pair wdt adt pair = is_of_file wdt pair.wdt.items && is_of_file adt pair.adt.items

-- The active image of a table.
abbrev pub active_in : Executive (List ℕ) → Name → Option (List ℕ)
active_in now name = active_of (now.services.slots name)

-- The number, from 0, of the text in force: the first text of whose files both images are active.
abbrev pub text_in_force : List TablePair → Executive (List ℕ) → Option ℕ
text_in_force pairs now = position (is_of_pair (active_in now (table_name Wdt)) (active_in now (table_name Adt))) pairs

-- `force` is the number of the text in force, by the files to which these texts compile.
abbrev pub IsInForce : List (List ℕ) → Executive (List ℕ) → Option ℕ → Type 0
IsInForce sources now force = (pairs : List TablePair) × AreAllCompiled sources pairs × (force ≡ text_in_force pairs now)
