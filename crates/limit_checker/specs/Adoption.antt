-- The tables from which an adoption starts. From the cFS Limit Checker user's guide, table definitions; hashes are this
-- project's own.
use Rattle.std.specs.Prelude.{◌≡◌, ℕ, Bool, ◌&&◌, ◌==◌, bytes_eq, List}
use Rattle.lc_model.specs.declared.kind.Kind.{Kind}
use Rattle.lc_model.specs.declared.kind.Kind.TheVariants.{Wdt, Adt}
use Rattle.lc_model.specs.Tables.Half.{IsMatch}
use Rattle.lc_model.specs.Tables.Image.{hash_of, watchpoint_count}
use Rattle.lc_model.specs.Tables.Interpretation.{Pair}
use Rattle.lc_model.specs.Tables.Slot.{Slot}
use Rattle.lc_model.specs.Kept.GoesWith.{IsJudged}
use Rattle.table_validator.specs.Sound.{TableImage}
use Rattle.app_host.specs.Shared.{on_board}

-- Whether two images belong together: equal hashes and equal watchpoint counts.
abbrev pub are_matching : List ℕ → List ℕ → Bool
are_matching wdt adt = bytes_eq (hash_of wdt) (hash_of adt) && watchpoint_count wdt == watchpoint_count adt

-- The slot's active image, and a valid or activated waiting one, are sound.
abbrev pub HasSoundSlot : Kind → Slot (List ℕ) → Type 0
HasSoundSlot kind slot = IsJudged on_board kind slot

-- The two sound images as a pair of byte lists.
abbrev pub pair_of : TableImage × TableImage → Pair (List ℕ)
pair_of images = record { wdt = images.0.bytes; adt = images.1.bytes }

-- The first is a WDT image, the second an ADT image, and they belong together.
pub record IsSoundPair (images : TableImage × TableImage) : Type 0 where
  pub wdt : images.0.kind ≡ Wdt
  pub adt : images.1.kind ≡ Adt
  pub matching : IsMatch images.0.bytes images.1.bytes
