-- The compiled file of a half means the same in bytes and in halves.
use Rattle.std.proofs.Common.{◌≡◌, refl, sym, ◌∙◌, ap, subst, ℕ, zero, suc, ◌<◌, ◌^◌, Bool, true, false, if◌then◌else◌, List, [], ◌∷◌, length, fold, slice_get, arith, Contains, Option, Some, Result, Ok}
use Rattle.std.specs.Option.{option_map_or}
use Rattle.std.proofs.lemmas.List.Elements.{Contains-append_right}
use Rattle.lc_model.specs.declared.kind.Kind.{Kind}
use Rattle.lc_model.specs.declared.kind.Kind.TheVariants.{Wdt, Adt}
use Rattle.lc_model.specs.Bytes.{zero_filled}
use Rattle.lc_model.specs.Name.{name_in}
use Rattle.lc_model.specs.Codes.{is_kind}
use Rattle.lc_model.specs.Tables.Image.{Layout, Watchpoints, Actionpoints, WideActionpoints, kind_of, image_length}
use Rattle.lc_model.specs.Tables.File.{TableFile, opened, table_name, wrapped}
use Rattle.lc_model.specs.Tables.Half.{IsFileOfHalf}
use Rattle.lc_model.specs.Tables.Interpretation.{Opened, compiled_size}
use Rattle.lc_model.specs.Tables.HalvesAndBytes.{Text, HalfOf, Foreign, as_bytes, as_halves, meaning_by}
use Rattle.lc_model.specs.Laws.Tables.{IsTableFile}
use Rattle.lc_model.specs.Laws.Correspondence.{IsImageOf, MeaningAlike}
use Rattle.lc_model.specs.Laws.Runs.{CompiledFilesMeanAlike}
use Rattle.lc_model.proofs.Tables.FileLaws.{one_spelling}

-- ---- the file of an image opens

one_size : (l : Layout) → image_length l < 2 ^ 32
one_size Watchpoints = omega arith
one_size Actionpoints = omega arith
one_size WideActionpoints = omega arith

chosen_size : (test : Bool) (l : Layout) (size : ℕ) → size < 2 ^ 32 → (if test then image_length l else size) < 2 ^ 32
chosen_size true l size small = one_size l
chosen_size false l size small = small

sizes_from : (layouts : List Layout) (kind : Kind) (size : ℕ) → size < 2 ^ 32 →
    fold (λ size l. if is_kind kind (kind_of l) then image_length l else size) size layouts < 2 ^ 32
sizes_from [] kind size small = small
sizes_from (l ∷ layouts) kind size small =
    sizes_from layouts kind (if is_kind kind (kind_of l) then image_length l else size) (chosen_size (is_kind kind (kind_of l)) l size small)

name_length : (kind : Kind) → length (zero_filled 40 (table_name kind)) ≡ 40
name_length Wdt = refl
name_length Adt = refl

name_again : (kind : Kind) → name_in (zero_filled 40 (table_name kind)) ≡ table_name kind
name_again Wdt = refl
name_again Adt = refl

-- what is wrapped fits the fields of a file
pub is_table_file : (kind : Kind) (image : List ℕ) → length image < 2 ^ 32 → IsTableFile (wrapped kind image)
is_table_file kind image small = record {
  spacecraft = omega arith;
  processor = omega arith;
  application = omega arith;
  seconds = omega arith;
  subseconds = omega arith;
  reserved = omega arith;
  description = refl;
  name_field = name_length kind;
  image = small;
}

-- the file of a half opens, and its image is that half
pub half_file_opens : (layouts : List Layout) (kind : Kind) (file text : List ℕ) (half : IsFileOfHalf layouts kind file text) → opened file ≡ Ok (wrapped kind half.0)
half_file_opens layouts kind file text half =
    let small : length half.0 < 2 ^ 32 =
    subst (λ n. n < 2 ^ 32) (sym half.2) (sizes_from layouts kind 0 (omega arith)) in
    ap opened half.1 ∙ one_spelling.spelled_is_opened (wrapped kind half.0) (is_table_file kind half.0 small)

-- ---- what it means

pub numbered_among : {X : Type 0} (xs : List X) (number : ℕ) (x : X) → slice_get xs number ≡ Some x → Contains xs x
numbered_among [] number x there = absurd (cc there)
numbered_among (y ∷ ys) zero x there = (0, omega arith, cc there)
numbered_among (y ∷ ys) (suc number) x there = Contains-append_right (y ∷ []) ys x (numbered_among ys number x there)

pub half_file_means : (layouts : List Layout) (texts : List Text) (kind : Kind) (number : ℕ) (text : Text) (file : List ℕ) →
    slice_get texts number ≡ Some text → IsFileOfHalf layouts kind file text.source →
    MeaningAlike (IsImageOf layouts texts) (as_bytes layouts) (as_halves layouts) (meaning_by (λ image. image) (opened file))
    (Opened (table_name kind) (compiled_size layouts kind) (option_map_or (HalfOf kind) (slice_get texts number) Foreign))
half_file_means layouts texts kind number text file there half =
    let opens : opened file ≡ Ok (wrapped kind half.0) = half_file_opens layouts kind file text.source half in
    subst (λ (r : Result TableFile ℕ). MeaningAlike (IsImageOf layouts texts) (as_bytes layouts) (as_halves layouts) (meaning_by (λ image. image) r)
    (Opened (table_name kind) (compiled_size layouts kind) (option_map_or (HalfOf kind) (slice_get texts number) Foreign))) (sym opens)
    (subst (λ (o : Option Text). MeaningAlike (IsImageOf layouts texts) (as_bytes layouts) (as_halves layouts) (meaning_by (λ image. image) (Ok (wrapped kind half.0)))
    (Opened (table_name kind) (compiled_size layouts kind) (option_map_or (HalfOf kind) o Foreign))) (sym there)
    (name_again kind, half.2, (numbered_among texts number text there, half.3)))

pub compiled_files_mean_alike : CompiledFilesMeanAlike
compiled_files_mean_alike layouts texts compiled files kind number text there =
    half_file_means layouts texts kind number text (compiled kind number) there (files kind number text there)
