-- Files of bytes are fine, and so are those that were compiled.
use Rattle.std.proofs.Common.{ℕ, zero, suc, ◌-◌, Bool, true, false, not, nat_lt, ◌==◌, List, [], ◌∷◌, length, drop, refl, sym, subst, if◌then◌else◌, Result, Ok, Err}
use Rattle.lc_model.specs.declared.kind.Kind.{Kind}
use Rattle.lc_model.specs.declared.kind.Kind.TheVariants.{Wdt, Adt}
use Rattle.lc_model.specs.Bytes.{u32_at}
use Rattle.lc_model.specs.Tables.Image.{Layout}
use Rattle.lc_model.specs.Tables.File.{TableFile, opened, headers_length, content_type, subtype, file_header_length, fields_of}
use Rattle.lc_model.specs.Tables.Half.{IsHalf, IsFileOfHalf}
use Rattle.lc_model.specs.Tables.HalvesAndBytes.{Text, meaning_by, as_bytes, byte_meanings}
use Rattle.lc_model.specs.Tables.Edition.{Edition, AreCompiledFiles}
use Rattle.lc_model.specs.Host.Schedule.{Schedule}
use Rattle.lc_model.specs.Host.Stream.{StreamEntry, Contents, Packet, Tick, File, Half}
use Rattle.lc_model.specs.Host.Run.{input_of}
use Rattle.lc_model.specs.Laws.Correspondence.{MeaningAlike}
use Rattle.lc_model.proofs.Tables.HalfBytes.{wdt_is_bytes, adt_is_bytes}
use Rattle.lc_model.proofs.Tables.HalfFiles.{half_file_opens}
use Rattle.lc_model.proofs.Host.RunsKept.{files_of_halves}
use Rattle.lc_model.proofs.Host.WholeRuns.{numbered}
use Rattle.host_refinement.specs.Statements.{IsOne, IsFineInput, AreFineInputs, AreBytes, IsBrought, AreBrought, RecordsAreFine}

pub dropped : (n : ℕ) (bytes : List ℕ) → AreBytes bytes → AreBytes (drop n bytes)
dropped zero bytes all = all
dropped (suc n) [] all = tt
dropped (suc n) (byte ∷ bytes) all = dropped n bytes all.1

module _ (layouts : List Layout) where
  abbrev Fine : Result TableFile ℕ → Type 0
  Fine r = MeaningAlike (IsOne (as_bytes layouts) AreBytes) (as_bytes layouts) (as_bytes layouts) (meaning_by (λ image. image) r) (meaning_by (λ image. image) r)

  either_fine : (test : Bool) (x y : Result TableFile ℕ) → Fine x → Fine y → Fine (if test then x else y)
  either_fine true x y h k = h
  either_fine false x y h k = k

  opened_fine : (bytes : List ℕ) → AreBytes bytes → Fine (opened bytes)
  opened_fine bytes all =
      either_fine (nat_lt (length bytes) headers_length) (Err 51) _ refl
      (either_fine (not (u32_at bytes 0 == content_type)) (Err 52) _ refl
      (either_fine (not (u32_at bytes 4 == subtype)) (Err 53) _ refl
      (either_fine (not (u32_at bytes 8 == file_header_length)) (Err 54) _ refl
      (either_fine (not (u32_at bytes 68 == 0)) (Err 55) _ refl
      (either_fine (not (u32_at bytes 72 == length bytes - headers_length)) (Err 56) (Ok (fields_of bytes)) refl
      (refl, refl, (refl, dropped headers_length bytes all)))))))

  -- a compiled file is
  compiled_fine : (kind : Kind) (file text : List ℕ) → IsFileOfHalf layouts kind file text → Fine (opened file)
  compiled_fine kind file text half = subst Fine (sym (half_file_opens layouts kind file text half)) (refl, refl, (refl, image_is_bytes kind half.0 half.3))
    where
      image_is_bytes : (kind : Kind) (image : List ℕ) → IsHalf layouts kind image text → AreBytes image
      image_is_bytes Wdt image half = wdt_is_bytes layouts image text half
      image_is_bytes Adt image half = adt_is_bytes layouts image text half

module _ (e : Edition) (texts : List Text) (compiled : Kind → ℕ → List ℕ) (files : AreCompiledFiles e texts compiled) where
  contents_fine : (contents : Contents) → IsBrought (length texts) contents → IsFineInput (as_bytes e.layouts) AreBytes (input_of (byte_meanings compiled) contents)
  contents_fine (Packet bytes) brought = refl
  contents_fine Tick brought = tt
  contents_fine (File name bytes) brought = (refl, refl, opened_fine e.layouts bytes brought)
  contents_fine (Half name kind number) brought =
      let known = numbered texts number brought in
      (refl, refl, compiled_fine e.layouts kind (compiled kind number) known.0.source (files_of_halves e texts compiled files kind number known.0 known.1))

  all_fine : (schedule : Schedule) (entries : List StreamEntry) → AreBrought (length texts) entries → AreFineInputs (as_bytes e.layouts) AreBytes schedule (byte_meanings compiled) entries
  all_fine schedule [] all = tt
  all_fine schedule (entry ∷ entries) all = (contents_fine entry.contents all.0, all_fine schedule entries all.1)

pub records_are_fine : RecordsAreFine
records_are_fine e texts compiled schedule entries files all = all_fine e texts compiled files schedule entries all
