-- The pair of tables that the application starts with.
use Rattle.std.proofs.Common.{◌≡◌, refl, ap, sym, ◌∙◌, subst, ℕ, ◌==◌, ◌&&◌, Bool, true, false, not, List, length, if◌then◌else◌, Option, Some, None, Result, Ok, Err, true≢false, bytes_eq}
use Rattle.std.specs.Prelude.{IsTrue, MatchOption, option_map, is_none}
use Rattle.std.specs.Option.{option_map_or}
use Rattle.std.proofs.lemmas.Slice.Eq.{bytes_eq-Decides}
use Rattle.lc_model.specs.declared.kind.Kind.{Kind}
use Rattle.lc_model.specs.declared.kind.Kind.TheVariants.{Wdt, Adt}
use Rattle.lc_model.specs.Name.{Name, is_named, name_in, value_under}
use Rattle.lc_model.specs.Codes.{is_kind}
use Rattle.lc_model.specs.Tables.File.{TableFile, opened, table_name}
use Rattle.lc_model.specs.Tables.Image.{Layout, Watchpoints, Actionpoints, WideActionpoints, kind_of, image_length, ImageFault, fault_of, IsSound, hash_of, watchpoint_count}
use Rattle.lc_model.specs.Tables.InForce.{layouts}
use Rattle.lc_model.specs.Tables.Half.{IsMatch}
use Rattle.lc_model.specs.Tables.HalvesAndBytes.{meaning_by}
use Rattle.lc_model.specs.Tables.Interpretation.{FileMeaning, Pair, default_file}
use Rattle.lc_model.specs.Tables.Spelled.{spelled_terms, spelled_rules}
use Rattle.lc_model.specs.LimitChecker.Steps.{sound_image, paired}
use Rattle.lc_model.specs.Services.Seen.{meaning_of}
use Rattle.lc_model.specs.Services.Tables.{TableService, fits_table, image_in}
use Rattle.lc_model.proofs.Services.TableNames.{value_meaning}
use Rattle.lc_model.proofs.Facts.{and_first, and_second, and_second_false, tested_equal}
use Rattle.lc_model.proofs.Tables.SoundImages.{sound_parts}
use Rattle.table_file.specs.declared.error.FileError.{FileError}
use Rattle.table_file.specs.Error.{error_code, Answers}
use Rattle.table_validator.specs.Sound.{TableImage}
use Rattle.app_host.specs.Shared.{on_board}
use Rattle.limit_checker.specs.Adoption.{are_matching, pair_of}
use Rattle.limit_engine.specs.Engine.{without_tables, with_tables}
use Rattle.limit_checker.specs.Starting.{new_of, start_image, start_pair, IsDefault, own_started}

-- ---- the image of a default file

-- a sound image has one of its table's sizes
fits_new : (kind : Kind) (image : List ℕ) → IsSound layouts kind image → IsTrue (fits_table (new_of kind) (length image))
fits_new kind image sound = let parts = sound_parts layouts kind image sound in by_layout parts.layout kind parts.of_kind parts.size
  where
    by_layout : (l : Layout) (kind : Kind) → is_kind kind (kind_of l) ≡ true → image_length l ≡ length image → IsTrue (fits_table (new_of kind) (length image))
    by_layout Watchpoints Wdt own size = rw (sym size) refl
    by_layout Actionpoints Adt own size = rw (sym size) refl
    by_layout WideActionpoints Adt own size = rw (sym size) refl
    by_layout Watchpoints Adt own size = absurd (true≢false (sym own))
    by_layout Actionpoints Wdt own size = absurd (true≢false (sym own))
    by_layout WideActionpoints Wdt own size = absurd (true≢false (sym own))

-- the image of an opened file, where it is a sound one under the table's own name
abbrev image_of : Kind → TableFile → Option (List ℕ)
image_of kind file = if is_named (name_in file.name_field) (table_name kind) && is_none (fault_of layouts kind file.image) then Some file.image else None

abbrev image_in_file : Kind → Result TableFile ℕ → Option (List ℕ)
image_in_file kind (Ok file) = image_of kind file
image_in_file kind (Err fault) = None

by_opening : (kind : Kind) (r : Result TableFile ℕ) → sound_image on_board kind (meaning_by (λ image. image) r) ≡ image_in_file kind r
unfolding on_board
by_opening kind (Ok file) = refl
by_opening kind (Err fault) = refl

module _ (kind : Kind) (service : TableService) (name : Name) (default : name ≡ default_file kind) where
  by_bytes : (bytes : Option (List ℕ)) → bytes ≡ value_under name service.files →
      start_image kind service ≡ option_map_or (λ b. sound_image on_board kind (meaning_of b)) bytes None
  by_bytes bytes is =
      ap (λ (meaning : Option (FileMeaning (List ℕ))). option_map_or (sound_image on_board kind) meaning None)
      (value_meaning (default_file kind) service.files ∙ ap (λ file. option_map meaning_of (value_under file service.files)) (sym default) ∙ ap (option_map meaning_of) (sym is))
      ∙ by_held bytes
    where
      by_held : (bytes : Option (List ℕ)) → option_map_or (sound_image on_board kind) (option_map meaning_of bytes) None ≡ option_map_or (λ b. sound_image on_board kind (meaning_of b)) bytes None
      by_held None = refl
      by_held (Some b) = refl

  pub no_file : None ≡ value_under name service.files → None ≡ start_image kind service
  no_file none = sym (by_bytes None none)

  module _ (bytes : List ℕ) (is : Some bytes ≡ value_under name service.files) where
    opened_so : (r : Result TableFile ℕ) → opened bytes ≡ r → start_image kind service ≡ image_in_file kind r
    opened_so r opens = by_bytes (Some bytes) is ∙ by_opening kind (opened bytes) ∙ ap (λ (r : Result TableFile ℕ). image_in_file kind r) opens

    pub no_opening : (error : FileError) → Answers {X = TableFile} (Err error) (opened bytes) → None ≡ start_image kind service
    no_opening error refused = by_code (error_code error) refused
      where
        by_code : (code : Option ℕ) → MatchOption code ⊥ (λ code. opened bytes ≡ Err code) → None ≡ start_image kind service
        by_code None never = absurd never
        by_code (Some code) fault = sym (opened_so (Err code) fault)

    module _ (file : TableFile) (opens : opened bytes ≡ Ok file) where
      pub another_name : is_named (name_in file.name_field) (table_name kind) ≡ false → None ≡ start_image kind service
      another_name other = sym (opened_so (Ok file) opens ∙ ap (λ b. if b && is_none (fault_of layouts kind file.image) then Some file.image else None) other)

      pub not_sound : (fault : ImageFault) → Some fault ≡ fault_of layouts kind file.image → None ≡ start_image kind service
      not_sound fault has = sym (opened_so (Ok file) opens
          ∙ ap (λ f. if is_named (name_in file.name_field) (table_name kind) && is_none f then Some file.image else None) (sym has)
          ∙ ap (λ b. if b then Some file.image else None) (and_second_false (is_named (name_in file.name_field) (table_name kind)) false refl))

      module _ (own : is_named (name_in file.name_field) (table_name kind) ≡ true) (sound : None ≡ fault_of layouts kind file.image) where
        pub is_sound_image : Some file.image ≡ start_image kind service
        is_sound_image = sym (opened_so (Ok file) opens
            ∙ ap (λ b. if b && is_none (fault_of layouts kind file.image) then Some file.image else None) own
            ∙ ap (λ f. if is_none f then Some file.image else None) (sym sound))

        pub is_default : (valid : TableImage) → valid ≡ record { kind = kind; bytes = file.image } → IsDefault service valid
        is_default valid lends = subst (IsDefault service) (sym lends) (record {
          stored = ap (λ file. option_map_or (λ b. image_in (opened b)) (value_under file service.files) None) (sym default)
              ∙ ap (λ b. option_map_or (λ b. image_in (opened b)) b None) (sym is) ∙ ap image_in opens;
          fits = fits_new kind file.image (sym sound);
        })

-- ---- both

module _ (service : TableService) (wdt adt : TableImage) (of_wdt : Some wdt.bytes ≡ start_image Wdt service) (of_adt : Some adt.bytes ≡ start_image Adt service) where
  paired_so : start_pair service ≡ (if are_matching wdt.bytes adt.bytes then Some (pair_of (wdt, adt)) else None)
  unfolding on_board
  paired_so = (λ i. paired on_board (sym of_wdt i) (sym of_adt i))

  pub is_pair : are_matching wdt.bytes adt.bytes ≡ true → Some (pair_of (wdt, adt)) ≡ start_pair service
  is_pair matching = sym (paired_so ∙ ap (λ b. if b then Some (pair_of (wdt, adt)) else None) matching)

  pub no_pair : are_matching wdt.bytes adt.bytes ≡ false → None ≡ start_pair service
  no_pair apart = sym (paired_so ∙ ap (λ b. if b then Some (pair_of (wdt, adt)) else None) apart)

  pub matching_so : are_matching wdt.bytes adt.bytes ≡ true → IsMatch wdt.bytes adt.bytes
  matching_so matching = record {
    hash = (bytes_eq-Decides (hash_of wdt.bytes) (hash_of adt.bytes)).0 (and_first (bytes_eq (hash_of wdt.bytes) (hash_of adt.bytes)) (watchpoint_count wdt.bytes == watchpoint_count adt.bytes) matching);
    watchpoints = tested_equal (watchpoint_count wdt.bytes) (watchpoint_count adt.bytes)
        (and_second (bytes_eq (hash_of wdt.bytes) (hash_of adt.bytes)) (watchpoint_count wdt.bytes == watchpoint_count adt.bytes) matching);
  }

-- ---- a test of names

pub named_by : (a b name table : List ℕ) (differ : Bool) → a ≡ name → b ≡ table → differ ≡ not (is_named a b) → is_named name table ≡ not differ
named_by a b name table differ same_a same_b is = (λ i. is_named (sym same_a i) (sym same_b i)) ∙ twice (is_named a b) ∙ ap not (sym is)
  where
    twice : (b : Bool) → b ≡ not (not b)
    twice true = refl
    twice false = refl

-- ---- the object with a pair in force

pub own_with_pair : (pair : Pair (List ℕ)) → own_started (Some pair) ≡ with_tables (spelled_terms pair.wdt) (spelled_rules layouts pair.wdt pair.adt) without_tables
unfolding on_board
own_with_pair pair = refl
