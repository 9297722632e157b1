-- Both tables come to a seat, and the default files' images into them.
use Rattle.std.proofs.Common.{◌≡◌, refl, ap, sym, ◌∙◌, subst, ℕ, zero, suc, ◌+◌, ◌<◌, Bool, true, false, ◌||◌, List, [], ◌∷◌, ◌++◌, length, arith, if◌then◌else◌, Option, Some, None, Result, Ok, Err, true≢false}
use Rattle.std.specs.Prelude.{IfSome, IsFalse, IsOk, IsTrue, IsSomeAnd, nat_le, is_some, slice_index_or, slice_get, slice_set}
use Rattle.std.specs.Option.{option_map_or}
use Rattle.std.specs.List.{AllByRecursion, position_from}
use Rattle.std.proofs.lemmas.List.{get_or-set_same, set-set}
use Rattle.std.proofs.lemmas.Slice.Eq.{bytes_eq-Decides}
use Rattle.lc_model.specs.declared.kind.Kind.TheVariants.{Wdt, Adt}
use Rattle.lc_model.specs.Name.{Name, is_named, lc_name}
use Rattle.lc_model.specs.Refusal.{refused}
use Rattle.lc_model.specs.Tables.File.{table_name}
use Rattle.lc_model.specs.Tables.Image.{Watchpoints, Actionpoints, WideActionpoints, image_length}
use Rattle.lc_model.specs.Tables.Interpretation.{Pair, default_file}
use Rattle.lc_model.specs.Tables.Slot.{in_use, installed}
use Rattle.lc_model.specs.Kept.Executive.{seat_count}
use Rattle.lc_model.specs.Services.Interface.{is_table_of}
use Rattle.lc_model.specs.Services.Tables.{Table, TableService, Handle, Places, IsTableService, tables_at, handle_from, table_registered, fits_table, fits_at, stored_image, image_installed}
use Rattle.tbl_service.specs.declared.error.TableError.{TableError}
use Rattle.tbl_service.specs.Error.{answered}
use Rattle.table_validator.specs.Sound.{TableImage}
use Rattle.limit_checker.specs.Adoption.{pair_of}
use Rattle.limit_checker.specs.Housekeeping.{wdt_of, adt_of}
use Rattle.limit_checker.specs.Starting.{new_wdt, new_adt, new_of, with_both, AreUnused, AreDefaults, started_tables, tables_started}

-- ---- answers

is_answered : {A B : Type 0} (r : Result B TableError) (now x : A) → answered r now ≡ Ok x → IsOk r
is_answered (Ok done) now x e = refl
is_answered (Err error) now x e = cc

answered_by : {A B : Type 0} (r : Result B TableError) (now x : A) → answered r now ≡ Ok x → now ≡ x
answered_by (Ok done) now x e = cc
answered_by (Err error) now x e = cc

-- ---- names that nobody has

-- no table of these has the name
abbrev pub AreOthers : Name → List Table → Type 0
AreOthers name tables = AllByRecursion (λ (table : Table). IsFalse (is_named name table.name)) tables

pub no_number : (name : Name) (n : ℕ) (tables : List Table) → AreOthers name tables → position_from (λ (table : Table). is_named name table.name) n tables ≡ None
no_number name n [] others = refl
no_number name n (table ∷ tables) others =
    ap (λ b. if b then Some n else position_from (λ (table : Table). is_named name table.name) (n + 1) tables) others.0 ∙ no_number name (n + 1) tables others.1

no_handle : (name : Name) (n : ℕ) (places : Places) → AllByRecursion (AreOthers name) places → handle_from name n places ≡ None
unfolding handle_from
no_handle name n [] others = refl
no_handle name n (tables ∷ places) others =
    ap (λ (o : Option ℕ). option_map_or (λ number. Some (record { seat = n; number = number })) o (handle_from name (n + 1) places)) (no_number name 0 tables others.0)
    ∙ no_handle name (n + 1) places others.1

all_set : {A : Type 0} (P : A → Type 0) (xs : List A) (k : ℕ) (x : A) → AllByRecursion P xs → P x → AllByRecursion P (slice_set xs k x)
all_set P [] k x all here = tt
all_set P (y ∷ ys) zero x all here = (here, all.1)
all_set P (y ∷ ys) (suc k) x all here = (all.0, all_set P ys k x all.1 here)

-- a table with a name that begins otherwise has another name
module _ (name : Name) (own : is_table_of lc_name name ≡ true) where
  another : (table : Table) → IsFalse (is_table_of lc_name table.name) → IsFalse (is_named name table.name)
  another table apart = by_test (is_named name table.name) refl
    where
      by_test : (b : Bool) → is_named name table.name ≡ b → IsFalse b
      by_test false e = refl
      by_test true e = absurd (true≢false (sym own ∙ ap (is_table_of lc_name) ((bytes_eq-Decides name table.name).0 e) ∙ apart))

  pub others_at : (tables : List Table) → AllByRecursion (λ (table : Table). IsFalse (is_table_of lc_name table.name)) tables → AreOthers name tables
  others_at [] unused = tt
  others_at (table ∷ tables) unused = (another table unused.0, others_at tables unused.1)

  pub others_among : (places : Places) → AllByRecursion (λ (tables : List Table). AllByRecursion (λ (table : Table). IsFalse (is_table_of lc_name table.name)) tables) places →
      AllByRecursion (AreOthers name) places
  others_among [] unused = tt
  others_among (tables ∷ places) unused = (others_at tables unused.0, others_among places unused.1)

-- ---- both are registered

module _ (seat : ℕ) (service : TableService) (sound : IsTableService service) (exists : seat < seat_count) (free : tables_at seat service.places ≡ []) (unused : AreUnused service) where
  abbrev with_one : TableService
  with_one = record service { places = slice_set service.places seat (new_wdt ∷ []) }

  wdt_registers : table_registered seat (table_name Wdt) (image_length Watchpoints) None service ≡ Ok with_one
  wdt_registers =
      ap (λ (h : Option Handle). if nat_le 2 (length (tables_at seat service.places)) || is_some h then refused 120
      else Ok (record service { places = slice_set service.places seat (tables_at seat service.places ++ new_wdt ∷ []) }))
      (no_handle (table_name Wdt) 0 service.places (others_among (table_name Wdt) refl service.places unused))
      ∙ ap (λ (tables : List Table). if nat_le 2 (length tables) || false then refused 120 else Ok (record service { places = slice_set service.places seat (tables ++ new_wdt ∷ []) })) free

  there : tables_at seat with_one.places ≡ new_wdt ∷ []
  there = get_or-set_same service.places seat (new_wdt ∷ []) [] (let eight = sound.seats in omega (arith, eight, exists))

  adt_registers : (now : TableService) → now ≡ with_one → table_registered seat (table_name Adt) (image_length Actionpoints) (Some (image_length WideActionpoints)) now ≡ Ok (with_both seat service)
  adt_registers now is =
      ap (table_registered seat (table_name Adt) (image_length Actionpoints) (Some (image_length WideActionpoints))) is
      ∙ ap (λ (h : Option Handle). if nat_le 2 (length (tables_at seat with_one.places)) || is_some h then refused 120
      else Ok (record service { places = slice_set with_one.places seat (tables_at seat with_one.places ++ new_adt ∷ []) }))
      (no_handle (table_name Adt) 0 with_one.places
      (all_set (AreOthers (table_name Adt)) service.places seat (new_wdt ∷ []) (others_among (table_name Adt) refl service.places unused) (refl, tt)))
      ∙ ap (λ (tables : List Table). if nat_le 2 (length tables) || false then refused 120 else Ok (record service { places = slice_set with_one.places seat (tables ++ new_adt ∷ []) })) there
      ∙ ap (λ (places : Places). Ok (record service { places = places })) (set-set service.places seat (new_wdt ∷ []) (new_wdt ∷ new_adt ∷ []))

-- by what the calls answer
module _ (seat : ℕ) (service : TableService) (sound : IsTableService service) (exists : seat < seat_count) (free : tables_at seat service.places ≡ []) (unused : AreUnused service)
    (name : Name) (size : ℕ) (named : name ≡ table_name Wdt) (sized : size ≡ image_length Watchpoints) (first : Result Handle TableError) (between : TableService)
    (answers : answered first between ≡ table_registered seat name size None service) where
  first_so : answered first between ≡ Ok (with_one seat service sound exists free unused)
  first_so = answers ∙ (λ i. table_registered seat (named i) (sized i) None service) ∙ wdt_registers seat service sound exists free unused

  pub first_is_taken : IsOk first
  first_is_taken = is_answered first between (with_one seat service sound exists free unused) first_so

  module _ (name' : Name) (size' wide : ℕ) (named' : name' ≡ table_name Adt) (sized' : size' ≡ image_length Actionpoints) (widened : wide ≡ image_length WideActionpoints) (second : Result Handle TableError)
      (after : TableService) (answers' : answered second after ≡ table_registered seat name' size' (Some wide) between) where
    second_so : answered second after ≡ Ok (with_both seat service)
    second_so = answers' ∙ (λ i. table_registered seat (named' i) (sized' i) (Some (widened i)) between)
        ∙ adt_registers seat service sound exists free unused between (answered_by first between (with_one seat service sound exists free unused) first_so)

    pub second_is_taken : IsOk second
    second_is_taken = is_answered second after (with_both seat service) second_so

    pub both_registered : after ≡ with_both seat service
    both_registered = answered_by second after (with_both seat service) second_so

-- ---- images come into use

pub inside : (places : Places) (seat : ℕ) (table : Table) (tables : List Table) → slice_index_or places seat [] ≡ table ∷ tables → seat < length places
inside [] seat table tables e = cc
inside (place ∷ places) zero table tables e = omega arith
inside (place ∷ places) (suc seat) table tables e = let further = inside places seat table tables e in omega (arith, further)

module _ (seat : ℕ) (service : TableService) (both : tables_at seat service.places ≡ new_wdt ∷ new_adt ∷ []) where
  one_in_use : (image : List ℕ) → image_installed (wdt_of seat) image service ≡ record service { places = slice_set service.places seat (record new_wdt { slot = in_use image } ∷ new_adt ∷ []) }
  one_in_use image = ap (λ (tables : List Table). record service {
    places = option_map_or (λ (table : Table). slice_set service.places seat (slice_set tables 0 (record table { slot = installed image table.slot }))) (slice_get tables 0) service.places;
  }) both

  one_there : (image : List ℕ) → tables_at seat (image_installed (wdt_of seat) image service).places ≡ record new_wdt { slot = in_use image } ∷ new_adt ∷ []
  one_there image = ap (λ (s : TableService). tables_at seat s.places) (one_in_use image)
      ∙ get_or-set_same service.places seat (record new_wdt { slot = in_use image } ∷ new_adt ∷ []) [] (inside service.places seat new_wdt (new_adt ∷ []) both)

  pub both_in_use : (pair : Pair (List ℕ)) → image_installed (adt_of seat) pair.adt (image_installed (wdt_of seat) pair.wdt service) ≡ tables_started seat (Some pair) service
  both_in_use pair =
      let one : TableService = image_installed (wdt_of seat) pair.wdt service in
      ap (λ (tables : List Table). record one {
        places = option_map_or (λ (table : Table). slice_set one.places seat (slice_set tables 1 (record table { slot = installed pair.adt table.slot }))) (slice_get tables 1) one.places;
      }) (one_there pair.wdt)
      ∙ ap (λ (s : TableService). record s { places = slice_set s.places seat (started_tables (Some pair)) }) (one_in_use pair.wdt)
      ∙ ap (λ (places : Places). record service { places = places }) (set-set service.places seat (record new_wdt { slot = in_use pair.wdt } ∷ new_adt ∷ []) (started_tables (Some pair)))

  -- the second table still takes its image
  pub still_fits : (image : List ℕ) (name : Name) (adt : List ℕ) → stored_image name service ≡ Some adt → IsTrue (fits_table new_adt (length adt)) →
      IsSomeAnd (stored_image name (image_installed (wdt_of seat) image service)) (λ stored. IsTrue (fits_at (adt_of seat) (image_installed (wdt_of seat) image service) stored))
  still_fits image name adt stored fits = subst (λ (o : Option (List ℕ)). IsSomeAnd o (λ stored. IsTrue (fits_at (adt_of seat) (image_installed (wdt_of seat) image service) stored))) (sym stored)
      (subst (λ (tables : List Table). IsTrue (option_map_or (λ (table : Table). fits_table table (length adt)) (slice_get tables 1) false)) (sym (one_there image)) fits)

-- the image of a stored file comes into use
installed_so : (handle its : Handle) (name file : Name) (image : List ℕ) (before after : TableService) → handle ≡ its → name ≡ file → stored_image file before ≡ Some image →
    IfSome (stored_image name before) (λ stored. after ≡ image_installed handle stored before) → after ≡ image_installed its image before
installed_so handle its name file image before after same named stored is =
    subst (λ (o : Option (List ℕ)). IfSome o (λ stored. after ≡ image_installed handle stored before)) (ap (λ n. stored_image n before) named ∙ stored) is
    ∙ ap (λ h. image_installed h image before) same

module _ (seat : ℕ) (service : TableService) (both : tables_at seat service.places ≡ new_wdt ∷ new_adt ∷ []) (wdt adt : TableImage) (of_wdt : wdt.kind ≡ Wdt) (of_adt : adt.kind ≡ Adt)
    (defaults : AreDefaults service (wdt, adt)) (handle : Handle) (first : handle ≡ wdt_of seat) (name : Name) (named : name ≡ default_file Wdt) (between : TableService)
    (installs : IfSome (stored_image name service) (λ stored. between ≡ image_installed handle stored service)) where
  one_so : between ≡ image_installed (wdt_of seat) wdt.bytes service
  one_so = installed_so handle (wdt_of seat) name (default_file wdt.kind) wdt.bytes service between first (named ∙ ap default_file (sym of_wdt)) defaults.wdt.stored installs

  module _ (name' : Name) (named' : name' ≡ default_file Adt) where
    adt_stored : stored_image name' service ≡ Some adt.bytes
    adt_stored = ap (λ n. stored_image n service) (named' ∙ ap default_file (sym of_adt)) ∙ defaults.adt.stored

    pub second_fits : (handle' : Handle) → handle' ≡ adt_of seat → IsSomeAnd (stored_image name' between) (λ stored. IsTrue (fits_at handle' between stored))
    second_fits handle' second = rw (one_so, second)
        (still_fits seat service both wdt.bytes name' adt.bytes adt_stored (subst (λ kind. IsTrue (fits_table (new_of kind) (length adt.bytes))) of_adt defaults.adt.fits))

    pub both_so : (handle' : Handle) → handle' ≡ adt_of seat → (after : TableService) → IfSome (stored_image name' between) (λ stored. after ≡ image_installed handle' stored between) →
        after ≡ tables_started seat (Some (pair_of (wdt, adt))) service
    both_so handle' second after installs' =
        installed_so handle' (adt_of seat) name' name' adt.bytes between after second refl (ap (stored_image name') one_so ∙ adt_stored) installs'
        ∙ ap (image_installed (adt_of seat) adt.bytes) one_so ∙ both_in_use seat service both (pair_of (wdt, adt))
