-- The two tables of a seat, with whatever images: what changes at one of them leaves the other, and all other seats.
use Rattle.std.proofs.Common.{◌≡◌, ◌≢◌, refl, ap, sym, ◌∙◌, subst, ℕ, zero, suc, ◌<◌, List, [], ◌∷◌, length, map, arith, Option, Some}
use Rattle.std.specs.Prelude.{IsTrue, is_some, slice_get, slice_index_or, slice_set}
use Rattle.std.specs.Option.{option_map_or}
use Rattle.std.proofs.lemmas.List.{get_or-set_same, get_or-set_other, set-get_or, set-set}
use Rattle.lc_model.specs.declared.kind.Kind.TheVariants.{Wdt, Adt}
use Rattle.lc_model.specs.Tables.File.{table_name}
use Rattle.lc_model.specs.Tables.Slot.{Slot, no_images, taken}
use Rattle.lc_model.specs.Kept.Call.{with_at}
use Rattle.lc_model.specs.Laws.TableServices.{ChangesStaySound}
use Rattle.lc_model.specs.Laws.TablesByName.{ChangingTables, TablesAreFound}
use Rattle.lc_model.specs.Services.Seen.{slot_among}
use Rattle.lc_model.specs.Services.Settled.{Form, form_of, wdt_form, adt_form}
use Rattle.lc_model.specs.Services.Tables.{Table, TableService, IsTableService, tables_at, table_at, slot_at, slot_changed}
use Rattle.limit_checker.specs.Housekeeping.{adt_of, wdt_of, both_judged, both_taken, validation}

-- a seat has two tables, registered as the Limit Checker's
pub record HasTwo (seat : ℕ) (service : TableService) : Type 0 where
  pub first : Table
  pub second : Table
  pub there : tables_at seat service.places ≡ first ∷ second ∷ []
  pub wdt : form_of first ≡ wdt_form
  pub adt : form_of second ≡ adt_form
  pub inside : seat < length service.places

abbrev first_of : List Form → Form
first_of [] = wdt_form
first_of (form ∷ forms) = form

abbrev rest_of : List Form → List Form
rest_of [] = []
rest_of (form ∷ forms) = forms

never_none : {A : Type 0} {x : A} {xs : List A} {P : Type 0} → [] ≡ x ∷ xs → P
never_none e = cc

inside_of : (places : List (List Table)) (seat : ℕ) (table : Table) (tables : List Table) → slice_index_or places seat [] ≡ table ∷ tables → seat < length places
inside_of [] seat table tables e = never_none e
inside_of (place ∷ places) zero table tables e = omega arith
inside_of (place ∷ places) (suc seat) table tables e = let further = inside_of places seat table tables e in omega (arith, further)

pub two_tables : (seat : ℕ) (service : TableService) → map form_of (tables_at seat service.places) ≡ wdt_form ∷ adt_form ∷ [] → HasTwo seat service
two_tables seat service forms = by_tables (tables_at seat service.places) refl forms
  where
    by_tables : (tables : List Table) → tables_at seat service.places ≡ tables → map form_of tables ≡ wdt_form ∷ adt_form ∷ [] → HasTwo seat service
    by_tables [] e f = never_none f
    by_tables (a ∷ []) e f = never_none (ap rest_of f)
    by_tables (a ∷ b ∷ []) e f = record {
      first = a;
      second = b;
      there = e;
      wdt = ap first_of f;
      adt = ap (λ forms. first_of (rest_of forms)) f;
      inside = inside_of service.places seat a (b ∷ []) e;
    }
    by_tables (a ∷ b ∷ c ∷ tables) e f = never_none (sym (ap (λ forms. rest_of (rest_of forms)) f))

module _ (seat : ℕ) (service : TableService) (two : HasTwo seat service) where
  abbrev pub pair_with : Slot (List ℕ) → Slot (List ℕ) → List Table
  pair_with w a = record two.first { slot = w } ∷ record two.second { slot = a } ∷ []

  -- with these images
  abbrev pub both : Slot (List ℕ) → Slot (List ℕ) → TableService
  both w a = record service { places = slice_set service.places seat (pair_with w a) }

  pub at_both : (w a : Slot (List ℕ)) → tables_at seat (both w a).places ≡ pair_with w a
  at_both w a = get_or-set_same service.places seat (pair_with w a) [] two.inside

  pub as_is : service ≡ both two.first.slot two.second.slot
  as_is = ap (λ places. record service { places = places }) (sym (set-get_or service.places seat []) ∙ ap (slice_set service.places seat) two.there)

  pub first_changed : (f : Slot (List ℕ) → Slot (List ℕ)) (w a : Slot (List ℕ)) → slot_changed f (wdt_of seat) (both w a) ≡ both (f w) a
  first_changed f w a =
      ap (λ (tables : List Table). record service {
        places = option_map_or (λ (table : Table). slice_set (both w a).places seat (slice_set tables 0 (record table { slot = f table.slot }))) (slice_get tables 0) (both w a).places;
      }) (at_both w a)
      ∙ ap (λ places. record service { places = places }) (set-set service.places seat (pair_with w a) (pair_with (f w) a))

  pub second_changed : (f : Slot (List ℕ) → Slot (List ℕ)) (w a : Slot (List ℕ)) → slot_changed f (adt_of seat) (both w a) ≡ both w (f a)
  second_changed f w a =
      ap (λ (tables : List Table). record service {
        places = option_map_or (λ (table : Table). slice_set (both w a).places seat (slice_set tables 1 (record table { slot = f table.slot }))) (slice_get tables 1) (both w a).places;
      }) (at_both w a)
      ∙ ap (λ places. record service { places = places }) (set-set service.places seat (pair_with w a) (pair_with w (f a)))

  pub first_table : (w a : Slot (List ℕ)) → table_at (wdt_of seat) (both w a).places ≡ Some (record two.first { slot = w })
  first_table w a = ap (λ (tables : List Table). slice_get tables 0) (at_both w a)

  pub second_table : (w a : Slot (List ℕ)) → table_at (adt_of seat) (both w a).places ≡ Some (record two.second { slot = a })
  second_table w a = ap (λ (tables : List Table). slice_get tables 1) (at_both w a)

  pub first_slot : (w a : Slot (List ℕ)) → slot_at (wdt_of seat) (both w a) ≡ w
  first_slot w a = ap (λ (place : Option Table). option_map_or (λ (table : Table). table.slot) place no_images) (first_table w a)

  pub second_slot : (w a : Slot (List ℕ)) → slot_at (adt_of seat) (both w a) ≡ a
  second_slot w a = ap (λ (place : Option Table). option_map_or (λ (table : Table). table.slot) place no_images) (second_table w a)

  pub first_slot_is : slot_at (wdt_of seat) service ≡ two.first.slot
  first_slot_is = ap (slot_at (wdt_of seat)) as_is ∙ first_slot two.first.slot two.second.slot

  pub second_slot_is : slot_at (adt_of seat) service ≡ two.second.slot
  second_slot_is = ap (slot_at (adt_of seat)) as_is ∙ second_slot two.first.slot two.second.slot

  pub second_registered : (w a : Slot (List ℕ)) → IsTrue (is_some (table_at (adt_of seat) (both w a).places))
  second_registered w a = ap is_some (second_table w a)

  pub forms_stay : (w a : Slot (List ℕ)) → map form_of (tables_at seat (both w a).places) ≡ wdt_form ∷ adt_form ∷ []
  forms_stay w a = ap (map form_of) (at_both w a) ∙ (λ i. two.wdt i ∷ two.adt i ∷ [])

  pub others_stay : (other : ℕ) → other ≢ seat → (w a : Slot (List ℕ)) → tables_at other (both w a).places ≡ tables_at other service.places
  others_stay other another w a = get_or-set_other service.places seat other (pair_with w a) [] another

  -- ---- judged and taken

  pub judged_are : both_judged seat service ≡ both (validation Wdt two.first.slot) (validation Adt two.second.slot)
  judged_are =
      ap (both_judged seat) as_is
      ∙ ap (slot_changed (validation Adt) (adt_of seat)) (first_changed (validation Wdt) two.first.slot two.second.slot)
      ∙ second_changed (validation Adt) (validation Wdt two.first.slot) two.second.slot

  pub taken_are : (w a : Slot (List ℕ)) → both_taken seat (both w a) ≡ both (taken w) (taken a)
  taken_are w a = ap (slot_changed taken (adt_of seat)) (first_changed taken w a) ∙ second_changed taken (taken w) a

  -- ---- under their names

  pub first_named : two.first.name ≡ table_name Wdt
  first_named = ap (λ (form : Form). form.name) two.wdt

  pub second_named : two.second.name ≡ table_name Adt
  second_named = ap (λ (form : Form). form.name) two.adt

  pub slots_named : ChangingTables → ChangesStaySound → IsTableService service → (w a : Slot (List ℕ)) →
      slot_among (both w a).places ≡ with_at (table_name Wdt) (Some w) (with_at (table_name Adt) (Some a) (slot_among service.places))
  slots_named changing stays sound w a =
      let fine : IsTableService (both two.first.slot two.second.slot) = subst IsTableService as_is sound in
      let half : TableService = both two.first.slot a in
      let half_is : slot_changed (λ s. a) (adt_of seat) (both two.first.slot two.second.slot) ≡ half = second_changed (λ s. a) two.first.slot two.second.slot in
      let still_fine : IsTableService half = subst IsTableService half_is (stays (λ s. a) (adt_of seat) (both two.first.slot two.second.slot) fine) in
      ap (λ (s : TableService). slot_among s.places) (sym (first_changed (λ s. w) two.first.slot a))
      ∙ changing (λ s. w) (wdt_of seat) (record two.first { slot = two.first.slot }) half still_fine (first_table two.first.slot a)
      ∙ ap (λ name. with_at name (Some w) (slot_among half.places)) first_named
      ∙ ap (with_at (table_name Wdt) (Some w))
      (ap (λ (s : TableService). slot_among s.places) (sym half_is)
      ∙ changing (λ s. a) (adt_of seat) (record two.second { slot = two.second.slot }) (both two.first.slot two.second.slot) fine (second_table two.first.slot two.second.slot)
      ∙ (λ i. with_at (second_named i) (Some a) (slot_among (sym as_is i).places)))

  pub first_found : TablesAreFound → IsTableService service → slot_among service.places (table_name Wdt) ≡ Some two.first.slot
  first_found found sound =
      ap (slot_among service.places) (sym first_named) ∙ found (wdt_of seat) two.first service sound (ap (λ (tables : List Table). slice_get tables 0) two.there)

  pub second_found : TablesAreFound → IsTableService service → slot_among service.places (table_name Adt) ≡ Some two.second.slot
  second_found found sound =
      ap (slot_among service.places) (sym second_named) ∙ found (adt_of seat) two.second service sound (ap (λ (tables : List Table). slice_get tables 1) two.there)
