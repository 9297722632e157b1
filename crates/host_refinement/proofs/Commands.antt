-- Commands to tables, by seats and under names.
use Rattle.std.proofs.Common.{◌≡◌, refl, ap, sym, ◌∙◌, subst, ℕ, zero, suc, ◌+◌, arith, Bool, true, false, ◌||◌, ◌==◌, List, [], ◌∷◌, map, length, Option, Some, None, option_map, slice_get, slice_set, Result, Ok, Err, inl, inr, cond}
use Rattle.std.specs.Prelude.{IfOk}
use Rattle.std.specs.Option.{option_map_or}
use Rattle.std.specs.List.{AllByRecursion, position_from}
use Rattle.lc_model.specs.declared.kind.Kind.{Kind}
use Rattle.lc_model.specs.declared.kind.Kind.TheVariants.{Wdt, Adt}
use Rattle.lc_model.specs.Name.{Name, is_named, value_under, name_in}
use Rattle.lc_model.specs.Refusal.{Refusal, ◌>>=◌, refused, found, provided}
use Rattle.lc_model.specs.Tables.File.{TableFile, opened}
use Rattle.lc_model.specs.Tables.HalvesAndBytes.{as_bytes, meaning_by}
use Rattle.lc_model.specs.Tables.InForce.{layouts}
use Rattle.lc_model.specs.Tables.Interpretation.{kind_named, has_size}
use Rattle.lc_model.specs.Tables.Slot.{Slot, Move, loaded, moved}
use Rattle.lc_model.specs.Command.{Load, Manage}
use Rattle.lc_model.specs.Host.React.{opened_file}
use Rattle.lc_model.specs.Kept.Call.{ServicesNow, with_at}
use Rattle.lc_model.specs.Kept.Executive.{managed_now}
use Rattle.lc_model.specs.Laws.TablesByName.{TablesAreFound, ChangingTables}
use Rattle.lc_model.specs.Services.Seen.{files_seen, meaning_of, slot_among}
use Rattle.lc_model.specs.Services.Settled.{Form, form_of}
use Rattle.lc_model.specs.Services.Tables.{Table, TableService, Places, Handle, IsTableService, tables_at, table_at, number_named, handle_from, handle_named, fits_table, with_slot, with_places, file_refusal, moved_among, image_loaded_among, loaded_among, table_commanded}
use Rattle.lc_model.proofs.Services.SenderNames.{same_name}
use Rattle.lc_model.proofs.Services.TableNames.{no_handle, value_meaning}
use Rattle.lc_model.proofs.Services.TableServiceLaws.{then_ok}
use Rattle.lc_model.proofs.Facts.{equal_either_way}
use Rattle.host_refinement.specs.Commands.{HasKnownForm, MovesByName, LoadsByName, CommandsKeepForms}

-- ---- what a handle of a name finds

-- the table of this number, which has the name
record Finds (name : Name) (tables : List Table) (number : ℕ) : Type 0 where
  table : Table
  there : slice_get tables number ≡ Some table
  named : table.name ≡ name

number_finds : (name : Name) (from : ℕ) (tables : List Table) (number : ℕ) → position_from (λ (table : Table). is_named name table.name) from tables ≡ Some number →
    (behind : ℕ) × (number ≡ from + behind) × Finds name tables behind
number_finds name from [] number e = absurd (cc e)
number_finds name from (table ∷ tables) number e = by_test (is_named name table.name) refl e (number_finds name (from + 1) tables number)
  where
    Rest : Type 0
    Rest = (behind : ℕ) × (number ≡ from + 1 + behind) × Finds name tables behind

    by_test : (test : Bool) → is_named name table.name ≡ test →
        cond test (Some from) (position_from (λ (table : Table). is_named name table.name) (from + 1) tables) ≡ Some number →
        (position_from (λ (table : Table). is_named name table.name) (from + 1) tables ≡ Some number → Rest) →
        (behind : ℕ) × (number ≡ from + behind) × Finds name (table ∷ tables) behind
    by_test true is e rest = (0, (let same : from ≡ number = cc e in omega (arith, same)), record { table = table; there = refl; named = sym (same_name name table.name is) })
    by_test false is e rest =
        let more = rest e in
        (suc more.0, (let at = more.1 in omega (arith, at)), record { table = more.2.table; there = more.2.there; named = more.2.named })

handle_finds : (name : Name) (seat : ℕ) (places : Places) (handle : Handle) → handle_from name seat places ≡ Some handle →
    (behind : ℕ) × (handle.seat ≡ seat + behind) × Finds name (tables_at behind places) handle.number
unfolding handle_from
handle_finds name seat [] handle e = absurd (cc e)
handle_finds name seat (tables ∷ places) handle e = by_number (number_named name tables) refl e (handle_finds name (seat + 1) places handle)
  where
    Rest : Type 0
    Rest = (behind : ℕ) × (handle.seat ≡ seat + 1 + behind) × Finds name (tables_at behind places) handle.number

    by_number : (o : Option ℕ) → number_named name tables ≡ o →
        option_map_or (λ number. Some (record { seat = seat; number = number })) o (handle_from name (seat + 1) places) ≡ Some handle →
        (handle_from name (seat + 1) places ≡ Some handle → Rest) →
        (behind : ℕ) × (handle.seat ≡ seat + behind) × Finds name (tables_at behind (tables ∷ places)) handle.number
    by_number (Some number) is e rest =
        let same : record { seat = seat; number = number } ≡ handle = cc e in
        let found = number_finds name 0 tables number is in (
          0,
          (let at : seat ≡ handle.seat = ap (λ (h : Handle). h.seat) same in omega (arith, at)),
          subst (Finds name tables) (let at = found.1 in let number : number ≡ handle.number = ap (λ (h : Handle). h.number) same in
              let own : found.0 ≡ handle.number = omega (arith, at, number) in own) found.2,
        )
    by_number None is e rest =
        let more = rest e in
        (suc more.0, (let at = more.1 in omega (arith, at)), more.2)

named_finds : (name : Name) (places : Places) (handle : Handle) → handle_named name places ≡ Some handle → Finds name (tables_at handle.seat places) handle.number
named_finds name places handle e =
    let found = handle_finds name 0 places handle e in
    subst (λ seat. Finds name (tables_at seat places) handle.number) (let at = found.1 in let own : found.0 ≡ handle.seat = omega (arith, at) in own) found.2

-- ---- a change of one table's images that may be refused

module _ (tables_are_found : TablesAreFound) (changing_tables : ChangingTables) (service : TableService) (is : IsTableService service) {B : Type 0}
    (leave : (Name → Option (Slot (List ℕ))) → B) where
  -- the change by what is held under the name
  abbrev under : Name → (Slot (List ℕ) → Result (Slot (List ℕ)) Refusal) → Result B Refusal
  under name change = do
    slot ← found (slot_among service.places name) 113
    after ← change slot
    Ok (leave (with_at name (Some after) (slot_among service.places)))

  -- and at the place that the name has
  abbrev at_place : Name → (Table → Result (Slot (List ℕ)) Refusal) → Result B Refusal
  at_place name change = (found (handle_named name service.places) 113 >>= (λ handle.
      found (table_at handle service.places) 113 >>= (λ table.
      change table >>= (λ slot. Ok (with_slot handle table service.places slot))))) >>= (λ places. Ok (leave (slot_among places)))

  slots_after : (handle : Handle) (table : Table) (slot : Slot (List ℕ)) → table_at handle service.places ≡ Some table →
      slot_among (with_slot handle table service.places slot) ≡ with_at table.name (Some slot) (slot_among service.places)
  slots_after handle table slot there =
      sym (ap slot_among (ap (λ o. option_map_or (λ (t : Table). with_slot handle t service.places slot) o service.places) there))
      ∙ changing_tables (λ old. slot) handle table service is there

  pub one_change : (name : Name) (change : Slot (List ℕ) → Result (Slot (List ℕ)) Refusal) (same : Table → Result (Slot (List ℕ)) Refusal) →
      ((handle : Handle) (table : Table) → table_at handle service.places ≡ Some table → table.name ≡ name → change table.slot ≡ same table) →
      under name change ≡ at_place name same
  one_change name change same agree = by_handle (handle_named name service.places) refl
    where
      by_slot : (handle : Handle) (table : Table) → table_at handle service.places ≡ Some table → table.name ≡ name → (r : Result (Slot (List ℕ)) Refusal) →
          (r >>= (λ after. Ok (leave (with_at name (Some after) (slot_among service.places)))))
          ≡ ((r >>= (λ slot. Ok (with_slot handle table service.places slot))) >>= (λ places. Ok (leave (slot_among places))))
      by_slot handle table there named (Err refusal) = refl
      by_slot handle table there named (Ok slot) =
          ap (λ slots. Ok (leave slots)) (sym (slots_after handle table slot there ∙ ap (λ n. with_at n (Some slot) (slot_among service.places)) named))

      by_handle : (o : Option Handle) → handle_named name service.places ≡ o →
          under name change ≡ ((found o 113 >>= (λ handle. found (table_at handle service.places) 113 >>= (λ table.
          same table >>= (λ slot. Ok (with_slot handle table service.places slot))))) >>= (λ places. Ok (leave (slot_among places))))
      by_handle None none =
          ap (λ o. found o 113 >>= (λ slot. change slot >>= (λ after. Ok (leave (with_at name (Some after) (slot_among service.places)))))) (no_handle name 0 service.places none)
      by_handle (Some handle) some =
          let finds = named_finds name service.places handle some in
          let table : Table = finds.table in
          let slot : slot_among service.places name ≡ Some table.slot =
          ap (slot_among service.places) (sym finds.named) ∙ tables_are_found handle table service is finds.there in
          ap (λ o. found o 113 >>= (λ slot. change slot >>= (λ after. Ok (leave (with_at name (Some after) (slot_among service.places)))))) slot
          ∙ ap (λ r. r >>= (λ after. Ok (leave (with_at name (Some after) (slot_among service.places))))) (agree handle table finds.there finds.named)
          ∙ by_slot handle table finds.there finds.named (same table)
          ∙ ap (λ o. (found o 113 >>= (λ t. same t >>= (λ slot. Ok (with_slot handle t service.places slot)))) >>= (λ places. Ok (leave (slot_among places)))) (sym finds.there)

-- ---- tables of the Limit Checker

-- what holds of all tables holds of one at its place
all_in : (P : Table → Type 0) (tables : List Table) (number : ℕ) (table : Table) → AllByRecursion P tables → slice_get tables number ≡ Some table → P table
all_in P [] number table all there = absurd (cc there)
all_in P (first ∷ tables) zero table all there = subst P (let same : first ≡ table = cc there in same) all.0
all_in P (first ∷ tables) (suc number) table all there = all_in P tables number table all.1 there

all_among : (P : Table → Type 0) (places : Places) (seat number : ℕ) (table : Table) → AllByRecursion (λ (tables : List Table). AllByRecursion P tables) places →
    slice_get (tables_at seat places) number ≡ Some table → P table
all_among P [] seat number table all there = absurd (cc there)
all_among P (tables ∷ places) zero number table all there = all_in P tables number table all.0 there
all_among P (tables ∷ places) (suc seat) number table all there = all_among P places seat number table all.1 there

-- a table that is the Limit Checker's has a kind, and the sizes of that kind
record HasKind (table : Table) : Type 0 where
  kind : Kind
  is_kind : kind_named table.name ≡ Some kind
  sizes : (size : ℕ) → has_size layouts kind size ≡ fits_table table size

kind_known : (table : Table) → HasKnownForm table → HasKind table
kind_known table (inl e) = record {
  kind = Wdt;
  is_kind = ap (λ (f : Form). kind_named f.name) e;
  sizes = λ size. ap (λ b. b || false) (equal_either_way 4264 size)
      ∙ sym (ap (λ (f : Form). size == f.size || option_map_or (λ other. size == other) f.other false) e);
}
kind_known table (inr e) = record {
  kind = Adt;
  is_kind = ap (λ (f : Form). kind_named f.name) e;
  sizes = λ size. ap (λ b. b || (19400 == size || false)) (equal_either_way 15176 size) ∙ ap (λ b. size == 15176 || (b || false)) (equal_either_way 19400 size)
      ∙ either (size == 15176) (size == 19400)
      ∙ sym (ap (λ (f : Form). size == f.size || option_map_or (λ other. size == other) f.other false) e);
}
  where
    either : (a b : Bool) → (a || (b || false)) ≡ (a || b)
    either true b = refl
    either false true = refl
    either false false = refl

-- ---- forms

forms_in : (tables : List Table) (number : ℕ) (table : Table) (slot : Slot (List ℕ)) → slice_get tables number ≡ Some table →
    map form_of (slice_set tables number (record table { slot = slot })) ≡ map form_of tables
forms_in [] number table slot there = refl
forms_in (first ∷ tables) zero table slot there = ap (λ (t : Table). form_of t ∷ map form_of tables) (let same : first ≡ table = cc there in sym same)
forms_in (first ∷ tables) (suc number) table slot there = ap (λ forms. form_of first ∷ forms) (forms_in tables number table slot there)

forms_among : (places : Places) (seat : ℕ) (after : List Table) → map form_of after ≡ map form_of (tables_at seat places) →
    map (map form_of) (slice_set places seat after) ≡ map (map form_of) places
forms_among [] seat after same = refl
forms_among (tables ∷ places) zero after same = ap (λ forms. forms ∷ map (map form_of) places) same
forms_among (tables ∷ places) (suc seat) after same = ap (λ forms. map form_of tables ∷ forms) (forms_among places seat after same)

module _ (places : Places) where
  abbrev HasItsForms : Places → Type 0
  HasItsForms after = map (map form_of) after ≡ map (map form_of) places

  same_forms : (handle : Handle) (table : Table) (slot : Slot (List ℕ)) → table_at handle places ≡ Some table → HasItsForms (with_slot handle table places slot)
  same_forms handle table slot there =
      forms_among places handle.seat (slice_set (tables_at handle.seat places) handle.number (record table { slot = slot }))
      (forms_in (tables_at handle.seat places) handle.number table slot there)

  found_at : (o : Option Table) (next : Table → Result Places Refusal) → ((table : Table) → o ≡ Some table → IfOk (next table) HasItsForms) → IfOk (found o 113 >>= next) HasItsForms
  found_at None next each = tt
  found_at (Some table) next each = each table refl

  moves_keep : (move : Move) (name : Name) → IfOk (moved_among move name places) HasItsForms
  moves_keep move name =
      then_ok HasItsForms (found (handle_named name places) 113) _ (λ handle h. found_at (table_at handle places) _ (λ table at.
      then_ok HasItsForms (moved move table.slot) _ (λ slot e. same_forms handle table slot at)))

  loads_keep : (image : List ℕ) (name : Name) → IfOk (image_loaded_among image name places) HasItsForms
  loads_keep image name =
      then_ok HasItsForms (found (handle_named name places) 113) _ (λ handle h. found_at (table_at handle places) _ (λ table at.
      then_ok HasItsForms (provided (fits_table table (length image)) 114 image) _ (λ fitting f.
      then_ok HasItsForms (loaded fitting table.slot) _ (λ slot e. same_forms handle table slot at))))

placed_keeps : (service : TableService) (r : Result Places Refusal) → IfOk r (HasItsForms service.places) →
    IfOk (with_places service r) (λ (after : TableService). (map (map form_of) after.places ≡ map (map form_of) service.places) × (after.files ≡ service.files))
placed_keeps service (Ok places) same = (same, refl)
placed_keeps service (Err refusal) same = tt

pub commands_keep_forms : CommandsKeepForms
commands_keep_forms (Manage move name) service = placed_keeps service (moved_among move name service.places) (moves_keep service.places move name)
commands_keep_forms (Load name) service =
    then_ok (λ (after : TableService). (map (map form_of) after.places ≡ map (map form_of) service.places) × (after.files ≡ service.files))
    (found (value_under name service.files) 111) _ (λ bytes b. placed_keeps service (loaded_among bytes service.places)
    (then_ok (HasItsForms service.places) (file_refusal (opened bytes)) _ (λ file f. loads_keep service.places file.image (name_in file.name_field))))

-- ---- commands

-- three steps, one after the other
in_turn : {A B C : Type 0} (r : Result A Refusal) (next : A → Result B Refusal) (last : B → Result C Refusal) → (r >>= (λ a. next a >>= last)) ≡ ((r >>= next) >>= last)
in_turn (Ok a) next last = refl
in_turn (Err refusal) next last = refl

module _ (tables_are_found : TablesAreFound) (changing_tables : ChangingTables) where
  pub moves_by_name : MovesByName
  moves_by_name move name service services is slots =
      ap (λ slots. managed_now (as_bytes layouts) (Manage move name) (record services { slots = slots })) slots
      ∙ one_change tables_are_found changing_tables service is (λ slots. record services { slots = slots }) name (moved move) (λ table. moved move table.slot) (λ handle table there named. refl)
      ∙ placed (moved_among move name service.places)
    where
      placed : (r : Result Places Refusal) → (r >>= (λ places. Ok (record services { slots = slot_among places })))
          ≡ (with_places service r >>= (λ (after : TableService). Ok (record services { slots = slot_among after.places })))
      placed (Ok places) = refl
      placed (Err refusal) = refl

  module _ (service : TableService) (services : ServicesNow (List ℕ)) (is : IsTableService service)
      (known : AllByRecursion (λ (tables : List Table). AllByRecursion HasKnownForm tables) service.places) where
    abbrev Left : Type 0
    Left = ServicesNow (List ℕ)

    abbrev leave : (Name → Option (Slot (List ℕ))) → Left
    leave slots = record services { slots = slots }

    -- an image that comes for a name, in numbers
    abbrev comes : Name → ℕ → List ℕ → Option Kind → Result Left Refusal
    comes name size image o = found o 113 >>= (λ kind. found (slot_among service.places name) 113 >>= (λ slot.
        provided (has_size layouts kind size) 114 image >>= (λ fitting. loaded fitting slot >>= (λ after. Ok (leave (with_at name (Some after) (slot_among service.places)))))))

    abbrev into : Handle → Table → Result (Slot (List ℕ)) Refusal → Result Places Refusal
    into handle table r = r >>= (λ slot. Ok (with_slot handle table service.places slot))

    abbrev out : Result Places Refusal → Result Left Refusal
    out r = r >>= (λ places. Ok (leave (slot_among places)))

    abbrev fitted : List ℕ → Table → Result (Slot (List ℕ)) Refusal
    fitted image table = provided (fits_table table (length image)) 114 image >>= (λ fitting. loaded fitting table.slot)

    -- a table that has a name has the kind of the name
    kind_of_name : (name : Name) (handle : Handle) (table : Table) → table_at handle service.places ≡ Some table → table.name ≡ name →
        (kind : Kind) × (kind_named name ≡ Some kind) × ((size : ℕ) → has_size layouts kind size ≡ fits_table table size)
    kind_of_name name handle table there named =
        let known_kind = kind_known table (all_among HasKnownForm service.places handle.seat handle.number table known there) in
        (known_kind.kind, ap kind_named (sym named) ∙ known_kind.is_kind, known_kind.sizes)

    image_comes : (name : Name) (image : List ℕ) → comes name (length image) image (kind_named name) ≡ out (image_loaded_among image name service.places)
    image_comes name image = by_kind (kind_named name) refl
      where
        -- a name of no kind has no table
        none_stands : kind_named name ≡ None → (o : Option Handle) → handle_named name service.places ≡ o →
            refused 113 ≡ out (found o 113 >>= (λ handle. found (table_at handle service.places) 113 >>= (λ table.
            provided (fits_table table (length image)) 114 image >>= (λ fitting. into handle table (loaded fitting table.slot)))))
        none_stands unknown None e = refl
        none_stands unknown (Some handle) e =
            let finds = named_finds name service.places handle e in
            let its = kind_of_name name handle finds.table finds.there finds.named in
            absurd (cc (unknown, its.1))

        sized : Kind → Slot (List ℕ) → Result (Slot (List ℕ)) Refusal
        sized kind slot = provided (has_size layouts kind (length image)) 114 image >>= (λ fitting. loaded fitting slot)

        agree : (kind : Kind) → kind_named name ≡ Some kind → (handle : Handle) (table : Table) → table_at handle service.places ≡ Some table → table.name ≡ name →
            sized kind table.slot ≡ fitted image table
        agree kind e handle table there named =
            let its = kind_of_name name handle table there named in
            let same : its.0 ≡ kind = cc (its.1, e) in
            ap (λ test. provided test 114 image >>= (λ fitting. loaded fitting table.slot)) (subst (λ k. has_size layouts k (length image) ≡ fits_table table (length image)) same (its.2 (length image)))

        by_kind : (o : Option Kind) → kind_named name ≡ o → comes name (length image) image o ≡ out (image_loaded_among image name service.places)
        by_kind None e = none_stands e (handle_named name service.places) refl
        by_kind (Some kind) e =
            (λ i. found (slot_among service.places name) 113 >>= (λ slot.
            in_turn (provided (has_size layouts kind (length image)) 114 image) (λ fitting. loaded fitting slot) (λ after. Ok (leave (with_at name (Some after) (slot_among service.places)))) i))
            ∙ one_change tables_are_found changing_tables service is leave name (sized kind) (fitted image) (agree kind e)
            ∙ (λ i. out (found (handle_named name service.places) 113 >>= (λ handle. found (table_at handle service.places) 113 >>= (λ table.
            sym (in_turn (provided (fits_table table (length image)) 114 image) (λ fitting. loaded fitting table.slot) (λ slot. Ok (with_slot handle table service.places slot))) i))))

    -- a file that comes, by what it means
    file_comes : (r : Result TableFile ℕ) →
        (opened_file (meaning_by (λ image. image) r) >>= (λ contents. comes contents.0 contents.1 contents.2 (kind_named contents.0)))
        ≡ out (file_refusal r >>= (λ file. image_loaded_among file.image (name_in file.name_field) service.places))
    file_comes (Err fault) = refl
    file_comes (Ok file) = image_comes (name_in file.name_field) file.image

    placed_out : (r : Result Places Refusal) → out r ≡ (with_places service r >>= (λ (after : TableService). Ok (leave (slot_among after.places))))
    placed_out (Ok places) = refl
    placed_out (Err refusal) = refl

    pub load_by_name : (file : Name) → services.files ≡ files_seen service.files →
        (found (value_under file services.files) 111 >>= (λ meaning. opened_file meaning >>= (λ contents. comes contents.0 contents.1 contents.2 (kind_named contents.0))))
        ≡ (table_commanded (Load file) service >>= (λ after. Ok (leave (slot_among after.places))))
    load_by_name file files =
        ap (λ fs. found (value_under file fs) 111 >>= (λ meaning. opened_file meaning >>= (λ contents. comes contents.0 contents.1 contents.2 (kind_named contents.0)))) files
        ∙ ap (λ o. found o 111 >>= (λ meaning. opened_file meaning >>= (λ contents. comes contents.0 contents.1 contents.2 (kind_named contents.0)))) (value_meaning file service.files)
        ∙ by_file (value_under file service.files)
      where
        by_file : (o : Option (List ℕ)) →
            (found (option_map meaning_of o) 111 >>= (λ meaning. opened_file meaning >>= (λ contents. comes contents.0 contents.1 contents.2 (kind_named contents.0))))
            ≡ ((found o 111 >>= (λ bytes. with_places service (loaded_among bytes service.places))) >>= (λ (after : TableService). Ok (leave (slot_among after.places))))
        by_file None = refl
        by_file (Some bytes) = file_comes (opened bytes) ∙ placed_out (loaded_among bytes service.places)

  pub loads_by_name : LoadsByName
  loads_by_name file service services is known slots files =
      ap (λ slots. managed_now (as_bytes layouts) (Load file) (record services { slots = slots })) slots
      ∙ load_by_name service services is known file files
