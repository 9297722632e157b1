-- The table of a name is the one of the handle that is found for it.
use Rattle.std.proofs.Common.{◌≡◌, ℕ, zero, suc, ◌+◌, Bool, true, false, List, [], ◌∷◌, refl, ap, sym, ◌∙◌, subst, arith, if◌then◌else◌, Option, Some, None, slice_index_or, slice_get}
use Rattle.std.specs.Option.{option_map_or, option_or}
use Rattle.std.specs.List.{position_from}
use Rattle.lc_model.specs.Name.{Name, is_named}
use Rattle.lc_model.specs.Services.Tables.{Table, TableService, Places, Handle, number_named, handle_from, handle_named, slot_at, table_at}
use Rattle.lc_model.specs.Services.Seen.{slot_in, slot_among}
use Rattle.lc_model.specs.Tables.Slot.{Slot, no_images}
use Rattle.lc_model.proofs.Services.TableNames.{no_number, no_handle}
use Rattle.tbl_service.specs.Images.{active_of}

-- the table with this number is the one of the name
record IsIn (name : Name) (tables : List Table) (number : ℕ) : Type 0 where
  pub table : Table
  pub there : slice_get tables number ≡ Some table
  pub slot : slot_in tables name ≡ Some table.slot

in_number : (name : Name) (n k : ℕ) (tables : List Table) → position_from (λ (table : Table). is_named name table.name) n tables ≡ Some k → (number : ℕ) × (k ≡ n + number) × IsIn name tables number
in_number name n k [] e = cc
in_number name n k (table ∷ tables) e = by_test (is_named name table.name) refl e (in_number name (n + 1) k tables)
  where
    behind : ((number : ℕ) × (k ≡ n + 1 + number) × IsIn name tables number) → is_named name table.name ≡ false → (number : ℕ) × (k ≡ n + number) × IsIn name (table ∷ tables) number
    behind (number, at, is) other = (
      suc number,
      omega (arith, at),
      record { table = is.table; there = is.there; slot = ap (λ b. if b then Some table.slot else slot_in tables name) other ∙ is.slot },
    )

    by_test : (t : Bool) → is_named name table.name ≡ t →
        (let o : Option ℕ = if t then Some n else position_from (λ (other : Table). is_named name other.name) (n + 1) tables in o) ≡ Some k →
        (position_from (λ (other : Table). is_named name other.name) (n + 1) tables ≡ Some k → (number : ℕ) × (k ≡ n + 1 + number) × IsIn name tables number) →
        (number : ℕ) × (k ≡ n + number) × IsIn name (table ∷ tables) number
    by_test true this e others =
        let same : n ≡ k = cc in
        (zero, omega (arith, same), record { table = table; there = refl; slot = ap (λ b. if b then Some table.slot else slot_in tables name) this })
    by_test false this e others = behind (others e) this

-- the table with this number of this seat is the one of the name
record IsAmong (name : Name) (places : Places) (seat number : ℕ) : Type 0 where
  pub table : Table
  pub there : slice_get (slice_index_or places seat []) number ≡ Some table
  pub slot : slot_among places name ≡ Some table.slot

in_handle : (name : Name) (n : ℕ) (places : Places) (handle : Handle) → handle_from name n places ≡ Some handle → (seat : ℕ) × (handle.seat ≡ n + seat) × IsAmong name places seat handle.number
unfolding handle_from
in_handle name n [] handle e = cc
in_handle name n (tables ∷ places) handle e = by_number (number_named name tables) refl e (in_handle name (n + 1) places handle)
  where
    here : (number : ℕ) → (m : ℕ) × (number ≡ 0 + m) × IsIn name tables m → record { seat = n; number = number } ≡ handle → (seat : ℕ) × (handle.seat ≡ n + seat) × IsAmong name (tables ∷ places) seat handle.number
    here number (m, at, is) same =
        let seat : n ≡ handle.seat = ap (λ (h : Handle). h.seat) same in
        let same_number : number ≡ handle.number = ap (λ (h : Handle). h.number) same in
        let which : m ≡ handle.number = omega (arith, at, same_number) in (
          zero,
          omega (arith, seat),
          record {
            table = is.table;
            there = ap (slice_get tables) (sym which) ∙ is.there;
            slot = ap (λ o. option_or o (slot_among places name)) is.slot;
          },
        )

    behind : ((seat : ℕ) × (handle.seat ≡ n + 1 + seat) × IsAmong name places seat handle.number) → None ≡ number_named name tables → (seat : ℕ) × (handle.seat ≡ n + seat) × IsAmong name (tables ∷ places) seat handle.number
    behind (seat, at, is) none = (
      suc seat,
      omega (arith, at),
      record { table = is.table; there = is.there; slot = ap (λ o. option_or o (slot_among places name)) (no_number name 0 tables (sym none)) ∙ is.slot },
    )

    by_number : (o : Option ℕ) → number_named name tables ≡ o →
        (let h : Option Handle = option_map_or (λ number. Some (record { seat = n; number = number })) o (handle_from name (n + 1) places) in h) ≡ Some handle →
        (handle_from name (n + 1) places ≡ Some handle → (seat : ℕ) × (handle.seat ≡ n + 1 + seat) × IsAmong name places seat handle.number) →
        (seat : ℕ) × (handle.seat ≡ n + seat) × IsAmong name (tables ∷ places) seat handle.number
    by_number (Some number) is e others = here number (in_number name 0 number tables is) cc
    by_number None is e others = behind (others e) (sym is)

-- the image in use of the table of a handle that is found for a name
pub found_active : (name : Name) (service : TableService) (handle : Handle) → Some handle ≡ handle_named name service.places → (slot_at handle service).active ≡ active_of (slot_among service.places name)
found_active name service handle found = by_seat (in_handle name 0 service.places handle (sym found))
  where
    by_seat : (seat : ℕ) × (handle.seat ≡ 0 + seat) × IsAmong name service.places seat handle.number → (slot_at handle service).active ≡ active_of (slot_among service.places name)
    by_seat (seat, at, is) =
        let which : handle.seat ≡ seat = omega (arith, at) in
        let there : table_at handle service.places ≡ Some is.table = ap (λ n. slice_get (slice_index_or service.places n []) handle.number) which ∙ is.there in
        ap (λ o. (let s : Slot (List ℕ) = option_map_or (λ (table : Table). table.slot) o no_images in s).active) there ∙ sym (ap active_of is.slot)

-- where none is found there is none
pub none_active : (name : Name) (service : TableService) → None ≡ handle_named name service.places → None ≡ active_of (slot_among service.places name)
none_active name service none = sym (ap active_of (no_handle name 0 service.places (sym none)))
