-- The table services stay sound.
use Rattle.std.proofs.Common.{◌≡◌, refl, ap, ap₂, sym, ◌∙◌, ℕ, zero, suc, ◌+◌, ◌≤◌, ◌<◌, Bool, true, false, ◌&&◌, ◌||◌, List, [], ◌∷◌, ◌++◌, length, length-append, arith, if◌then◌else◌, nat_lt, nat_le, Option, Some, None, is_none, is_some, slice_get, slice_index_or, slice_set, Result, Ok, Err, IfOk, true≢false}
use Rattle.std.specs.Option.{option_map_or}
use Rattle.std.specs.List.{position_from, AllByRecursion}
use Rattle.std.proofs.lemmas.Bool.{ltb-false, leb-false}
use Rattle.std.proofs.lemmas.List.{length-set}
use Rattle.std.proofs.lemmas.Slice.Eq.{bytes_eq-Decides}
use Rattle.lc_model.specs.Name.{Name, is_named, name_in, value_under, put}
use Rattle.lc_model.specs.Refusal.{Refusal, ◌>>=◌, refused, found, provided}
use Rattle.lc_model.specs.Tables.File.{opened}
use Rattle.lc_model.specs.Tables.Slot.{Move, Slot, loaded, moved}
use Rattle.lc_model.specs.Command.{Load, Manage}
use Rattle.lc_model.specs.Host.World.{max_files}
use Rattle.lc_model.specs.Host.React.{max_file_size}
use Rattle.lc_model.specs.Services.Tables.{Table, TableService, Places, Handle, tables_a_seat, tables_at, table_at, number_named, handle_from, handle_named, fits_table, new_table, with_slot, file_refusal, moved_among, image_loaded_among, loaded_among, with_places, times_in, times_among, IsTableService}
use Rattle.lc_model.specs.Laws.TableServices.{FirstIsSound, FilesStaySound, RegisteringStaysSound, UnregisteringStaysSound, CommandsStaySound, ChangesStaySound}
use Rattle.lc_model.proofs.Services.NamedLists.{put_distinct, put_length}

-- ---- files

put_fits : (name : Name) (bytes : List ℕ) (files : List (Name × List ℕ)) → length bytes ≤ max_file_size → AllByRecursion (λ (file : Name × List ℕ). length file.1 ≤ max_file_size) files →
    AllByRecursion (λ (file : Name × List ℕ). length file.1 ≤ max_file_size) (put name bytes files)
put_fits name bytes [] fits all = (fits, tt)
put_fits name bytes (file ∷ files) fits all = by_test (put_fits name bytes files fits all.1) (is_named name file.0)
  where
    by_test : AllByRecursion (λ (f : Name × List ℕ). length f.1 ≤ max_file_size) (put name bytes files) → (test : Bool) →
        AllByRecursion (λ (f : Name × List ℕ). length f.1 ≤ max_file_size) (if test then (name, bytes) ∷ files else file ∷ put name bytes files)
    by_test others true = (fits, all.1)
    by_test others false = (all.0, others)

-- where a new name finds room
room_there : (files : List (Name × List ℕ)) (name : Name) → (nat_le max_files (length files) && is_none (value_under name files)) ≡ false → is_none (value_under name files) ≡ true → length files < max_files
room_there files name room new = by_test (nat_le max_files (length files)) refl
  where
    by_test : (b : Bool) → nat_le max_files (length files) ≡ b → length files < max_files
    by_test true e = absurd (true≢false (sym (ap₂ (λ x y. x && y) e new) ∙ room))
    by_test false e = leb-false max_files (length files) e

pub files_stay_sound : FilesStaySound
files_stay_sound name bytes service is = by_length (nat_lt max_file_size (length bytes)) refl
  where
    with_files : Result (List (Name × List ℕ)) Refusal → Result TableService Refusal
    with_files r = r >>= (λ files. Ok (record service { files = files }))

    by_room : length bytes ≤ max_file_size → (test : Bool) → (nat_le max_files (length service.files) && is_none (value_under name service.files)) ≡ test →
        IfOk (with_files (if test then refused 118 else Ok (put name bytes service.files))) IsTableService
    by_room fits true room = tt
    by_room fits false room = record {
      few_files = put_length name bytes service.files max_files is.few_files (room_there service.files name room);
      file_names = put_distinct name bytes service.files is.file_names;
      file_sizes = put_fits name bytes service.files fits is.file_sizes;
      seats = is.seats;
      few_tables = is.few_tables;
      table_names = is.table_names;
    }

    by_length : (test : Bool) → nat_lt max_file_size (length bytes) ≡ test →
        IfOk (with_files (if test then refused 119 else if nat_le max_files (length service.files) && is_none (value_under name service.files) then refused 118 else Ok (put name bytes service.files))) IsTableService
    by_length true long = tt
    by_length false short = by_room (ltb-false max_file_size (length bytes) short) (nat_le max_files (length service.files) && is_none (value_under name service.files)) refl

-- ---- tables

module _ (P : List Table → Type 0) where
  all_set : (places : Places) (k : ℕ) (tables : List Table) → AllByRecursion P places → P tables → AllByRecursion P (slice_set places k tables)
  all_set [] k tables all here = tt
  all_set (first ∷ places) zero tables all here = (here, all.1)
  all_set (first ∷ places) (suc k) tables all here = (all.0, all_set places k tables all.1 here)

  all_at : (places : Places) (k : ℕ) (d : List Table) → AllByRecursion P places → P d → P (slice_index_or places k d)
  all_at [] k d all other = other
  all_at (first ∷ places) zero d all other = all.0
  all_at (first ∷ places) (suc k) d all other = all_at places k d all.1 other

-- what the names of one seat's tables come to
in_more : (name : Name) (tables : List Table) (table : Table) → times_in name (tables ++ table ∷ []) ≡ times_in name tables + (if is_named name table.name then 1 else 0)
unfolding times_in
in_more name [] table = omega arith
in_more name (first ∷ tables) table = let others = in_more name tables table in omega (arith, others)

-- another list on a seat: what it has more
among_set : (name : Name) (places : Places) (k : ℕ) (tables : List Table) (more : ℕ) → times_in name tables ≤ times_in name (slice_index_or places k []) + more →
    times_among name (slice_set places k tables) ≤ times_among name places + more
unfolding times_among times_in
among_set name [] k tables more less = omega arith
among_set name (first ∷ places) zero tables more less = omega (arith, less)
among_set name (first ∷ places) (suc k) tables more less = let others = among_set name places k tables more less in omega (arith, others)

-- a name that no table has
not_in : (name : Name) (n : ℕ) (tables : List Table) → position_from (λ (table : Table). is_named name table.name) n tables ≡ None → times_in name tables ≡ 0
unfolding times_in
not_in name n [] none = refl
not_in name n (table ∷ tables) none = by_test (is_named name table.name) none (not_in name (n + 1) tables)
  where
    by_test : (test : Bool) → (let o : Option ℕ = if test then Some n else position_from (λ (t : Table). is_named name t.name) (n + 1) tables in o) ≡ None →
        (position_from (λ (t : Table). is_named name t.name) (n + 1) tables ≡ None → times_in name tables ≡ 0) → (if test then 1 else 0) + times_in name tables ≡ 0
    by_test true e others = absurd (true≢false (ap is_some e))
    by_test false e others = let rest = others e in omega (arith, rest)

not_among : (name : Name) (n : ℕ) (places : Places) → handle_from name n places ≡ None → times_among name places ≡ 0
unfolding handle_from times_among
not_among name n [] none = refl
not_among name n (tables ∷ places) none = by_number (number_named name tables) refl none (not_among name (n + 1) places)
  where
    by_number : (o : Option ℕ) → number_named name tables ≡ o → (let h : Option Handle = option_map_or (λ number. Some (record { seat = n; number = number })) o (handle_from name (n + 1) places) in h) ≡ None →
        (handle_from name (n + 1) places ≡ None → times_among name places ≡ 0) → times_in name tables + times_among name places ≡ 0
    by_number (Some number) is e others = absurd (true≢false (ap is_some e))
    by_number None is e others = let rest = others e in let here = not_in name 0 tables is in omega (arith, rest, here)

-- a name more, which no table had
one_more : (name other : Name) (places : Places) → times_among name places ≡ 0 → times_among other places ≤ 1 → times_among other places + (if is_named other name then 1 else 0) ≤ 1
one_more name other places none few = by_test (is_named other name) refl
  where
    by_test : (test : Bool) → is_named other name ≡ test → times_among other places + (if test then 1 else 0) ≤ 1
    by_test true same = let zero_times : times_among other places ≡ 0 = ap (λ n. times_among n places) ((bytes_eq-Decides other name).0 same) ∙ none in omega (arith, zero_times)
    by_test false two = omega (arith, few)

pub registering_stays_sound : RegisteringStaysSound
registering_stays_sound seat name size other service is = by_tests (nat_le tables_a_seat (length tables)) refl (handle_named name service.places) refl
  where
    tables : List Table
    tables = tables_at seat service.places

    new : Table
    new = new_table name size other

    by_tests : (full : Bool) → nat_le tables_a_seat (length tables) ≡ full → (o : Option Handle) → handle_named name service.places ≡ o →
        IfOk (let r : Result TableService Refusal = if full || is_some o then refused 120 else Ok (record service { places = slice_set service.places seat (tables ++ new ∷ []) }) in r) IsTableService
    by_tests true full o named = tt
    by_tests false room (Some handle) named = tt
    by_tests false room None named = record {
      few_files = is.few_files;
      file_names = is.file_names;
      file_sizes = is.file_sizes;
      seats = length-set service.places seat (tables ++ new ∷ []) ∙ is.seats;
      few_tables = all_set (λ ts. length ts ≤ tables_a_seat) service.places seat (tables ++ new ∷ []) is.few_tables
          (let less = leb-false tables_a_seat (length tables) room in let sum = length-append tables (new ∷ []) in omega (arith, less, sum));
      table_names = λ n. (let whole = among_set n service.places seat (tables ++ new ∷ []) (if is_named n name then 1 else 0) (let here = in_more n tables new in omega (arith, here)) in
          let few = one_more name n service.places (not_among name 0 service.places named) (is.table_names n) in omega (arith, whole, few));
    }

pub unregistering_stays_sound : UnregisteringStaysSound
unfolding times_in
unregistering_stays_sound seat service is = record {
  few_files = is.few_files;
  file_names = is.file_names;
  file_sizes = is.file_sizes;
  seats = length-set service.places seat [] ∙ is.seats;
  few_tables = all_set (λ ts. length ts ≤ tables_a_seat) service.places seat [] is.few_tables (omega arith);
  table_names = λ n. (let whole = among_set n service.places seat [] 0 (none_in n) in let few = is.table_names n in omega (arith, whole, few));
}
  where
    none_in : (n : Name) → times_in n [] ≤ times_in n (slice_index_or service.places seat []) + 0
    none_in n = omega arith

-- ---- another slot at a table

-- a table with another slot has its name
in_set : (name : Name) (tables : List Table) (k : ℕ) (table : Table) (slot : Slot (List ℕ)) → slice_get tables k ≡ Some table → times_in name (slice_set tables k (record table { slot = slot })) ≡ times_in name tables
unfolding times_in
in_set name [] k table slot is = refl
in_set name (first ∷ tables) zero table slot is =
    ap (λ (t : Table). (if is_named name t.name then 1 else 0) + times_in name tables) (some_table is)
  where
    some_table : Some first ≡ Some table → table ≡ first
    some_table e = sym (ap (λ (o : Option Table). option_map_or (λ t. t) o first) e)
in_set name (first ∷ tables) (suc k) table slot is = ap (λ n. (if is_named name first.name then 1 else 0) + n) (in_set name tables k table slot is)

slot_stays_sound : (handle : Handle) (table : Table) (slot : Slot (List ℕ)) (service : TableService) → table_at handle service.places ≡ Some table → IsTableService service →
    IsTableService (record service { places = with_slot handle table service.places slot })
slot_stays_sound handle table slot service at is =
    let tables : List Table = tables_at handle.seat service.places in
    let after : List Table = slice_set tables handle.number (record table { slot = slot }) in
    record {
      few_files = is.few_files;
      file_names = is.file_names;
      file_sizes = is.file_sizes;
      seats = length-set service.places handle.seat after ∙ is.seats;
      few_tables = all_set (λ ts. length ts ≤ tables_a_seat) service.places handle.seat after is.few_tables
          (let same = length-set tables handle.number (record table { slot = slot }) in
          let few = all_at (λ ts. length ts ≤ tables_a_seat) service.places handle.seat [] is.few_tables (omega arith) in omega (arith, same, few));
      table_names = λ n. (let whole = among_set n service.places handle.seat after 0 (let same = in_set n tables handle.number table slot at in omega (arith, same)) in
          let few = is.table_names n in omega (arith, whole, few));
    }

pub changes_stay_sound : ChangesStaySound
changes_stay_sound change handle service is = by_table (table_at handle service.places) refl
  where
    by_table : (o : Option Table) → table_at handle service.places ≡ o →
        IsTableService (record service { places = option_map_or (λ (table : Table). with_slot handle table service.places (change table.slot)) o service.places })
    by_table None none = record { few_files = is.few_files; file_names = is.file_names; file_sizes = is.file_sizes; seats = is.seats; few_tables = is.few_tables; table_names = is.table_names }
    by_table (Some table) at = slot_stays_sound handle table (change table.slot) service at is

-- ---- commands

pub then_ok : {A B : Type 0} (P : B → Type 0) (r : Result A Refusal) (next : A → Result B Refusal) → ((a : A) → r ≡ Ok a → IfOk (next a) P) → IfOk (r >>= next) P
then_ok P (Ok a) next each = each a refl
then_ok P (Err refusal) next each = tt

pub found_ok : {A B : Type 0} (P : B → Type 0) (o : Option A) (code : ℕ) (next : A → Result B Refusal) → ((x : A) → o ≡ Some x → IfOk (next x) P) → IfOk (found o code >>= next) P
found_ok P (Some x) code next each = each x refl
found_ok P None code next each = tt

module _ (service : TableService) (is : IsTableService service) where
  Sound : Places → Type 0
  Sound places = IsTableService (record service { places = places })

  found_at : (handle : Handle) (o : Option Table) (next : Table → Result Places Refusal) → ((table : Table) → o ≡ Some table → IfOk (next table) Sound) → IfOk (found o 113 >>= next) Sound
  found_at handle None next each = tt
  found_at handle (Some table) next each = each table refl

  moved_sound : (move : Move) (name : Name) → IfOk (moved_among move name service.places) Sound
  unfolding Sound
  moved_sound move name =
      then_ok Sound (found (handle_named name service.places) 113) _ (λ handle h. found_at handle (table_at handle service.places) _ (λ table at.
      then_ok Sound (moved move table.slot) _ (λ slot e. slot_stays_sound handle table slot service at is)))

  image_loaded_sound : (image : List ℕ) (name : Name) → IfOk (image_loaded_among image name service.places) Sound
  unfolding Sound
  image_loaded_sound image name =
      then_ok Sound (found (handle_named name service.places) 113) _ (λ handle h. found_at handle (table_at handle service.places) _ (λ table at.
      then_ok Sound (provided (fits_table table (length image)) 114 image) _ (λ fitting f. then_ok Sound (loaded fitting table.slot) _ (λ slot e. slot_stays_sound handle table slot service at is))))

  placed : (r : Result Places Refusal) → IfOk r Sound → IfOk (with_places service r) IsTableService
  unfolding Sound
  placed (Ok places) sound = sound
  placed (Err refusal) sound = tt

pub commands_stay_sound : CommandsStaySound
commands_stay_sound (Manage move name) service is = placed service is (moved_among move name service.places) (moved_sound service is move name)
commands_stay_sound (Load name) service is =
    then_ok IsTableService (found (value_under name service.files) 111) _ (λ bytes b. placed service is (loaded_among bytes service.places)
    (then_ok (Sound service is) (file_refusal (opened bytes)) _ (λ file f. image_loaded_sound service is file.image (name_in file.name_field))))

pub first_is_sound : FirstIsSound
unfolding times_among times_in
first_is_sound = record {
  few_files = omega arith;
  file_names = tt;
  file_sizes = tt;
  seats = refl;
  few_tables = (omega arith, (omega arith, (omega arith, (omega arith, (omega arith, (omega arith, (omega arith, (omega arith, tt))))))));
  table_names = λ name. omega arith;
}
