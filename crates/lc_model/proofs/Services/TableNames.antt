-- Tables under their names, by the seats that they are kept at.
use Rattle.std.proofs.Common.{◌≡◌, refl, ap, sym, ◌∙◌, ℕ, zero, suc, ◌+◌, ◌≤◌, ◌<◌, Bool, true, false, List, [], ◌∷◌, ◌++◌, map, length, arith, if◌then◌else◌, Option, Some, None, option_map, slice_get, slice_index_or, slice_set, true≢false}
use Rattle.std.specs.Prelude.{IfOk, Result, Ok, is_none, is_some, nat_le, nat_lt, ◌&&◌, ◌||◌}
use Rattle.std.specs.Option.{option_or, option_map_or}
use Rattle.std.specs.List.{list_any, position_from}
use Rattle.lc_model.specs.Name.{Name, is_named, value_under, put}
use Rattle.lc_model.specs.Refusal.{Refusal, ◌>>=◌, refused}
use Rattle.lc_model.specs.Tables.Slot.{Slot, no_images}
use Rattle.lc_model.specs.Tables.Interpretation.{FileMeaning}
use Rattle.lc_model.specs.Host.World.{max_files}
use Rattle.lc_model.specs.Host.React.{max_file_size}
use Rattle.lc_model.specs.Kept.Call.{with_at}
use Rattle.lc_model.specs.Services.Tables.{Table, TableService, Places, Handle, tables_a_seat, tables_at, number_named, handle_from, handle_named, new_table, with_slot, times_in, times_among}
use Rattle.lc_model.proofs.Facts.{or_first, or_second}
use Rattle.lc_model.proofs.Services.SenderNames.{same_name, is_itself}
use Rattle.lc_model.specs.Services.Seen.{files_seen, meaning_of, slot_in, slot_among}
use Rattle.lc_model.specs.Laws.TablesByName.{TablesAreFound, RegisteringTables, UnregisteringTables, ChangingTables, StoringFiles, withdrawn}

-- ---- how often a name stands

abbrev once : Bool → ℕ
once b = if b then 1 else 0

is_once : (b : Bool) → b ≡ true → once b ≡ 1
is_once b e = ap once e

-- a table that is there counts
counts_in : (name : Name) (tables : List Table) (k : ℕ) (table : Table) → slice_get tables k ≡ Some table → table.name ≡ name → 1 ≤ times_in name tables
unfolding times_in
counts_in name [] k table e named = cc
counts_in name (first ∷ tables) zero table e named =
    let same : first ≡ table = cc in
    let here : is_named name first.name ≡ true = ap (is_named name) (ap (λ (t : Table). t.name) same ∙ named) ∙ is_itself name in
    let one = is_once (is_named name first.name) here in omega (arith, one)
counts_in name (first ∷ tables) (suc k) table e named = let behind = counts_in name tables k table e named in omega (arith, behind)

counts_among : (name : Name) (places : Places) (j k : ℕ) (table : Table) → slice_get (slice_index_or places j []) k ≡ Some table → table.name ≡ name → 1 ≤ times_among name places
unfolding times_among
counts_among name [] j k table e named = cc
counts_among name (tables ∷ places) zero k table e named = let here = counts_in name tables k table e named in omega (arith, here)
counts_among name (tables ∷ places) (suc j) k table e named = let behind = counts_among name places j k table e named in omega (arith, behind)

-- a name that stands nowhere has no slot
no_slot_in : (name : Name) (tables : List Table) → times_in name tables ≡ 0 → slot_in tables name ≡ None
unfolding times_in
no_slot_in name [] none = refl
no_slot_in name (table ∷ tables) none = by_test (is_named name table.name) refl (no_slot_in name tables)
  where
    by_test : (test : Bool) → is_named name table.name ≡ test → (times_in name tables ≡ 0 → slot_in tables name ≡ None) → (if test then Some table.slot else slot_in tables name) ≡ None
    by_test true e others = let one = is_once (is_named name table.name) e in absurd (let never : ⊥ = omega (arith, none, one) in never)
    by_test false e others = others (omega (arith, none))

no_slot_among : (name : Name) (places : Places) → times_among name places ≡ 0 → slot_among places name ≡ None
unfolding times_among
no_slot_among name [] none = refl
no_slot_among name (tables ∷ places) none =
    ap (λ o. option_or o (slot_among places name)) (no_slot_in name tables (omega (arith, none))) ∙ no_slot_among name places (omega (arith, none))

-- ---- a table at its place

found_in : (name : Name) (tables : List Table) (k : ℕ) (table : Table) → slice_get tables k ≡ Some table → table.name ≡ name → times_in name tables ≤ 1 →
    slot_in tables name ≡ Some table.slot
unfolding times_in
found_in name [] k table e named few = cc
found_in name (first ∷ tables) zero table e named few =
    let same : first ≡ table = cc in
    let here : is_named name first.name ≡ true = ap (is_named name) (ap (λ (t : Table). t.name) same ∙ named) ∙ is_itself name in
    ap (λ b. if b then Some first.slot else slot_in tables name) here ∙ ap (λ (t : Table). Some t.slot) same
found_in name (first ∷ tables) (suc k) table e named few = by_test (is_named name first.name) refl (found_in name tables k table e named)
  where
    by_test : (test : Bool) → is_named name first.name ≡ test → (times_in name tables ≤ 1 → slot_in tables name ≡ Some table.slot) →
        (if test then Some first.slot else slot_in tables name) ≡ Some table.slot
    by_test true h others = let one = is_once (is_named name first.name) h in let more = counts_in name tables k table e named in
        absurd (let never : ⊥ = omega (arith, few, one, more) in never)
    by_test false h others = others (omega (arith, few))

found_among : (name : Name) (places : Places) (j k : ℕ) (table : Table) → slice_get (slice_index_or places j []) k ≡ Some table → table.name ≡ name → times_among name places ≤ 1 →
    slot_among places name ≡ Some table.slot
unfolding times_among
found_among name [] j k table e named few = cc
found_among name (tables ∷ places) zero k table e named few =
    ap (λ o. option_or o (slot_among places name)) (found_in name tables k table e named (omega (arith, few)))
found_among name (tables ∷ places) (suc j) k table e named few =
    let more = counts_among name places j k table e named in
    let none : times_in name tables ≡ 0 = omega (arith, few, more) in
    ap (λ o. option_or o (slot_among places name)) (no_slot_in name tables none) ∙ found_among name places j k table e named (omega (arith, few))

pub tables_are_found : TablesAreFound
tables_are_found handle table service is e = found_among table.name service.places handle.seat handle.number table e refl (is.table_names table.name)

-- ---- a table with other images

changed_in : (other : Name) (tables : List Table) (k : ℕ) (table : Table) (slot : Slot (List ℕ)) → slice_get tables k ≡ Some table → times_in table.name tables ≤ 1 →
    slot_in (slice_set tables k (record table { slot = slot })) other ≡ (if is_named other table.name then Some slot else slot_in tables other)
unfolding times_in
changed_in other [] k table slot e few = cc
changed_in other (first ∷ tables) zero table slot e few =
    let same : first ≡ table = cc in by_test (is_named other table.name) (λ (t : Table). is_named other t.name) same refl
  where
    by_test : (test : Bool) (named : Table → Bool) → first ≡ table → is_named other table.name ≡ test →
        (if is_named other table.name then Some slot else slot_in tables other)
        ≡ (if is_named other table.name then Some slot else if is_named other first.name then Some first.slot else slot_in tables other)
    by_test true named same h = rw h refl
    by_test false named same h =
        let no : is_named other first.name ≡ false = ap (λ (t : Table). is_named other t.name) same ∙ h in rw (h, no) refl
changed_in other (first ∷ tables) (suc k) table slot e few =
    by_test (is_named other first.name) refl (is_named other table.name) refl (changed_in other tables k table slot e (omega (arith, few)))
  where
    by_test : (t : Bool) → is_named other first.name ≡ t → (u : Bool) → is_named other table.name ≡ u →
        slot_in (slice_set tables k (record table { slot = slot })) other ≡ (if is_named other table.name then Some slot else slot_in tables other) →
        (if is_named other first.name then Some first.slot else slot_in (slice_set tables k (record table { slot = slot })) other)
        ≡ (if is_named other table.name then Some slot else if is_named other first.name then Some first.slot else slot_in tables other)
    by_test true h true g behind =
        let names : table.name ≡ first.name = sym (same_name other table.name g) ∙ same_name other first.name h in
        let here : is_named table.name first.name ≡ true = ap (is_named table.name) (sym names) ∙ is_itself table.name in
        let one = is_once (is_named table.name first.name) here in
        let more = counts_in table.name tables k table e refl in
        absurd (let never : ⊥ = omega (arith, few, one, more) in never)
    by_test true h false g behind = rw (h, g) refl
    by_test false h u g behind = ap (λ b. if b then Some first.slot else slot_in (slice_set tables k (record table { slot = slot })) other) h ∙ behind
        ∙ ap (λ b. if is_named other table.name then Some slot else if b then Some first.slot else slot_in tables other) (sym h)

changed_slots : (other : Name) (places : Places) (j k : ℕ) (table : Table) (slot : Slot (List ℕ)) → slice_get (slice_index_or places j []) k ≡ Some table → times_among table.name places ≤ 1 →
    slot_among (slice_set places j (slice_set (slice_index_or places j []) k (record table { slot = slot }))) other ≡ (if is_named other table.name then Some slot else slot_among places other)
unfolding times_among
changed_slots other [] j k table slot e few = cc
changed_slots other (tables ∷ places) zero k table slot e few =
    ap (λ o. option_or o (slot_among places other)) (changed_in other tables k table slot e (omega (arith, few))) ∙ by_test (is_named other table.name)
  where
    by_test : (test : Bool) → option_or (if test then Some slot else slot_in tables other) (slot_among places other)
        ≡ (if test then Some slot else option_or (slot_in tables other) (slot_among places other))
    by_test true = refl
    by_test false = refl
changed_slots other (tables ∷ places) (suc j) k table slot e few =
    ap (option_or (slot_in tables other)) (changed_slots other places j k table slot e (omega (arith, few))) ∙ by_test (is_named other table.name) refl
  where
    by_test : (test : Bool) → is_named other table.name ≡ test → option_or (slot_in tables other) (if test then Some slot else slot_among places other)
        ≡ (if test then Some slot else option_or (slot_in tables other) (slot_among places other))
    by_test true h =
        let more = counts_among table.name places j k table e refl in
        let none : times_in table.name tables ≡ 0 = omega (arith, few, more) in
        ap (λ o. option_or o (Some slot)) (ap (slot_in tables) (same_name other table.name h) ∙ no_slot_in table.name tables none)
    by_test false h = refl

pub changing_tables : ChangingTables
changing_tables change handle table service is e =
    ap slot_among (ap (λ o. option_map_or (λ (t : Table). with_slot handle t service.places (change t.slot)) o service.places) e)
    ∙ (λ i. λ other. changed_slots other service.places handle.seat handle.number table (change table.slot) e (is.table_names table.name) i)

-- ---- tables that go

abbrev names_in : List Table → List Name
names_in tables = map (λ (table : Table). table.name) tables

abbrev stands_in : Name → List Name → Bool
stands_in other names = list_any (is_named other) names

withdrawn_at : {X : Type 0} (names : List Name) (held : Name → Option X) (other : Name) → withdrawn names held other ≡ (if stands_in other names then None else held other)
withdrawn_at [] held other = refl
withdrawn_at (name ∷ names) held other = withdrawn_at names (with_at name None held) other ∙ by_tests (is_named other name) (stands_in other names)
  where
    by_tests : (t u : Bool) → (if u then None else if t then None else held other) ≡ (if t || u then None else held other)
    by_tests true true = refl
    by_tests true false = refl
    by_tests false true = refl
    by_tests false false = refl

stands_counts : (other : Name) (tables : List Table) → stands_in other (names_in tables) ≡ true → 1 ≤ times_in other tables
unfolding times_in
stands_counts other [] e = absurd (true≢false (sym e))
stands_counts other (table ∷ tables) e = by_test (is_named other table.name) refl (stands_counts other tables)
  where
    by_test : (t : Bool) → is_named other table.name ≡ t → (stands_in other (names_in tables) ≡ true → 1 ≤ times_in other tables) →
        1 ≤ (if is_named other table.name then 1 else 0) + times_in other tables
    by_test true h others = let one = is_once (is_named other table.name) h in omega (arith, one)
    by_test false h others = let behind = others (sym (ap (λ b. b || stands_in other (names_in tables)) h) ∙ e) in omega (arith, behind)

not_standing : (other : Name) (tables : List Table) → stands_in other (names_in tables) ≡ false → slot_in tables other ≡ None
not_standing other [] e = refl
not_standing other (table ∷ tables) e =
    ap (λ b. if b then Some table.slot else slot_in tables other) (or_first (is_named other table.name) (stands_in other (names_in tables)) e)
    ∙ not_standing other tables (or_second (is_named other table.name) (stands_in other (names_in tables)) e)

stands_among : (other : Name) (places : Places) (seat : ℕ) → stands_in other (names_in (slice_index_or places seat [])) ≡ true → 1 ≤ times_among other places
unfolding times_among
stands_among other [] seat e = absurd (true≢false (sym e))
stands_among other (tables ∷ places) zero e = let here = stands_counts other tables e in omega (arith, here)
stands_among other (tables ∷ places) (suc seat) e = let behind = stands_among other places seat e in omega (arith, behind)

gone_slots : (other : Name) (places : Places) (seat : ℕ) → times_among other places ≤ 1 →
    slot_among (slice_set places seat []) other ≡ (if stands_in other (names_in (slice_index_or places seat [])) then None else slot_among places other)
unfolding times_among
gone_slots other [] seat few = refl
gone_slots other (tables ∷ places) zero few = by_test (stands_in other (names_in tables)) refl
  where
    by_test : (t : Bool) → stands_in other (names_in tables) ≡ t → slot_among places other ≡ (if t then None else option_or (slot_in tables other) (slot_among places other))
    by_test true h = let here = stands_counts other tables h in no_slot_among other places (omega (arith, few, here))
    by_test false h = ap (λ o. option_or o (slot_among places other)) (sym (not_standing other tables h))
gone_slots other (tables ∷ places) (suc seat) few =
    ap (option_or (slot_in tables other)) (gone_slots other places seat (omega (arith, few))) ∙ by_test (stands_in other (names_in (slice_index_or places seat []))) refl
  where
    by_test : (t : Bool) → stands_in other (names_in (slice_index_or places seat [])) ≡ t →
        option_or (slot_in tables other) (if t then None else slot_among places other) ≡ (if t then None else option_or (slot_in tables other) (slot_among places other))
    by_test true h = let behind = stands_among other places seat h in ap (λ o. option_or o None) (no_slot_in other tables (omega (arith, few, behind)))
    by_test false h = refl

pub unregistering_tables : UnregisteringTables
unregistering_tables seat service is = λ i. λ other.
    (gone_slots other service.places seat (is.table_names other) ∙ sym (withdrawn_at (names_in (tables_at seat service.places)) (slot_among service.places) other)) i

-- ---- tables that come

added_in : (other : Name) (tables : List Table) (new : Table) → slot_in (tables ++ new ∷ []) other ≡ option_or (slot_in tables other) (if is_named other new.name then Some new.slot else None)
added_in other [] new = refl
added_in other (table ∷ tables) new = by_test (is_named other table.name) (added_in other tables new)
  where
    by_test : (t : Bool) → slot_in (tables ++ new ∷ []) other ≡ option_or (slot_in tables other) (if is_named other new.name then Some new.slot else None) →
        (if t then Some table.slot else slot_in (tables ++ new ∷ []) other) ≡ option_or (if t then Some table.slot else slot_in tables other) (if is_named other new.name then Some new.slot else None)
    by_test true e = refl
    by_test false e = e

first_none : {X : Type 0} (a b : Option X) → option_or a b ≡ None → a ≡ None
first_none None b e = refl
first_none (Some x) b e = cc

second_none : {X : Type 0} (a b : Option X) → option_or a b ≡ None → b ≡ None
second_none None b e = e
second_none (Some x) b e = cc

-- where a name has no slot, it is held by the table that comes
added_among : (other : Name) (places : Places) (seat : ℕ) (new : Table) → seat < length places → slot_among places new.name ≡ None →
    slot_among (slice_set places seat (slice_index_or places seat [] ++ new ∷ [])) other ≡ (if is_named other new.name then Some new.slot else slot_among places other)
added_among other [] seat new inside none = absurd (let never : ⊥ = omega (arith, inside) in never)
added_among other (tables ∷ places) zero new inside none =
    ap (λ o. option_or o (slot_among places other)) (added_in other tables new) ∙ by_test (is_named other new.name) refl
  where
    by_test : (t : Bool) → is_named other new.name ≡ t → option_or (option_or (slot_in tables other) (if t then Some new.slot else None)) (slot_among places other)
        ≡ (if t then Some new.slot else option_or (slot_in tables other) (slot_among places other))
    by_test true h =
        let here : slot_in tables other ≡ None = ap (slot_in tables) (same_name other new.name h) ∙ first_none (slot_in tables new.name) (slot_among places new.name) none in
        ap (λ o. option_or (option_or o (Some new.slot)) (slot_among places other)) here
    by_test false h = no_more (slot_in tables other)
      where
        no_more : (o : Option (Slot (List ℕ))) → option_or (option_or o None) (slot_among places other) ≡ option_or o (slot_among places other)
        no_more None = refl
        no_more (Some x) = refl
added_among other (tables ∷ places) (suc seat) new inside none =
    ap (option_or (slot_in tables other)) (added_among other places seat new (omega (arith, inside)) (second_none (slot_in tables new.name) (slot_among places new.name) none))
    ∙ by_test (is_named other new.name) refl
  where
    by_test : (t : Bool) → is_named other new.name ≡ t → option_or (slot_in tables other) (if t then Some new.slot else slot_among places other)
        ≡ (if t then Some new.slot else option_or (slot_in tables other) (slot_among places other))
    by_test true h = ap (λ o. option_or o (Some new.slot)) (ap (slot_in tables) (same_name other new.name h) ∙ first_none (slot_in tables new.name) (slot_among places new.name) none)
    by_test false h = refl

-- a name without a handle has no slot
pub no_number : (name : Name) (n : ℕ) (tables : List Table) → position_from (λ (table : Table). is_named name table.name) n tables ≡ None → slot_in tables name ≡ None
no_number name n [] e = refl
no_number name n (table ∷ tables) e = by_test (is_named name table.name) e (no_number name (n + 1) tables)
  where
    by_test : (t : Bool) → (let o : Option ℕ = if t then Some n else position_from (λ (other : Table). is_named name other.name) (n + 1) tables in o) ≡ None →
        (position_from (λ (other : Table). is_named name other.name) (n + 1) tables ≡ None → slot_in tables name ≡ None) → (if t then Some table.slot else slot_in tables name) ≡ None
    by_test true e others = cc
    by_test false e others = others e

pub no_handle : (name : Name) (n : ℕ) (places : Places) → handle_from name n places ≡ None → slot_among places name ≡ None
unfolding handle_from
no_handle name n [] e = refl
no_handle name n (tables ∷ places) e = by_number (number_named name tables) refl e (no_handle name (n + 1) places)
  where
    by_number : (o : Option ℕ) → number_named name tables ≡ o → (let h : Option Handle = option_map_or (λ number. Some (record { seat = n; number = number })) o (handle_from name (n + 1) places) in h) ≡ None →
        (handle_from name (n + 1) places ≡ None → slot_among places name ≡ None) → option_or (slot_in tables name) (slot_among places name) ≡ None
    by_number (Some number) is e others = cc
    by_number None is e others = ap (λ o. option_or o (slot_among places name)) (no_number name 0 tables is) ∙ others e

pub registering_tables : RegisteringTables
registering_tables seat name size other service inside is = by_tests (nat_le tables_a_seat (length tables)) (handle_named name service.places) refl
  where
    tables : List Table
    tables = tables_at seat service.places

    new : Table
    new = new_table name size other

    by_tests : (full : Bool) → (o : Option Handle) → handle_named name service.places ≡ o →
        IfOk (let r : Result TableService Refusal = if full || is_some o then refused 120 else Ok (record service { places = slice_set service.places seat (tables ++ new ∷ []) }) in r)
        (λ (after : TableService). slot_among after.places ≡ with_at name (Some no_images) (slot_among service.places))
    by_tests true o named = tt
    by_tests false (Some handle) named = tt
    by_tests false None named = λ i. λ n. added_among n service.places seat new (let eight = is.seats in omega (arith, eight, inside)) (no_handle name 0 service.places named) i

-- ---- files

-- a stored file by what it means
pub value_meaning : (name : Name) (files : List (Name × List ℕ)) → value_under name (files_seen files) ≡ option_map meaning_of (value_under name files)
value_meaning name [] = refl
value_meaning name (file ∷ files) = by_test (is_named name file.0) (value_meaning name files)
  where
    by_test : (test : Bool) → value_under name (files_seen files) ≡ option_map meaning_of (value_under name files) →
        (if test then Some (meaning_of file.1) else value_under name (files_seen files)) ≡ option_map meaning_of (if test then Some file.1 else value_under name files)
    by_test true behind = refl
    by_test false behind = behind

value_seen : (name : Name) (files : List (Name × List ℕ)) → is_none (value_under name (files_seen files)) ≡ is_none (value_under name files)
value_seen name [] = refl
value_seen name (file ∷ files) = by_test (value_seen name files) (is_named name file.0)
  where
    by_test : is_none (value_under name (files_seen files)) ≡ is_none (value_under name files) → (t : Bool) → is_none (if t then Some (meaning_of file.1) else value_under name (files_seen files)) ≡ is_none (if t then Some file.1 else value_under name files)
    by_test others true = refl
    by_test others false = others

seen_length : (files : List (Name × List ℕ)) → length (files_seen files) ≡ length files
seen_length [] = refl
seen_length (file ∷ files) = ap suc (seen_length files)

put_seen : (name : Name) (bytes : List ℕ) (files : List (Name × List ℕ)) → files_seen (put name bytes files) ≡ put name (meaning_of bytes) (files_seen files)
put_seen name bytes [] = refl
put_seen name bytes (file ∷ files) = by_test (is_named name file.0) (put_seen name bytes files)
  where
    by_test : (t : Bool) → files_seen (put name bytes files) ≡ put name (meaning_of bytes) (files_seen files) →
        files_seen (if t then (name, bytes) ∷ files else file ∷ put name bytes files)
        ≡ (if t then (name, meaning_of bytes) ∷ files_seen files else (file.0, meaning_of file.1) ∷ put name (meaning_of bytes) (files_seen files))
    by_test true e = refl
    by_test false e = ap (λ others. (file.0, meaning_of file.1) ∷ others) e

pub storing_files : StoringFiles
storing_files name bytes service = by_length (nat_lt max_file_size (length bytes))
  where
    Stored : Type 0
    Stored = Result (List (Name × FileMeaning (List ℕ))) Refusal

    seen_after : Result (List (Name × List ℕ)) Refusal → Stored
    seen_after r = (r >>= (λ files. Ok (record service { files = files }))) >>= (λ (after : TableService). Ok (files_seen after.files))

    counted : (nat_le max_files (length (files_seen service.files)) && is_none (value_under name (files_seen service.files)))
        ≡ (nat_le max_files (length service.files) && is_none (value_under name service.files))
    counted = λ i. nat_le max_files (seen_length service.files i) && value_seen name service.files i

    by_room : (test : Bool) → seen_after (if test then refused 118 else Ok (put name bytes service.files))
        ≡ (if test then refused 118 else Ok (put name (meaning_of bytes) (files_seen service.files)))
    by_room true = refl
    by_room false = ap Ok (put_seen name bytes service.files)

    by_length : (test : Bool) → seen_after (if test then refused 119 else if nat_le max_files (length service.files) && is_none (value_under name service.files) then refused 118 else Ok (put name bytes service.files))
        ≡ (let r : Stored = if test then refused 119 else if nat_le max_files (length (files_seen service.files)) && is_none (value_under name (files_seen service.files)) then refused 118
        else Ok (put name (meaning_of bytes) (files_seen service.files)) in r)
    by_length true = refl
    by_length false = by_room (nat_le max_files (length service.files) && is_none (value_under name service.files))
        ∙ (let P : Bool → Stored = λ b. if b then refused 118 else Ok (put name (meaning_of bytes) (files_seen service.files)) in ap P (sym counted))
