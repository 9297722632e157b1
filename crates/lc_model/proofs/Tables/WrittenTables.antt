-- The tables that are written of watchpoints and actionpoints without a fault are sound.
use Rattle.std.proofs.Common.{◌≡◌, refl, sym, ◌∙◌, ap, ℕ, zero, suc, ◌+◌, ◌-◌, ◌*◌, ◌<◌, ◌≤◌, ◌^◌, ◌⊎◌, inl, inr, Bool, true, false, not, ◌&&◌, ◌||◌, if◌then◌else◌, nat_lt, ◌==◌, List, [], ◌∷◌, ◌++◌, length, map, find, filter_map, get_or, slice_get, take, drop, replicate, bytes_eq, Option, Some, None, option_map, arith}
use Rattle.std.specs.List.{cons_option, AllByRecursion}
use Rattle.std.specs.Option.{option_map_or}
use Rattle.std.proofs.lemmas.Bool.{cases_lt}
use Rattle.std.proofs.lemmas.List.{length-map, drop_at, drop-drop}
use Rattle.std.proofs.lemmas.List.Elements.{filter_map-append}
use Rattle.std.proofs.lemmas.Slice.Eq.{bytes_eq-Decides}
use Rattle.lc_model.specs.declared.kind.Kind.{Kind}
use Rattle.lc_model.specs.declared.kind.Kind.TheVariants.{Wdt, Adt}
use Rattle.lc_model.specs.declared.field.Term.{Term}
use Rattle.lc_model.specs.Bytes.{u16_at}
use Rattle.lc_model.specs.Codes.{is_kind, kind_code, table_entries}
use Rattle.lc_model.specs.Tables.Image.{Layout, Watchpoints, Actionpoints, WideActionpoints, kind_of, version_of, entry_length, image_length, preamble, blank_entry, filled, term_bytes, wdt_image, TableEntry, entry_bytes, FitsEntry, EndsOnce, adt_image, HasPreamble, own_count, watchpoint_count, entry_at, used_code, entry_code, actionpoint_code, numbers_below, image_fault, preamble_code, layout_of, wrong_size, IsSound}
use Rattle.lc_model.proofs.Tables.SoundWords.{stands_none}
use Rattle.lc_model.proofs.Facts.{or_neither, test_less, test_not_less, equal_itself}
use Rattle.lc_model.proofs.Tables.EntryLengths.{AreLong, all_entries, all_long, length-all_entries, terms_long, wdt_long, entries_long_of, long_entry, adt_long}
use Rattle.lc_model.proofs.Tables.EntriesAgain.{entry_taken, entry_again, at_place, preamble_again}
use Rattle.lc_model.proofs.Tables.TermsFit.{IsSoundTerm}
use Rattle.lc_model.proofs.Tables.WrittenEntries.{sound_watchpoint, IsSoundEntry, sound_actionpoint}

-- ---- tests

-- ---- the first fault

none_listed : {X : Type 0} (f : ℕ → Option X) (n : ℕ) → ((k : ℕ) → k < n → f k ≡ None) → filter_map f (numbers_below n) ≡ []
none_listed f zero none = refl
none_listed f (suc n) none =
    filter_map-append f (numbers_below n) (n ∷ [])
    ∙ (λ i. none_listed f n (λ k below. none k (omega (arith, below))) i ++ cons_option (none n (omega arith) i) [])

-- where no number has a value, there is no first
no_first : {X : Type 0} (f : ℕ → Option X) (n : ℕ) → ((k : ℕ) → k < n → f k ≡ None) → slice_get (filter_map f (numbers_below n)) 0 ≡ None
no_first f n none = ap (λ xs. slice_get xs 0) (none_listed f n none)

-- an image of a known layout without a fault of its preamble or of an entry is sound
all_sound : (layouts : List Layout) (kind : Kind) (l : Layout) (image : List ℕ) → layout_of layouts kind image ≡ Some l → preamble_code l image ≡ None →
    ((n : ℕ) → n < table_entries → entry_code l image n ≡ None) → IsSound layouts kind image
all_sound layouts kind l image found front entries =
    ap (λ o. option_map_or (λ m. image_fault m image (preamble_code m image)) o (Some wrong_size)) found ∙ ap (image_fault l image) front
    ∙ no_first (λ n. option_map (λ code. record { code = code; entry = n }) (entry_code l image n)) table_entries
    (λ n below. ap (option_map (λ code. record { code = code; entry = n })) (entries n below))

-- ---- entries that are not used

one_of_many : (x : List ℕ) (n i : ℕ) → i < n → get_or (replicate n x) i [] ≡ x
one_of_many x zero i within = absurd (omega (arith, within))
one_of_many x (suc n) zero within = refl
one_of_many x (suc n) (suc i) within = one_of_many x n i (omega (arith, within))

behind : (x : List ℕ) (es : List (List ℕ)) (n i : ℕ) → length es ≤ i → i < length es + n → get_or (es ++ replicate n x) i [] ≡ x
behind x [] n i more within = one_of_many x n i (omega (arith, within))
behind x (e ∷ es) n zero more within = absurd (omega (arith, more))
behind x (e ∷ es) n (suc i) more within = behind x es n i (omega (arith, more)) (omega (arith, within))

-- the entries behind those that are used are blank
blank_again : (l : Layout) (own n : ℕ) (h : List ℕ) (es : List (List ℕ)) (i : ℕ) → length h ≡ 32 → AreLong (entry_length l) es → length es ≤ table_entries →
    length es ≤ i → i < table_entries → entry_at l (preamble l own n h ++ filled l es) i ≡ blank_entry l
blank_again l own n h es i hash all few more within =
    let image : List ℕ = preamble l own n h ++ filled l es in
    let size : ℕ = entry_length l in
    ap (take size) (sym (drop-drop (i * size) 40 image))
    ∙ ap (λ (s : List ℕ). take size (drop (i * size) s)) (drop_at (preamble l own n h) (filled l es) 40 (omega (arith, hash)))
    ∙ entry_taken size (all_entries l es) i (all_long l es all) (omega (arith, length-all_entries l es few, within))
    ∙ behind (blank_entry l) es (table_entries - length es) i more (omega (arith, few, within))

-- ---- a whole image

first_of : {A : Type 0} (xs : List A) (i : ℕ) → i < length xs → A
first_of [] i within = absurd (omega (arith, within))
first_of (x ∷ xs) i within = x

abbrev not_blank : Option ℕ
not_blank = Some 65

-- no entry has a fault where those that are used have none
no_entry : {A : Type 0} (l : Layout) (f : A → List ℕ) (n : ℕ) (h : List ℕ) (xs : List A) → length h ≡ 32 → AreLong (entry_length l) (map f xs) →
    length xs ≤ table_entries → n < 2 ^ 16 → AllByRecursion (λ x. used_code l n (f x) ≡ None) xs →
    (i : ℕ) → i < table_entries → entry_code l (preamble l (length xs) n h ++ filled l (map f xs)) i ≡ None
no_entry {A = A} l f n h xs hash all few small sound i within = go (cases_lt i (length xs))
  where
    image : List ℕ
    image = preamble l (length xs) n h ++ filled l (map f xs)

    many : length (map f xs) ≡ length xs
    many = length-map xs f

    front : HasPreamble image h (length xs) n
    front = preamble_again l (length xs) n h (filled l (map f xs)) hash few small

    own : (b : Bool) → nat_lt i (length xs) ≡ b → nat_lt i (own_count image) ≡ b
    own b e = ap (nat_lt i) front.own_is ∙ e

    go : (i < length xs) ⊎ (length xs ≤ i) → entry_code l image i ≡ None
    go (inl less_than) =
        let d : A = first_of xs i less_than in
        let code : used_code l (watchpoint_count image) (entry_at l image i) ≡ None =
        (λ j. used_code l (front.watchpoints_are j) (entry_again l f (length xs) n h xs i d hash all many few less_than j))
        ∙ at_place (λ x. used_code l n (f x) ≡ None) xs i d sound less_than in
        ap (λ b. if b then used_code l (watchpoint_count image) (entry_at l image i) else if bytes_eq (entry_at l image i) (blank_entry l) then None else Some 65)
        (own true (test_less i (length xs) less_than)) ∙ code
    go (inr more) =
        let blank : entry_at l image i ≡ blank_entry l =
        blank_again l (length xs) n h (map f xs) i hash all (omega (arith, many, few)) (omega (arith, many, more)) within in
        let same : bytes_eq (entry_at l image i) (blank_entry l) ≡ true = (bytes_eq-Decides (entry_at l image i) (blank_entry l)).1 blank in
        (λ j. if own false (test_not_less i (length xs) more) j then used_code l (watchpoint_count image) (entry_at l image i) else if same j then None else not_blank)

few_counts : (own n : ℕ) → own ≤ table_entries → n ≤ table_entries → (nat_lt table_entries own || nat_lt table_entries n) ≡ false
few_counts own n a b = or_neither (nat_lt table_entries own) (nat_lt table_entries n) (test_not_less table_entries own a) (test_not_less table_entries n b)

-- the tests of a preamble
abbrev preamble_tests : Layout → List ℕ → List (Bool × ℕ)
preamble_tests l image =
    (not (u16_at image 0 == version_of l), 61)
    ∷ (not (u16_at image 2 == kind_code (kind_of l)), 62)
    ∷ (
      nat_lt table_entries (own_count image) || nat_lt table_entries (watchpoint_count image)
          || (is_kind (kind_of l) Wdt && not (own_count image == watchpoint_count image)),
      64,
    ) ∷ []

-- the layout of a kind that has this size
abbrev pub of_size : List Layout → Kind → ℕ → Option Layout
of_size layouts kind size = find (λ l. is_kind kind (kind_of l) && (image_length l == size)) layouts

-- a preamble that was written has its version and its kind
version_and_kind : (l : Layout) (own n : ℕ) (h rest : List ℕ) → (not (u16_at (preamble l own n h ++ rest) 0 == version_of l) ≡ false)
    × (not (u16_at (preamble l own n h ++ rest) 2 == kind_code (kind_of l)) ≡ false)
version_and_kind Watchpoints own n h rest = (refl, refl)
version_and_kind Actionpoints own n h rest = (refl, refl)
version_and_kind WideActionpoints own n h rest = (refl, refl)

-- ---- watchpoints

each_watchpoint : (n : ℕ) (terms : List Term) → AllByRecursion IsSoundTerm terms → AllByRecursion (λ t. used_code Watchpoints n (term_bytes t) ≡ None) terms
each_watchpoint n [] are = tt
each_watchpoint n (t ∷ terms) are = (sound_watchpoint t are.0, each_watchpoint n terms are.1)

-- the table of at most 176 watchpoints in their ranges is sound
pub sound_wdt : (layouts : List Layout) → of_size layouts Wdt (image_length Watchpoints) ≡ Some Watchpoints → (h : List ℕ) (terms : List Term) →
    length h ≡ 32 → length terms ≤ table_entries → AllByRecursion IsSoundTerm terms → IsSound layouts Wdt (wdt_image h terms)
sound_wdt layouts among h terms hash few are =
    let image : List ℕ = wdt_image h terms in
    let n : ℕ = length terms in
    let front : HasPreamble image h n n = preamble_again Watchpoints n n h (filled Watchpoints (map term_bytes terms)) hash few (omega (arith, few)) in
    let found : layout_of layouts Wdt image ≡ Some Watchpoints = ap (of_size layouts Wdt) (wdt_long h terms hash few) ∙ among in
    let counts : (nat_lt table_entries (own_count image) || nat_lt table_entries (watchpoint_count image)
    || (is_kind (kind_of Watchpoints) Wdt && not (own_count image == watchpoint_count image))) ≡ false =
    (λ i. nat_lt table_entries (front.own_is i) || nat_lt table_entries (front.watchpoints_are i) || (true && not (front.own_is i == front.watchpoints_are i)))
    ∙ or_neither (nat_lt table_entries n || nat_lt table_entries n) (not (n == n)) (few_counts n n few few) (ap not (equal_itself n)) in
    all_sound layouts Wdt Watchpoints image found (stands_none (preamble_tests Watchpoints image) (refl, (refl, (counts, tt))))
    (no_entry Watchpoints term_bytes n h terms hash (terms_long terms) few (omega (arith, few)) (each_watchpoint n terms are))

-- ---- actionpoints

-- a used entry of actionpoints is judged as one
judged : (l : Layout) → kind_of l ≡ Adt → (n : ℕ) (e : List ℕ) → used_code l n e ≡ actionpoint_code n e
judged Watchpoints kind n e = absurd (cc kind)
judged Actionpoints kind n e = refl
judged WideActionpoints kind n e = refl

each_actionpoint : (l : Layout) → kind_of l ≡ Adt → (n : ℕ) (entries : List TableEntry) → AllByRecursion (IsSoundEntry l n) entries →
    AllByRecursion (λ e. used_code l n (entry_bytes l e) ≡ None) entries
each_actionpoint l kind n [] are = tt
each_actionpoint l kind n (e ∷ entries) are =
    (judged l kind n (entry_bytes l e) ∙ sound_actionpoint l n e are.0, each_actionpoint l kind n entries are.1)

pub each_once : (l : Layout) (n : ℕ) (entries : List TableEntry) → AllByRecursion (IsSoundEntry l n) entries → AllByRecursion (λ e. FitsEntry l e × EndsOnce e) entries
each_once l n [] are = tt
each_once l n (e ∷ entries) are = ((are.0.fits, are.0.once), each_once l n entries are.1)

pub each_fits : (l : Layout) (n : ℕ) (entries : List TableEntry) → AllByRecursion (IsSoundEntry l n) entries → AllByRecursion (FitsEntry l) entries
each_fits l n [] are = tt
each_fits l n (e ∷ entries) are = (are.0.fits, each_fits l n entries are.1)

-- the table of at most 176 actionpoints, each sound over at most 176 watchpoints, is sound
pub sound_adt : (layouts : List Layout) (l : Layout) → kind_of l ≡ Adt → of_size layouts Adt (image_length l) ≡ Some l →
    (h : List ℕ) (n : ℕ) (entries : List TableEntry) → length h ≡ 32 → n ≤ table_entries → length entries ≤ table_entries →
    AllByRecursion (IsSoundEntry l n) entries → IsSound layouts Adt (adt_image l h n entries)
sound_adt layouts l kind among h n entries hash watchpoints few are =
    let image : List ℕ = adt_image l h n entries in
    let own : ℕ = length entries in
    let rest : List ℕ = filled l (map (entry_bytes l) entries) in
    let fits : AllByRecursion (FitsEntry l) entries = each_fits l n entries are in
    let front : HasPreamble image h own n = preamble_again l own n h rest hash few (omega (arith, watchpoints)) in
    let found : layout_of layouts Adt image ≡ Some l = ap (of_size layouts Adt) (adt_long l kind h n entries hash few fits) ∙ among in
    let named = version_and_kind l own n h rest in
    let counts : (nat_lt table_entries (own_count image) || nat_lt table_entries (watchpoint_count image)
    || (is_kind (kind_of l) Wdt && not (own_count image == watchpoint_count image))) ≡ false =
    (λ i. nat_lt table_entries (front.own_is i) || nat_lt table_entries (front.watchpoints_are i)
    || (is_kind (kind i) Wdt && not (own_count image == watchpoint_count image)))
    ∙ or_neither (nat_lt table_entries own || nat_lt table_entries n) false (few_counts own n few watchpoints) refl in
    all_sound layouts Adt l image found (stands_none (preamble_tests l image) (named.0, (named.1, (counts, tt))))
    (no_entry l (entry_bytes l) n h entries hash (entries_long_of l (long_entry l kind) entries fits) few (omega (arith, watchpoints))
    (each_actionpoint l kind n entries are))
