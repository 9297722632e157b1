-- The entries of an image that was written.
use Rattle.std.proofs.Common.{◌≡◌, refl, sym, ◌∙◌, ap, ℕ, zero, suc, ◌+◌, ◌*◌, ◌<◌, ◌≤◌, ◌^◌, List, [], ◌∷◌, ◌++◌, length, get_or, take, drop, map, arith}
use Rattle.std.specs.List.{flat_map, AllByRecursion}
use Rattle.std.proofs.lemmas.Nat.{from_be_bytes-to_be_bytes_2}
use Rattle.std.proofs.lemmas.List.{take_at, drop_at, drop-drop, take_more, take_all, map-append}
use Rattle.lc_model.specs.Codes.{table_entries}
use Rattle.lc_model.specs.Tables.Image.{Layout, entry_length, preamble, filled, entry_at, numbers_below, HasPreamble}
use Rattle.lc_model.proofs.Tables.EntryLengths.{AreLong, all_entries, all_long, length-all_entries}

-- ---- one entry

pub entry_taken : (n : ℕ) (es : List (List ℕ)) (i : ℕ) → AreLong n es → i < length es → take n (drop (i * n) (flat_map (λ e. e) es)) ≡ get_or es i []
entry_taken n [] i all within = absurd (omega (arith, within))
entry_taken n (e ∷ es) zero all within =
    let none : zero * n ≡ 0 = omega arith in
    ap (λ k. take n (drop k (e ++ flat_map (λ e. e) es))) none ∙ take_at e (flat_map (λ e. e) es) n all.0
entry_taken n (e ∷ es) (suc i) all within =
    let rest : List ℕ = flat_map (λ e. e) es in
    let place : suc i * n ≡ n + i * n = omega arith in
    ap (λ k. take n (drop k (e ++ rest))) place ∙ ap (take n) (sym (drop-drop (i * n) n (e ++ rest)))
    ∙ ap (λ (s : List ℕ). take n (drop (i * n) s)) (drop_at e rest n all.0) ∙ entry_taken n es i all.1 (omega (arith, within))

in_front : (es blanks : List (List ℕ)) (i : ℕ) → i < length es → get_or (es ++ blanks) i [] ≡ get_or es i []
in_front [] blanks i within = absurd (omega (arith, within))
in_front (e ∷ es) blanks zero within = refl
in_front (e ∷ es) blanks (suc i) within = in_front es blanks i (omega (arith, within))

mapped_at : {A : Type 0} (f : A → List ℕ) (xs : List A) (i : ℕ) (d : A) → i < length xs → get_or (map f xs) i [] ≡ f (get_or xs i d)
mapped_at f [] i d within = absurd (omega (arith, within))
mapped_at f (x ∷ xs) zero d within = refl
mapped_at f (x ∷ xs) (suc i) d within = mapped_at f xs i d (omega (arith, within))

-- the entry at a place is the one that was written there
pub entry_again : {A : Type 0} (l : Layout) (f : A → List ℕ) (own n : ℕ) (h : List ℕ) (xs : List A) (i : ℕ) (d : A) → length h ≡ 32 →
    AreLong (entry_length l) (map f xs) → length (map f xs) ≡ length xs → length xs ≤ table_entries → i < length xs →
    entry_at l (preamble l own n h ++ filled l (map f xs)) i ≡ f (get_or xs i d)
entry_again l f own n h xs i d hash all many few within =
    let es : List (List ℕ) = map f xs in
    let image : List ℕ = preamble l own n h ++ filled l es in
    let size : ℕ = entry_length l in
    ap (take size) (sym (drop-drop (i * size) 40 image))
    ∙ ap (λ (s : List ℕ). take size (drop (i * size) s)) (drop_at (preamble l own n h) (filled l es) 40 (omega (arith, hash)))
    ∙ entry_taken size (all_entries l es) i (all_long l es all) (omega (arith, length-all_entries l es (omega (arith, many, few)), few, within))
    ∙ in_front es _ i (omega (arith, many, within)) ∙ mapped_at f xs i d within

-- ---- all entries

up_to : {A : Type 0} (f : ℕ → A) (xs : List A) (same : (i : ℕ) (d : A) → i < length xs → f i ≡ get_or xs i d) (k : ℕ) → k ≤ length xs →
    map f (numbers_below k) ≡ take k xs
up_to f xs same zero within = refl
up_to f xs same (suc k) within =
    let one : k + 1 ≡ suc k = omega arith in
    map-append f (numbers_below k) (k ∷ []) ∙ (λ i. up_to f xs same k (omega (arith, within)) i ++ same k (f k) (omega (arith, within)) i ∷ [])
    ∙ sym (take_more xs k (f k) (omega (arith, within))) ∙ ap (λ m. take m xs) one

-- what is found at each place is the list
pub listed : {A : Type 0} (f : ℕ → A) (xs : List A) → ((i : ℕ) (d : A) → i < length xs → f i ≡ get_or xs i d) → map f (numbers_below (length xs)) ≡ xs
listed f xs same = up_to f xs same (length xs) (omega arith) ∙ take_all (length xs) xs (omega arith)

-- what holds of all holds of the one at a place
pub at_place : {A : Type 0} (P : A → Type 0) (xs : List A) (i : ℕ) (d : A) → AllByRecursion P xs → i < length xs → P (get_or xs i d)
at_place P [] i d all within = absurd (omega (arith, within))
at_place P (x ∷ xs) zero d all within = all.0
at_place P (x ∷ xs) (suc i) d all within = at_place P xs i d all.1 (omega (arith, within))

-- ---- the preamble

pub preamble_again : (l : Layout) (own n : ℕ) (h rest : List ℕ) → length h ≡ 32 → own ≤ table_entries → n < 2 ^ 16 → HasPreamble (preamble l own n h ++ rest) h own n
preamble_again l own n h rest hash few small = record {
  hash_is = take_at h rest 32 hash;
  own_is = from_be_bytes-to_be_bytes_2 own (omega (arith, few));
  watchpoints_are = from_be_bytes-to_be_bytes_2 n small;
}
