-- How long entries and images are.
use Rattle.std.proofs.Common.{◌≡◌, refl, ◌∙◌, ap, ℕ, zero, suc, ◌+◌, ◌-◌, ◌*◌, ◌≤◌, List, [], ◌∷◌, ◌++◌, length, map, replicate, arith, length-append}
use Rattle.std.specs.List.{flat_map, AllByRecursion}
use Rattle.std.proofs.lemmas.List.{length-replicate, length-map}
use Rattle.lc_model.specs.declared.field.Term.{Term}
use Rattle.lc_model.specs.declared.kind.Kind.TheVariants.{Adt}
use Rattle.lc_model.specs.Bytes.{u16, zero_filled}
use Rattle.lc_model.specs.Codes.{table_entries}
use Rattle.lc_model.specs.Tables.Equation.{equal_word}
use Rattle.lc_model.specs.Tables.Image.{Layout, Watchpoints, Actionpoints, WideActionpoints, kind_of, entry_length, image_length, words_in, preamble, blank_entry, filled, term_bytes, TableEntry, entry_bytes, FitsEntry, wdt_image, adt_image}

-- all of one length
abbrev pub AreLong : ℕ → List (List ℕ) → Type 0
AreLong n entries = AllByRecursion (λ e. length e ≡ n) entries

long_append : (n : ℕ) (xs ys : List (List ℕ)) → AreLong n xs → AreLong n ys → AreLong n (xs ++ ys)
long_append n [] ys a b = b
long_append n (x ∷ xs) ys a b = (a.0, long_append n xs ys a.1 b)

long_replicate : (n k : ℕ) (e : List ℕ) → length e ≡ n → AreLong n (replicate k e)
long_replicate n zero e long = tt
long_replicate n (suc k) e long = (long, long_replicate n k e long)

pub length-entries : (n : ℕ) (entries : List (List ℕ)) → AreLong n entries → length (flat_map (λ e. e) entries) ≡ n * length entries
length-entries n [] all = omega arith
length-entries n (e ∷ entries) all =
    let more : n * suc (length entries) ≡ n * length entries + n = simp_mul n (length entries) in
    omega (arith, all.0, length-entries n entries all.1, length-append e (flat_map (λ e. e) entries), more)
  where
    simp_mul : (m k : ℕ) → m * suc k ≡ m * k + m
    simp_mul m k = omega arith

pub blank_long : (l : Layout) → length (blank_entry l) ≡ entry_length l
blank_long Watchpoints = refl
blank_long Actionpoints = refl
blank_long WideActionpoints = refl

-- all entries of an image
abbrev pub all_entries : Layout → List (List ℕ) → List (List ℕ)
all_entries l entries = entries ++ replicate (table_entries - length entries) (blank_entry l)

pub all_long : (l : Layout) (entries : List (List ℕ)) → AreLong (entry_length l) entries → AreLong (entry_length l) (all_entries l entries)
all_long l entries all =
    long_append (entry_length l) entries (replicate (table_entries - length entries) (blank_entry l)) all
    (long_replicate (entry_length l) (table_entries - length entries) (blank_entry l) (blank_long l))

pub length-all_entries : (l : Layout) (entries : List (List ℕ)) → length entries ≤ table_entries → length (all_entries l entries) ≡ table_entries
length-all_entries l entries few =
    omega (arith, length-append entries (replicate (table_entries - length entries) (blank_entry l)), length-replicate (table_entries - length entries) (blank_entry l), few)

filled_long : (l : Layout) (entries : List (List ℕ)) → AreLong (entry_length l) entries → length entries ≤ table_entries → length (filled l entries) ≡ entry_length l * table_entries
filled_long l entries all few =
    length-entries (entry_length l) (all_entries l entries) (all_long l entries all) ∙ ap (λ n. entry_length l * n) (length-all_entries l entries few)

image_long : (l : Layout) (own n : ℕ) (h : List ℕ) (entries : List (List ℕ)) → length h ≡ 32 → AreLong (entry_length l) entries → length entries ≤ table_entries →
    length (preamble l own n h ++ filled l entries) ≡ image_length l
image_long l own n h entries hash all few =
    length-append (preamble l own n h) (filled l entries) ∙ whole l (length (preamble l own n h)) (length (filled l entries)) (omega (arith, hash)) (filled_long l entries all few)
  where
    whole : (l : Layout) (a b : ℕ) → a ≡ 40 → b ≡ entry_length l * table_entries → a + b ≡ image_length l
    whole Watchpoints a b e d = omega (arith, e, d)
    whole Actionpoints a b e d = omega (arith, e, d)
    whole WideActionpoints a b e d = omega (arith, e, d)

-- ---- watchpoints

pub terms_long : (terms : List Term) → AreLong (entry_length Watchpoints) (map term_bytes terms)
terms_long [] = tt
terms_long (t ∷ terms) = (refl, terms_long terms)

pub wdt_long : (h : List ℕ) (terms : List Term) → length h ≡ 32 → length terms ≤ table_entries → length (wdt_image h terms) ≡ image_length Watchpoints
wdt_long h terms hash few =
    image_long Watchpoints (length terms) (length terms) h (map term_bytes terms) hash (terms_long terms) (omega (arith, length-map terms term_bytes, few))

-- ---- actionpoints

long_words : (ws : List ℕ) → length (flat_map u16 ws) ≡ 2 * length ws
long_words [] = refl
long_words (w ∷ ws) = omega (arith, long_words ws)

pub length-zero_filled : (size : ℕ) (xs : List ℕ) → length xs ≤ size → length (zero_filled size xs) ≡ size
length-zero_filled size xs fits = omega (arith, length-append xs (replicate (size - length xs) 0), length-replicate {A = ℕ} (size - length xs) 0, fits)

pub entry_long : (l : Layout) (e : TableEntry) → FitsEntry l e → length (entry_bytes l e) ≡ 46 + 2 * words_in l
entry_long l e fits =
    let words : List ℕ = e.words ++ equal_word ∷ [] in
    let some : length words ≡ length e.words + 1 = length-append e.words (equal_word ∷ []) in
    let all : length (zero_filled (words_in l) words) ≡ words_in l = length-zero_filled (words_in l) words (omega (arith, some, fits.words_length)) in
    omega (arith, length-append (zero_filled 32 e.text) (flat_map u16 (zero_filled (words_in l) words)), long_words (zero_filled (words_in l) words), all, length-zero_filled 32 e.text (omega (arith, fits.text_length)))

pub entries_long_of : (l : Layout) → 46 + 2 * words_in l ≡ entry_length l → (entries : List TableEntry) → AllByRecursion (FitsEntry l) entries → AreLong (entry_length l) (map (entry_bytes l) entries)
entries_long_of l is [] all = tt
entries_long_of l is (e ∷ entries) all = (entry_long l e all.0 ∙ is, entries_long_of l is entries all.1)

-- the words of an actionpoint are all that is behind its first 46 bytes
pub long_entry : (l : Layout) → kind_of l ≡ Adt → 46 + 2 * words_in l ≡ entry_length l
long_entry Watchpoints e = absurd (cc e)
long_entry Actionpoints e = refl
long_entry WideActionpoints e = refl

pub adt_long : (l : Layout) → kind_of l ≡ Adt → (h : List ℕ) (n : ℕ) (entries : List TableEntry) → length h ≡ 32 → length entries ≤ table_entries →
    AllByRecursion (FitsEntry l) entries → length (adt_image l h n entries) ≡ image_length l
adt_long l kind h n entries hash few fits =
    image_long l (length entries) n h (map (entry_bytes l) entries) hash (entries_long_of l (long_entry l kind) entries fits)
    (omega (arith, length-map entries (entry_bytes l), few))
