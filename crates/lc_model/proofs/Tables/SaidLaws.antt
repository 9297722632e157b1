-- What is computed of a sound matching pair of images is what it says.
use Rattle.std.proofs.Common.{◌≡◌, refl, sym, ◌∙◌, ap, subst, ℕ, zero, suc, ◌*◌, ◌+◌, ◌<◌, ◌≤◌, true, List, [], ◌∷◌, ◌++◌, length, map, flat_map, take, drop, Some, arith, append-nil}
use Rattle.std.specs.List.{AllByRecursion, AllZip}
use Rattle.std.proofs.lemmas.List.{map-append}
use Rattle.std.proofs.lemmas.Simd.{map-map}
use Rattle.std.proofs.lemmas.List.Concat.{flat_map-append}
use Rattle.lc_model.specs.declared.field.Term.{Term}
use Rattle.lc_model.specs.declared.kind.Kind.TheVariants.{Wdt, Adt}
use Rattle.lc_model.specs.Codes.{table_entries, is_kind}
use Rattle.lc_model.specs.Tables.Equation.{SpellsInOrder}
use Rattle.lc_model.specs.Tables.Image.{Layout, Watchpoints, Actionpoints, WideActionpoints, kind_of, words_in, entry_length, image_length, preamble, filled, term_bytes, TableEntry, entry_bytes, FitsWatchpoint, ComparesInType, FitsEntry, EndsOnce, wdt_image, adt_image, own_count, watchpoint_count, hash_of, entry_at, all_words, words_before_equal, actionpoint_code, used_code, numbers_below}
use Rattle.lc_model.specs.Tables.Half.{IsEntryOf, HasActionpoints}
use Rattle.lc_model.specs.Tables.Spelled.{spelled_term, spelled_terms, spelled_condition, spelled_rule, spelled_rule_if, spelled_by_layout, read_entry}
use Rattle.lc_model.specs.Laws.Tables.{IsWhatIsSaid}
use Rattle.lc_model.proofs.Tables.SpellsOnce.{computed}
use Rattle.lc_model.proofs.Tables.FileLaws.{bytes_behind}
use Rattle.lc_model.proofs.Tables.SoundImages.{SoundParts, sound_parts}
use Rattle.lc_model.proofs.Tables.SoundWatchpoints.{IsWatchpoint, watchpoint_again}
use Rattle.lc_model.proofs.Tables.SoundActionpoints.{IsActionpoint, actionpoint_again}
use Rattle.lc_model.proofs.Tables.ImageParts.{length_listed, same_below, entry_is_long, SoundPreamble, sound_preamble, used_is_sound, image_again}

abbrev AreBytes : List ℕ → Type 0
AreBytes bytes = AllByRecursion (λ b. b < 256) bytes

-- ---- lists

pub bytes_in_front : (n : ℕ) (bytes : List ℕ) → AreBytes bytes → AreBytes (take n bytes)
bytes_in_front zero bytes all = tt
bytes_in_front (suc n) [] all = tt
bytes_in_front (suc n) (b ∷ bytes) all = (all.0, bytes_in_front n bytes all.1)

-- an entry of bytes is bytes
entry_bytes_are : (l : Layout) (image : List ℕ) (n : ℕ) → AreBytes image → AreBytes (entry_at l image n)
entry_bytes_are l image n all = bytes_in_front (entry_length l) (drop (40 + n * entry_length l) image) (bytes_behind (40 + n * entry_length l) image all)

pub all_append : {A : Type 0} (P : A → Type 0) (xs ys : List A) → AllByRecursion P xs → AllByRecursion P ys → AllByRecursion P (xs ++ ys)
all_append P [] ys a b = b
all_append P (x ∷ xs) ys a b = (a.0, all_append P xs ys a.1 b)

-- what holds of each number below holds of the list
pub each_listed : {A : Type 0} (P : A → Type 0) (f : ℕ → A) (k : ℕ) → ((n : ℕ) → n < k → P (f n)) → AllByRecursion P (map f (numbers_below k))
each_listed P f zero each = tt
each_listed P f (suc k) each =
    subst (AllByRecursion P) (sym (map-append f (numbers_below k) (k ∷ [])))
    (all_append P (map f (numbers_below k)) (f k ∷ []) (each_listed P f k (λ n below. each n (omega (arith, below)))) (each k (omega arith), tt))

zip_append : {A B : Type 0} (R : A → B → Type 0) (xs : List A) (ys : List B) (x : A) (y : B) → AllZip R xs ys → R x y → AllZip R (xs ++ x ∷ []) (ys ++ y ∷ [])
zip_append R [] [] x y all last = (last, tt)
zip_append R [] (v ∷ ys) x y all last = absurd all
zip_append R (u ∷ xs) [] x y all last = absurd all
zip_append R (u ∷ xs) (v ∷ ys) x y all last = (all.0, zip_append R xs ys x y all.1 last)

-- one item of a list for each number, related to another
each_zipped : {A B : Type 0} (R : A → B → Type 0) (f : ℕ → List A) (g : ℕ → B) (k : ℕ) → ((n : ℕ) → n < k → (x : A) × (f n ≡ x ∷ []) × R x (g n)) →
    AllZip R (flat_map f (numbers_below k)) (map g (numbers_below k))
each_zipped R f g zero each = tt
each_zipped {A} R f g (suc k) each =
    let last : (x : A) × (f k ≡ x ∷ []) × R x (g k) = each k (omega arith) in
    let front : flat_map f (numbers_below k ++ k ∷ []) ≡ flat_map f (numbers_below k) ++ last.0 ∷ [] =
    flat_map-append f (numbers_below k) (k ∷ []) ∙ ap (λ r. flat_map f (numbers_below k) ++ r) (append-nil (f k) ∙ last.1) in
    let there : AllZip R (flat_map f (numbers_below k) ++ last.0 ∷ []) (map g (numbers_below k) ++ g k ∷ []) =
    zip_append R (flat_map f (numbers_below k)) (map g (numbers_below k)) last.0 (g k) (each_zipped R f g k (λ n below. each n (omega (arith, below)))) last.2 in
    subst (AllZip R (flat_map f (numbers_below k ++ k ∷ []))) (sym (map-append g (numbers_below k) (k ∷ [])))
    (subst (λ xs. AllZip R xs (map g (numbers_below k) ++ g k ∷ [])) (sym front) there)

-- ---- watchpoints

-- what a sound WDT image says
pub record SaysWatchpoints (wdt : List ℕ) : Type 0 where
  pub again : wdt ≡ wdt_image (hash_of wdt) (spelled_terms wdt)
  pub fit : AllByRecursion FitsWatchpoint (spelled_terms wdt)
  pub in_type : AllByRecursion ComparesInType (spelled_terms wdt)
  pub count : length (spelled_terms wdt) ≡ watchpoint_count wdt
  pub few : length (spelled_terms wdt) ≤ table_entries

-- it says those that are computed
says_watchpoints : {layouts : List Layout} (wdt : List ℕ) → AreBytes wdt → (parts : SoundParts layouts Wdt wdt) → parts.layout ≡ Watchpoints → SaysWatchpoints wdt
says_watchpoints wdt all parts is = record {
  again = image_again wdt all parts ∙ (λ i. preamble (is i) (length_again i) (same_count i) (hash_of wdt) ++ filled (is i) (map (entry_at (is i) wdt) (numbers_below (own_count wdt))))
      ∙ ap (λ entries. preamble Watchpoints (length (spelled_terms wdt)) (length (spelled_terms wdt)) (hash_of wdt) ++ filled Watchpoints entries) entries_again;
  fit = each_listed FitsWatchpoint (λ n. spelled_term (entry_at Watchpoints wdt n)) (own_count wdt) (λ n below. (each n below).fits);
  in_type = each_listed ComparesInType (λ n. spelled_term (entry_at Watchpoints wdt n)) (own_count wdt) (λ n below. (each n below).in_type);
  count = length_listed (λ n. spelled_term (entry_at Watchpoints wdt n)) (own_count wdt) ∙ counts;
  few = omega (arith, length_listed (λ n. spelled_term (entry_at Watchpoints wdt n)) (own_count wdt), p.own);
}
  where
    p : SoundPreamble parts.layout wdt
    p = sound_preamble parts.layout wdt parts.preamble

    counts : own_count wdt ≡ watchpoint_count wdt
    counts = p.one_count (ap (λ l. is_kind (kind_of l) Wdt) is)

    length_again : own_count wdt ≡ length (spelled_terms wdt)
    length_again = sym (length_listed (λ n. spelled_term (entry_at Watchpoints wdt n)) (own_count wdt))

    same_count : watchpoint_count wdt ≡ length (spelled_terms wdt)
    same_count = sym counts ∙ length_again

    each : (n : ℕ) → n < own_count wdt → IsWatchpoint (entry_at Watchpoints wdt n)
    each n below =
        let inside : n < table_entries = omega (arith, below, p.own) in
        watchpoint_again (entry_at Watchpoints wdt n) (entry_bytes_are Watchpoints wdt n all)
        (entry_is_long Watchpoints wdt n (ap image_length (sym is) ∙ parts.size) inside)
        (ap (λ l. used_code l (watchpoint_count wdt) (entry_at l wdt n)) (sym is) ∙ used_is_sound parts.layout wdt n (parts.entries n inside) below)

    entries_again : map (entry_at Watchpoints wdt) (numbers_below (own_count wdt)) ≡ map term_bytes (spelled_terms wdt)
    entries_again =
        same_below (entry_at Watchpoints wdt) (λ n. term_bytes (spelled_term (entry_at Watchpoints wdt n))) (own_count wdt) (λ n below. sym (each n below).again)
        ∙ sym (map-map term_bytes (λ n. spelled_term (entry_at Watchpoints wdt n)) (numbers_below (own_count wdt)))

-- ---- actionpoints

-- in a layout of actionpoints
of_adt : (l : Layout) → is_kind Adt (kind_of l) ≡ true → (count : ℕ) (e : List ℕ) → (used_code l count e ≡ actionpoint_code count e) × (entry_length l ≡ 46 + 2 * words_in l)
of_adt Watchpoints is count e = absurd (cc is)
of_adt Actionpoints is count e = (refl, refl)
of_adt WideActionpoints is count e = (refl, refl)

-- what a sound ADT image says over these terms
says_actionpoints : {layouts : List Layout} (terms : List Term) (adt : List ℕ) → AreBytes adt → (parts : SoundParts layouts Adt adt) →
    length terms ≤ table_entries → length terms ≡ watchpoint_count adt →
    HasActionpoints (SpellsInOrder terms) (hash_of adt) (length terms) (spelled_by_layout (Some parts.layout) terms adt) adt
says_actionpoints terms adt all parts few count = (l, entries, again, fit, said)
  where
    l : Layout
    l = parts.layout

    entries : List TableEntry
    entries = map (λ n. read_entry (entry_at l adt n)) (numbers_below (own_count adt))

    p : SoundPreamble l adt
    p = sound_preamble l adt parts.preamble

    each : (n : ℕ) → n < own_count adt → IsActionpoint l terms (entry_at l adt n)
    each n below =
        let inside : n < table_entries = omega (arith, below, p.own) in
        let e : List ℕ = entry_at l adt n in
        let own = of_adt l parts.of_kind (length terms) e in
        actionpoint_again l terms e few (entry_bytes_are l adt n all) (entry_is_long l adt n parts.size inside ∙ own.1)
        (sym own.0 ∙ ap (λ c. used_code l c e) count ∙ used_is_sound l adt n (parts.entries n inside) below)

    entries_again : map (entry_at l adt) (numbers_below (own_count adt)) ≡ map (entry_bytes l) entries
    entries_again =
        same_below (entry_at l adt) (λ n. entry_bytes l (read_entry (entry_at l adt n))) (own_count adt) (λ n below. sym (each n below).again)
        ∙ sym (map-map (entry_bytes l) (λ n. read_entry (entry_at l adt n)) (numbers_below (own_count adt)))

    length_again : own_count adt ≡ length entries
    length_again = sym (length_listed (λ n. read_entry (entry_at l adt n)) (own_count adt))

    again : adt ≡ adt_image l (hash_of adt) (length terms) entries
    again = image_again adt all parts ∙ (λ i. preamble l (length_again i) (sym count i) (hash_of adt) ++ filled l (entries_again i))

    fit : AllByRecursion (λ e. FitsEntry l e × EndsOnce e) entries
    fit = each_listed (λ e. FitsEntry l e × EndsOnce e) (λ n. read_entry (entry_at l adt n)) (own_count adt) (λ n below. ((each n below).fits, (each n below).once))

    said : AllZip (IsEntryOf (SpellsInOrder terms)) (spelled_by_layout (Some l) terms adt) entries
    said = each_zipped (IsEntryOf (SpellsInOrder terms))
        (λ n. spelled_rule_if (entry_at l adt n) (spelled_condition terms (words_before_equal (all_words (entry_at l adt n)))))
        (λ n. read_entry (entry_at l adt n)) (own_count adt)
        (λ n below. (
          spelled_rule (entry_at l adt n) (each n below).condition,
          ap (spelled_rule_if (entry_at l adt n)) (computed terms (omega (arith, few)) (each n below).spells),
          (refl, (each n below).spells),
        ))

-- ---- both

pub only_watchpoints : (l : Layout) → is_kind Wdt (kind_of l) ≡ true → l ≡ Watchpoints
only_watchpoints Watchpoints is = refl
only_watchpoints Actionpoints is = absurd (cc is)
only_watchpoints WideActionpoints is = absurd (cc is)

pub what_is_said : IsWhatIsSaid
what_is_said layouts wdt adt wdt_bytes adt_bytes wdt_sound adt_sound match = record {
  watchpoints = w.again;
  fit = w.fit;
  in_type = w.in_type;
  actionpoints =
      subst (λ o. HasActionpoints (SpellsInOrder (spelled_terms wdt)) (hash_of adt) (length (spelled_terms wdt)) (spelled_by_layout o (spelled_terms wdt) adt) adt)
      (sym actions.found) (says_actionpoints (spelled_terms wdt) adt adt_bytes actions w.few (w.count ∙ match.watchpoints));
}
  where
    watches : SoundParts layouts Wdt wdt
    watches = sound_parts layouts Wdt wdt wdt_sound

    actions : SoundParts layouts Adt adt
    actions = sound_parts layouts Adt adt adt_sound

    w : SaysWatchpoints wdt
    w = says_watchpoints wdt wdt_bytes watches (only_watchpoints watches.layout watches.of_kind)
