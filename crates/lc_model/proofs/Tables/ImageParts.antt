-- A sound image is its preamble and its entries, one behind another, with blank ones behind those that are used.
use Rattle.std.proofs.Common.{◌≡◌, refl, sym, ◌∙◌, ap, ℕ, zero, suc, ◌+◌, ◌-◌, ◌*◌, ◌<◌, ◌≤◌, Bool, true, false, not, ◌||◌, ◌&&◌, if◌then◌else◌, nat_lt, ◌==◌, List, [], ◌∷◌, ◌++◌, length, map, flat_map, take, drop, replicate, slice_range, bytes_eq, Option, Some, None, arith, append_assoc, append-nil, length-append, length-drop, length-take-le, take-add, take_all, drop-drop, suc-mul, zero-mul}
use Rattle.std.specs.List.{AllByRecursion}
use Rattle.std.proofs.lemmas.List.{map-append, length-map, replicate_more}
use Rattle.std.proofs.lemmas.List.Concat.{flat_map-append}
use Rattle.std.proofs.lemmas.List.Folds.{drop_split}
use Rattle.std.proofs.lemmas.Slice.Eq.{bytes_eq-Decides}
use Rattle.lc_model.specs.declared.kind.Kind.{Kind}
use Rattle.lc_model.specs.declared.kind.Kind.TheVariants.{Wdt}
use Rattle.lc_model.specs.Bytes.{u16, u16_at}
use Rattle.lc_model.specs.Codes.{is_kind, kind_code, table_entries}
use Rattle.lc_model.specs.Tables.Image.{Layout, Watchpoints, Actionpoints, WideActionpoints, kind_of, version_of, entry_length, image_length, preamble, blank_entry, filled, own_count, watchpoint_count, hash_of, entry_at, used_code, entry_code, preamble_code, numbers_below}
use Rattle.lc_model.proofs.Tables.SoundWords.{none_stands}
use Rattle.lc_model.proofs.Facts.{tested_not_less, or_second, or_first, tested_equal, not_false, test_less, test_not_less}
use Rattle.lc_model.proofs.Tables.FileLaws.{with_part}
use Rattle.lc_model.proofs.Tables.SoundImages.{SoundParts, two_at}

-- ---- what is listed of the numbers below one

-- there are as many
pub length_numbers : (k : ℕ) → length (numbers_below k) ≡ k
length_numbers zero = refl
length_numbers (suc k) = omega (arith, length-append (numbers_below k) (k ∷ []), length_numbers k)

pub length_listed : {A : Type 0} (f : ℕ → A) (k : ℕ) → length (map f (numbers_below k)) ≡ k
length_listed f k = length-map (numbers_below k) f ∙ length_numbers k

-- what is the same of each of them makes the same list
pub same_below : {A : Type 0} (f g : ℕ → A) (k : ℕ) → ((n : ℕ) → n < k → f n ≡ g n) → map f (numbers_below k) ≡ map g (numbers_below k)
same_below f g zero same = refl
same_below f g (suc k) same =
    map-append f (numbers_below k) (k ∷ [])
    ∙ (λ i. same_below f g k (λ n below. same n (omega (arith, below))) i ++ same k (omega arith) i ∷ [])
    ∙ sym (map-append g (numbers_below k) (k ∷ []))

-- from one on each is the same
same_behind : {A : Type 0} (f : ℕ → A) (own : ℕ) (x : A) (rest k : ℕ) → k ≡ own + rest → ((n : ℕ) → own ≤ n → n < k → f n ≡ x) →
    map f (numbers_below k) ≡ map f (numbers_below own) ++ replicate rest x
same_behind f own x zero k e same =
    let all : k ≡ own = omega (arith, e) in
    ap (λ n. map f (numbers_below n)) all ∙ sym (append-nil (map f (numbers_below own)))
same_behind f own x (suc rest) zero e same = absurd (omega (arith, e))
same_behind f own x (suc rest) (suc k) e same =
    let one : rest + 1 ≡ suc rest = omega arith in
    map-append f (numbers_below k) (k ∷ [])
    ∙ (λ i. same_behind f own x rest k (omega (arith, e)) (λ n low high. same n low (omega (arith, high))) i ++ same k (omega (arith, e)) (omega arith) i ∷ [])
    ∙ append_assoc (map f (numbers_below own)) (replicate rest x) (x ∷ [])
    ∙ ap (λ r. map f (numbers_below own) ++ r) (replicate_more rest x ∙ ap (λ n. replicate n x) one)

-- ---- parts of one size

-- bytes cut into parts are those parts, one behind another
cut : (size k : ℕ) (bytes : List ℕ) →
    take (k * size) bytes ≡ flat_map (λ e. e) (map (λ n. take size (drop (n * size) bytes)) (numbers_below k))
cut size zero bytes = ap (λ n. take n bytes) (zero-mul size)
cut size (suc k) bytes =
    let part : ℕ → List ℕ = λ n. take size (drop (n * size) bytes) in
    let whole : flat_map (λ e. e) (map part (numbers_below k ++ k ∷ [])) ≡ flat_map (λ e. e) (map part (numbers_below k)) ++ part k =
    ap (flat_map (λ e. e)) (map-append part (numbers_below k) (k ∷ []))
    ∙ flat_map-append (λ e. e) (map part (numbers_below k)) (part k ∷ [])
    ∙ ap (λ r. flat_map (λ e. e) (map part (numbers_below k)) ++ r) (append-nil (part k)) in
    ap (λ n. take n bytes) (suc-mul k size) ∙ take-add (k * size) size bytes ∙ ap (λ front. front ++ part k) (cut size k bytes) ∙ sym whole

-- the bytes behind the preamble are the entries
body : (l : Layout) (image : List ℕ) (k : ℕ) → length (drop 40 image) ≡ k * entry_length l →
    drop 40 image ≡ flat_map (λ e. e) (map (entry_at l image) (numbers_below k))
body l image k long =
    sym (take_all (k * entry_length l) (drop 40 image) (omega (arith, long))) ∙ cut (entry_length l) k (drop 40 image)
    ∙ ap (flat_map (λ e. e)) (same_below (λ n. take (entry_length l) (drop (n * entry_length l) (drop 40 image))) (entry_at l image) k
    (λ n below. ap (take (entry_length l)) (drop-drop (n * entry_length l) 40 image)))

-- an entry has its length
pub entry_is_long : (l : Layout) (image : List ℕ) (n : ℕ) → image_length l ≡ length image → n < table_entries → length (entry_at l image n) ≡ entry_length l
entry_is_long Watchpoints image n size below =
    length-take-le 24 (drop (40 + n * 24) image) (omega (arith, length-drop (40 + n * 24) image, size, below))
entry_is_long Actionpoints image n size below =
    length-take-le 86 (drop (40 + n * 86) image) (omega (arith, length-drop (40 + n * 86) image, size, below))
entry_is_long WideActionpoints image n size below =
    length-take-le 110 (drop (40 + n * 110) image) (omega (arith, length-drop (40 + n * 110) image, size, below))

-- ---- the preamble

both_or : (a b : Bool) → (a && not b) ≡ false → a ≡ true → b ≡ true
both_or true b e is = not_false b e
both_or false b e is = absurd (cc is)

-- what a sound preamble says
pub record SoundPreamble (l : Layout) (image : List ℕ) : Type 0 where
  pub version : u16_at image 0 ≡ version_of l
  pub kind : u16_at image 2 ≡ kind_code (kind_of l)
  pub own : own_count image ≤ table_entries
  pub watchpoints : watchpoint_count image ≤ table_entries
  pub one_count : is_kind (kind_of l) Wdt ≡ true → own_count image ≡ watchpoint_count image

-- too many of one or the other
abbrev too_many : List ℕ → Bool
too_many image = nat_lt table_entries (own_count image) || nat_lt table_entries (watchpoint_count image)

-- a WDT image with two counts
abbrev two_counts : Layout → List ℕ → Bool
two_counts l image = is_kind (kind_of l) Wdt && not (own_count image == watchpoint_count image)

-- the tests of a preamble
abbrev preamble_tests : Layout → List ℕ → List (Bool × ℕ)
preamble_tests l image =
    (not (u16_at image 0 == version_of l), 61)
    ∷ (not (u16_at image 2 == kind_code (kind_of l)), 62)
    ∷ (too_many image || two_counts l image, 64) ∷ []

pub sound_preamble : (l : Layout) (image : List ℕ) → preamble_code l image ≡ None → SoundPreamble l image
sound_preamble l image sound =
    let tests : AllByRecursion (λ t. t.0 ≡ false) (preamble_tests l image) = none_stands (preamble_tests l image) sound in
    let few : too_many image ≡ false = or_first (too_many image) (two_counts l image) tests.1.1.0 in
    let one : two_counts l image ≡ false = or_second (too_many image) (two_counts l image) tests.1.1.0 in
    record {
      version = tested_equal _ _ (not_false (u16_at image 0 == version_of l) tests.0);
      kind = tested_equal _ _ (not_false (u16_at image 2 == kind_code (kind_of l)) tests.1.0);
      own = tested_not_less _ _ (or_first (nat_lt table_entries (own_count image)) (nat_lt table_entries (watchpoint_count image)) few);
      watchpoints = tested_not_less _ _ (or_second (nat_lt table_entries (own_count image)) (nat_lt table_entries (watchpoint_count image)) few);
      one_count = λ is. tested_equal _ _ (both_or (is_kind (kind_of l) Wdt) (own_count image == watchpoint_count image) one is);
    }

-- the preamble is spelled by what is read of it
preamble_again : (l : Layout) (image : List ℕ) → AllByRecursion (λ b. b < 256) image → 40 ≤ length image → SoundPreamble l image →
    image ≡ preamble l (own_count image) (watchpoint_count image) (hash_of image) ++ drop 40 image
preamble_again l image all enough p =
    let to_2 : List ℕ = u16 (u16_at image 0) in
    let to_4 : List ℕ = to_2 ++ u16 (u16_at image 2) in
    let to_6 : List ℕ = to_4 ++ u16 (u16_at image 4) in
    let to_8 : List ℕ = to_6 ++ u16 (u16_at image 6) in
    with_part image to_8 (slice_range image 8 40) 8 40 (drop_split image 8 40 (omega arith))
    (with_part image to_6 (u16 (u16_at image 6)) 6 8 (two_at image 6 8 all refl (omega (arith, enough)))
    (with_part image to_4 (u16 (u16_at image 4)) 4 6 (two_at image 4 6 all refl (omega (arith, enough)))
    (with_part image to_2 (u16 (u16_at image 2)) 2 4 (two_at image 2 4 all refl (omega (arith, enough)))
    (two_at image 0 2 all refl (omega (arith, enough))))))
    ∙ (λ i. u16 (p.version i) ++ u16 (p.kind i) ++ u16 (u16_at image 4) ++ u16 (u16_at image 6) ++ slice_range image 8 40 ++ drop 40 image)

-- ---- the entries

-- an entry that is used has no fault
pub used_is_sound : (l : Layout) (image : List ℕ) (n : ℕ) → entry_code l image n ≡ None → n < own_count image →
    used_code l (watchpoint_count image) (entry_at l image n) ≡ None
used_is_sound l image n sound below =
    rw (test_less n (own_count image) below) at sound

abbrev not_blank : Option ℕ
not_blank = Some 65

-- an entry that is not used is blank
behind_is_blank : (l : Layout) (image : List ℕ) (n : ℕ) → entry_code l image n ≡ None → own_count image ≤ n → entry_at l image n ≡ blank_entry l
behind_is_blank l image n sound more =
    by_test (bytes_eq (entry_at l image n) (blank_entry l)) refl (rw (test_not_less n (own_count image) more) at sound)
  where
    by_test : (b : Bool) → bytes_eq (entry_at l image n) (blank_entry l) ≡ b → (if b then None else not_blank) ≡ None → entry_at l image n ≡ blank_entry l
    by_test true e is = (bytes_eq-Decides (entry_at l image n) (blank_entry l)).0 e
    by_test false e is = absurd (cc is)

-- room for the preamble
at_least_40 : (l : Layout) {n : ℕ} → image_length l ≡ n → 40 ≤ n
at_least_40 Watchpoints size = omega (arith, size)
at_least_40 Actionpoints size = omega (arith, size)
at_least_40 WideActionpoints size = omega (arith, size)

-- room for all entries
body_long : (l : Layout) (image : List ℕ) → image_length l ≡ length image → length (drop 40 image) ≡ table_entries * entry_length l
body_long Watchpoints image size = omega (arith, length-drop 40 image, size)
body_long Actionpoints image size = omega (arith, length-drop 40 image, size)
body_long WideActionpoints image size = omega (arith, length-drop 40 image, size)

-- where some entries are used, and blank ones stand behind them
body_again : (l : Layout) (image : List ℕ) (k own : ℕ) → own ≤ k → length (drop 40 image) ≡ k * entry_length l →
    ((n : ℕ) → own ≤ n → n < k → entry_at l image n ≡ blank_entry l) →
    drop 40 image ≡ flat_map (λ e. e) (map (entry_at l image) (numbers_below own) ++ replicate (k - length (map (entry_at l image) (numbers_below own))) (blank_entry l))
body_again l image k own few long blank =
    body l image k long
    ∙ ap (flat_map (λ e. e)) (same_behind (entry_at l image) own (blank_entry l) (k - own) k (omega (arith, few)) blank
    ∙ ap (λ n. map (entry_at l image) (numbers_below own) ++ replicate (k - n) (blank_entry l)) (sym (length_listed (entry_at l image) own)))

-- the image is spelled by its parts
pub image_again : {layouts : List Layout} {kind : Kind} (image : List ℕ) → AllByRecursion (λ b. b < 256) image → (parts : SoundParts layouts kind image) →
    image ≡ preamble parts.layout (own_count image) (watchpoint_count image) (hash_of image)
    ++ filled parts.layout (map (entry_at parts.layout image) (numbers_below (own_count image)))
image_again image all parts =
    let l : Layout = parts.layout in
    let long : length (drop 40 image) ≡ table_entries * entry_length l = body_long l image parts.size in
    let p : SoundPreamble l image = sound_preamble l image parts.preamble in
    preamble_again l image all (at_least_40 l parts.size) p
    ∙ ap (λ rest. preamble l (own_count image) (watchpoint_count image) (hash_of image) ++ rest)
    (body_again l image table_entries (own_count image) p.own long (λ n more below. behind_is_blank l image n (parts.entries n below) more))
