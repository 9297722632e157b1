-- The entries that are written for watchpoints and actionpoints within the ranges have no fault.
use Rattle.std.proofs.Common.{◌≡◌, ◌≢◌, refl, ◌∙◌, ap, ℕ, zero, suc, ◌-◌, ◌<◌, ◌≤◌, ◌^◌, Bool, true, false, not, cond, ◌&&◌, ◌||◌, nat_lt, ◌==◌, List, [], ◌∷◌, ◌++◌, length, flat_map, take, drop, take_while, replicate, Some, None, is_none, IsTrue, arith, append_assoc}
use Rattle.std.specs.List.{AllByRecursion, list_any, list_all, before_first, after_first}
use Rattle.std.specs.Option.{option_map_or}
use Rattle.std.specs.Int.{is_in_range, w16, from_be_bytes}
use Rattle.std.proofs.lemmas.Nat.{from_be_bytes-to_be_bytes_2, from_be_bytes-to_be_bytes_4}
use Rattle.std.proofs.lemmas.List.{take_at, drop_at}
use Rattle.std.proofs.lemmas.List.Sums.{take_while-cons}
use Rattle.lc_model.specs.declared.field.CmpOp.{CmpOp}
use Rattle.lc_model.specs.declared.field.CmpOp.TheVariants.{Less, LessOrEqual, NotEqual, Equal, GreaterOrEqual, Greater}
use Rattle.lc_model.specs.declared.field.Term.{Term}
use Rattle.lc_model.specs.declared.mode.ApMode.{ApMode}
use Rattle.lc_model.specs.declared.mode.ApMode.TheVariants.{Active, Passive, Disabled, PermOff}
use Rattle.lc_model.specs.declared.rule.EventKind.{EventKind}
use Rattle.lc_model.specs.declared.rule.EventKind.TheVariants.{Debug, Information, Error, Critical}
use Rattle.lc_model.specs.Bytes.{u16, zero_filled}
use Rattle.lc_model.specs.Packet.{reserved_mids, is_telemetry_mid}
use Rattle.lc_model.specs.Field.{full_mask, is_in_type}
use Rattle.lc_model.specs.Codes.{operator_code, state_code, event_code}
use Rattle.lc_model.specs.Tables.Entry.{mask_field, mid_field, type_field, value_field, event_id_field, event_type_field, fails_field, sequence_field, text_field}
use Rattle.lc_model.specs.Text.Token.{is_text_byte}
use Rattle.lc_model.specs.Tables.Equation.{equal_word}
use Rattle.lc_model.specs.Tables.Image.{Layout, words_in, bits_32, twos_complement_32, term_bytes, type_of_code, watchpoint_code, TableEntry, entry_bytes, FitsEntry, EndsOnce, all_words, words_from, words_before_equal, words_after_equal, is_text_field, first_code, equation_tests, actionpoint_code, watchpoint_tests, actionpoint_tests}
use Rattle.lc_model.proofs.Tables.SoundWords.{none_stands, stands_none, list_any-append}
use Rattle.lc_model.proofs.Facts.{or_neither, test_at_most, test_not_less, test_less, or_true, test_unequal}
use Rattle.lc_model.proofs.Tables.NumbersIn32Bits.{bits_small, value_again}
use Rattle.lc_model.proofs.Tables.TermsFit.{IsSoundTerm}
use Rattle.lc_model.proofs.Tables.EntryLengths.{length-zero_filled}
use Rattle.lc_model.proofs.Tables.SoundFields.{before_here, before_later, after_here, after_later}
use Rattle.lc_model.proofs.FieldTypes.{type_again}

-- ---- tests

not_zero : (n : ℕ) → 1 ≤ n → (n == 0) ≡ false
not_zero n h = grind (arith, h)

in_range : (low high n : ℕ) → low ≤ n → n ≤ high → not (is_in_range low high n) ≡ false
in_range low high n a b = λ i. not (test_at_most low n a i && test_at_most n high b i)

-- ---- watchpoints

operator_known : (o : CmpOp) → not (is_in_range 1 6 (operator_code o)) ≡ false
operator_known = elim [ Less ↦ refl | LessOrEqual ↦ refl | NotEqual ↦ refl | Equal ↦ refl | GreaterOrEqual ↦ refl | Greater ↦ refl ]

pub sound_watchpoint : (t : Term) → IsSoundTerm t → watchpoint_code (term_bytes t) ≡ None
sound_watchpoint t is =
    let e : List ℕ = term_bytes t in
    let mid_is : mid_field e ≡ t.mid = from_be_bytes-to_be_bytes_2 t.mid is.fits.mid in
    let mask_is : mask_field e ≡ t.mask = from_be_bytes-to_be_bytes_4 t.mask is.fits.mask in
    let bits_are : value_field e ≡ bits_32 t.value = from_be_bytes-to_be_bytes_4 (bits_32 t.value) (bits_small t.kind t.value is.fits.value) in
    let kind_is : type_of_code (type_field e) ≡ Some t.kind = type_again t.kind in
    let known : is_none (type_of_code (type_field e)) ≡ false = ap is_none kind_is in
    let mid_known : (not (is_telemetry_mid (mid_field e)) || list_any (◌==◌ (mid_field e)) reserved_mids) ≡ false =
    ap (λ m. not (is_telemetry_mid m) || list_any (◌==◌ m) reserved_mids) mid_is
    ∙ or_neither (not (is_telemetry_mid t.mid)) (list_any (◌==◌ t.mid) reserved_mids) (in_range 0x0800 0x0FFF t.mid is.mid.0 is.mid.1) is.free in
    let masked : option_map_or (λ k. not (is_in_range 1 (full_mask k) (mask_field e))) (type_of_code (type_field e)) false ≡ false =
    (λ i. option_map_or (λ k. not (is_in_range 1 (full_mask k) (mask_is i))) (kind_is i) false) ∙ in_range 1 (full_mask t.kind) t.mask is.mask.0 is.mask.1 in
    let valued : option_map_or (λ k. not (is_in_type k (twos_complement_32 k (value_field e)))) (type_of_code (type_field e)) false ≡ false =
    (λ i. option_map_or (λ k. not (is_in_type k (twos_complement_32 k (bits_are i)))) (kind_is i) false)
    ∙ ap (λ v. not (is_in_type t.kind v)) (value_again t.kind t.value is.fits.value) ∙ ap not is.in_type in
    stands_none (watchpoint_tests e) (refl, (known, (operator_known t.op, (mid_known, (masked, (valued, tt))))))

-- ---- actionpoints: texts

state_known : (m : ApMode) → m ≢ PermOff → not (is_in_range 1 3 (state_code m)) ≡ false
state_known Active begins = refl
state_known Passive begins = refl
state_known Disabled begins = refl
state_known PermOff begins = absurd (begins refl)

event_known : (k : EventKind) → not (is_in_range 1 4 (from_be_bytes w16 (u16 (event_code k)))) ≡ false
event_known = elim [ Debug ↦ refl | Information ↦ refl | Error ↦ refl | Critical ↦ refl ]

zeros : (n : ℕ) → list_all (◌==◌ 0) (replicate n 0) ≡ true
zeros zero = refl
zeros (suc n) = zeros n

no_text : (n : ℕ) → take_while is_text_byte (replicate n 0) ≡ []
no_text zero = refl
no_text (suc n) = take_while-cons is_text_byte 0 (replicate n 0)

text_in_front : (text : List ℕ) (n : ℕ) → AllByRecursion (λ b. IsTrue (is_text_byte b)) text → take_while is_text_byte (text ++ replicate n 0) ≡ text
text_in_front [] n all = no_text n
text_in_front (b ∷ text) n all =
    take_while-cons is_text_byte b (text ++ replicate n 0) ∙ ap (λ t. cond t (b ∷ take_while is_text_byte (text ++ replicate n 0)) []) all.0
    ∙ ap (λ (rest : List ℕ). b ∷ rest) (text_in_front text n all.1)

text_known : (text : List ℕ) → length text < 32 → AllByRecursion (λ b. IsTrue (is_text_byte b)) text → is_text_field (zero_filled 32 text) ≡ true
text_known text short all =
    let rest : List ℕ = replicate (32 - length text) 0 in
    let behind : list_all (◌==◌ 0) (drop (length text) (text ++ rest)) ≡ true =
    ap (list_all (◌==◌ 0)) (drop_at text rest (length text) refl) ∙ zeros (32 - length text) in
    ap (λ (front : List ℕ). nat_lt (length front) 32 && list_all (◌==◌ 0) (drop (length front) (text ++ rest))) (text_in_front text (32 - length text) all)
    ∙ (λ i. test_less (length text) 32 short i && behind i)

-- ---- actionpoints: words

words_again : (ws : List ℕ) → AllByRecursion (λ w. w < 2 ^ 16) ws → words_from (flat_map u16 ws) ≡ ws
words_again [] all = refl
words_again (w ∷ ws) all = λ i. from_be_bytes-to_be_bytes_2 w all.0 i ∷ words_again ws all.1 i

small_append : (xs ys : List ℕ) → AllByRecursion (λ w. w < 2 ^ 16) xs → AllByRecursion (λ w. w < 2 ^ 16) ys → AllByRecursion (λ w. w < 2 ^ 16) (xs ++ ys)
small_append [] ys a b = b
small_append (x ∷ xs) ys a b = (a.0, small_append xs ys a.1 b)

small_zeros : (n : ℕ) → AllByRecursion (λ w. w < 2 ^ 16) (replicate n 0)
small_zeros zero = tt
small_zeros (suc n) = (omega arith, small_zeros n)

not_equal : (ws : List ℕ) → AllByRecursion (λ w. w ≢ equal_word) ws → AllByRecursion (λ w. (w == equal_word) ≡ false) ws
not_equal [] all = tt
not_equal (w ∷ ws) all = (test_unequal w equal_word all.0, not_equal ws all.1)

module _ (p : ℕ → Bool) (z : ℕ) (here : p z ≡ true) (rest : List ℕ) where
  pub before_at : (xs : List ℕ) → AllByRecursion (λ x. p x ≡ false) xs → before_first p (xs ++ z ∷ rest) ≡ xs
  before_at [] none = before_here p z rest here
  before_at (x ∷ xs) none = before_later p x (xs ++ z ∷ rest) none.0 ∙ ap (λ (front : List ℕ). x ∷ front) (before_at xs none.1)

  after_at : (xs : List ℕ) → AllByRecursion (λ x. p x ≡ false) xs → after_first p (xs ++ z ∷ rest) ≡ rest
  after_at [] none = after_here p z rest here
  after_at (x ∷ xs) none = after_later p x (xs ++ z ∷ rest) none.0 ∙ after_at xs none.1

-- the words behind a text, with EQUAL among them and zeros behind it
pub record HoldsEquation (ws all : List ℕ) : Type 0 where
  pub ends : list_any (◌==◌ equal_word) all ≡ true
  pub behind : list_all (◌==◌ 0) (words_after_equal all) ≡ true
  pub before : words_before_equal all ≡ ws

pub holds_equation : (size : ℕ) (ws : List ℕ) → AllByRecursion (λ w. w < 2 ^ 16) ws → AllByRecursion (λ w. w ≢ equal_word) ws →
    HoldsEquation ws (words_from (flat_map u16 (zero_filled size (ws ++ equal_word ∷ []))))
holds_equation size ws each once =
    let n : ℕ = size - length (ws ++ equal_word ∷ []) in
    let rest : List ℕ = replicate n 0 in
    let small : AllByRecursion (λ w. w < 2 ^ 16) ((ws ++ equal_word ∷ []) ++ rest) =
    small_append (ws ++ equal_word ∷ []) rest (small_append ws (equal_word ∷ []) each (omega arith, tt)) (small_zeros n) in
    let all : words_from (flat_map u16 ((ws ++ equal_word ∷ []) ++ rest)) ≡ ws ++ equal_word ∷ rest =
    words_again ((ws ++ equal_word ∷ []) ++ rest) small ∙ append_assoc ws (equal_word ∷ []) rest in
    let none : AllByRecursion (λ w. (w == equal_word) ≡ false) ws = not_equal ws once in
    record {
      ends = ap (list_any (◌==◌ equal_word)) all ∙ list_any-append (◌==◌ equal_word) ws (equal_word ∷ rest) ∙ or_true (list_any (◌==◌ equal_word) ws);
      behind = ap (λ (xs : List ℕ). list_all (◌==◌ 0) (words_after_equal xs)) all
          ∙ ap (list_all (◌==◌ 0)) (after_at (λ w. w == equal_word) equal_word refl rest ws none) ∙ zeros n;
      before = ap words_before_equal all ∙ before_at (λ w. w == equal_word) equal_word refl rest ws none;
    }

-- ---- actionpoints

-- an actionpoint that a table of this layout may begin with, over so many watchpoints
pub record IsSoundEntry (l : Layout) (count : ℕ) (e : TableEntry) : Type 0 where
  pub fits : FitsEntry l e
  pub once : EndsOnce e
  pub begins : e.mode ≢ PermOff
  pub event_id : 1_000 ≤ e.event_id
  pub text : AllByRecursion (λ b. IsTrue (is_text_byte b)) e.text
  pub sequence : 1 ≤ e.sequence
  pub fails : 1 ≤ e.fails
  pub equation : first_code (equation_tests count e.words) ≡ None

pub sound_actionpoint : (l : Layout) (count : ℕ) (e : TableEntry) → IsSoundEntry l count e → actionpoint_code count (entry_bytes l e) ≡ None
sound_actionpoint l count e is =
    let bytes : List ℕ = entry_bytes l e in
    let text : List ℕ = zero_filled 32 e.text in
    let words : List ℕ = flat_map u16 (zero_filled (words_in l) (e.words ++ equal_word ∷ [])) in
    let long : length text ≡ 32 = length-zero_filled 32 e.text (omega (arith, is.fits.text_length)) in
    let field : take 32 (text ++ words) ≡ text = take_at text words 32 long in
    let words_are : words_from (drop 32 (text ++ words)) ≡ words_from words = ap words_from (drop_at text words 32 long) in
    let held : HoldsEquation e.words (words_from words) = holds_equation (words_in l) e.words is.fits.words is.once in
    let id_is : event_id_field bytes ≡ e.event_id = from_be_bytes-to_be_bytes_2 e.event_id is.fits.event_id in
    let sequence_is : sequence_field bytes ≡ e.sequence = from_be_bytes-to_be_bytes_2 e.sequence is.fits.sequence in
    let fails_is : fails_field bytes ≡ e.fails = from_be_bytes-to_be_bytes_2 e.fails is.fits.fails in
    let event : (not (is_in_range 1 4 (event_type_field bytes)) || nat_lt (event_id_field bytes) 1_000) ≡ false =
    or_neither _ _ (event_known e.event_kind) (ap (λ n. nat_lt n 1_000) id_is ∙ test_not_less e.event_id 1_000 is.event_id) in
    let texts : not (is_text_field (text_field bytes)) ≡ false =
    ap (λ (f : List ℕ). not (is_text_field f)) field ∙ ap not (text_known e.text is.fits.text_length is.text) in
    let ends : not (list_any (◌==◌ equal_word) (all_words bytes)) ≡ false =
    ap (λ (ws : List ℕ). not (list_any (◌==◌ equal_word) ws)) words_are ∙ ap not held.ends in
    let behind : not (list_all (◌==◌ 0) (words_after_equal (all_words bytes))) ≡ false =
    ap (λ (ws : List ℕ). not (list_all (◌==◌ 0) (words_after_equal ws))) words_are ∙ ap not held.behind in
    let equation : first_code (equation_tests count (words_before_equal (all_words bytes))) ≡ None =
    ap (λ (ws : List ℕ). first_code (equation_tests count (words_before_equal ws))) words_are
    ∙ ap (λ (ws : List ℕ). first_code (equation_tests count ws)) held.before ∙ is.equation in
    let tests : AllByRecursion (λ t. t.0 ≡ false) (equation_tests count (words_before_equal (all_words bytes))) =
    none_stands (equation_tests count (words_before_equal (all_words bytes))) equation in
    let counted : (sequence_field bytes == 0 || fails_field bytes == 0) ≡ false =
    or_neither _ _ (ap (λ n. n == 0) sequence_is ∙ not_zero e.sequence is.sequence) (ap (λ n. n == 0) fails_is ∙ not_zero e.fails is.fails) in
    stands_none (actionpoint_tests count bytes)
    (state_known e.mode is.begins, (event, (texts, (ends, (behind, (tests.0, (tests.1.0, (tests.1.1.0, (tests.1.1.1.0, (tests.1.1.1.1.0, (counted, tt)))))))))))
