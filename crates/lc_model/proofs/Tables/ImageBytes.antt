-- Each watchpoint and each actionpoint has one spelling in a table.
use Rattle.std.proofs.Common.{◌≡◌, ◌≢◌, refl, sym, ◌∙◌, ap, subst, ℕ, suc, ◌-◌, ◌<◌, ◌^◌, true, ◌==◌, List, [], ◌∷◌, ◌++◌, length, map, flat_map, replicate, take, drop, ℤ, if◌then◌else◌, arith, append_assoc}
use Rattle.std.specs.List.{AllByRecursion, slice_index}
use Rattle.std.specs.Int.{w16, w32, from_be_bytes}
use Rattle.std.proofs.lemmas.Nat.{from_be_bytes-to_be_bytes_2, from_be_bytes-to_be_bytes_4}
use Rattle.std.proofs.lemmas.List.{drop_at, take_at}
use Rattle.lc_model.specs.declared.field.FieldType.{FieldType}
use Rattle.lc_model.specs.declared.field.Term.{Term}
use Rattle.lc_model.specs.declared.mode.ApMode.{ApMode}
use Rattle.lc_model.specs.declared.mode.ApMode.TheVariants.{Active, Passive, Disabled, PermOff}
use Rattle.lc_model.specs.declared.rule.EventKind.{EventKind}
use Rattle.lc_model.specs.declared.rule.EventKind.TheVariants.{Debug, Information, Error, Critical}
use Rattle.lc_model.specs.Bytes.{u16, u32, u16_at, u32_at, zero_filled}
use Rattle.lc_model.specs.Codes.{state_code, event_code}
use Rattle.lc_model.specs.Tables.Equation.{equal_word}
use Rattle.lc_model.specs.Tables.Image.{Layout, words_in, bits_32, fits_32_bits, twos_complement_32, term_bytes, TableEntry, entry_bytes, FitsWatchpoint, FitsEntry, EndsOnce}
use Rattle.lc_model.proofs.Tables.NumbersIn32Bits.{bits_small, value_again}
use Rattle.lc_model.proofs.Tables.EntryLengths.{length-zero_filled, entry_long}
use Rattle.lc_model.proofs.CodesAgain.{one_operator}
use Rattle.lc_model.proofs.FieldTypes.{one_type}

-- ---- lists in parts

-- parts of the same length are the same
same_parts : {A : Type 0} (xs us ys vs : List A) → length xs ≡ length us → xs ++ ys ≡ us ++ vs → (xs ≡ us) × (ys ≡ vs)
same_parts xs us ys vs long e = (
  sym (take_at xs ys (length xs) refl) ∙ ap (take (length xs)) e ∙ take_at us vs (length xs) (sym long),
  sym (drop_at xs ys (length xs) refl) ∙ ap (drop (length xs)) e ∙ drop_at us vs (length xs) (sym long),
)

-- what stands before the first z is the same
same_before : (z : ℕ) (xs ys r s : List ℕ) → AllByRecursion (λ x. x ≢ z) xs → AllByRecursion (λ y. y ≢ z) ys → xs ++ z ∷ r ≡ ys ++ z ∷ s → xs ≡ ys
same_before z [] [] r s a b e = refl
same_before z [] (y ∷ ys) r s a b e = let here : z ≡ y = cc e in absurd (b.0 (sym here))
same_before z (x ∷ xs) [] r s a b e = let here : x ≡ z = cc e in absurd (a.0 here)
same_before z (x ∷ xs) (y ∷ ys) r s a b e =
    let here : x ≡ y = cc e in
    let there : xs ++ z ∷ r ≡ ys ++ z ∷ s = cc e in
    let others : xs ≡ ys = same_before z xs ys r s a.1 b.1 there in
    cc (here, others)

-- items of one length each, one behind another
pub same_items : {A : Type 0} (P : A → Type 0) (f : A → List ℕ) → ((x y : A) → P x → P y → length (f x) ≡ length (f y)) →
    ((x y : A) → P x → P y → f x ≡ f y → x ≡ y) → (xs ys : List A) (r s : List (List ℕ)) →
    AllByRecursion P xs → AllByRecursion P ys → length xs ≡ length ys →
    flat_map (λ e. e) (map f xs ++ r) ≡ flat_map (λ e. e) (map f ys ++ s) → xs ≡ ys
same_items P f long one [] [] r s a b same e = refl
same_items P f long one [] (y ∷ ys) r s a b same e = absurd (omega (arith, same))
same_items P f long one (x ∷ xs) [] r s a b same e = absurd (omega (arith, same))
same_items P f long one (x ∷ xs) (y ∷ ys) r s a b same e =
    let parts : (f x ≡ f y) × (flat_map (λ e. e) (map f xs ++ r) ≡ flat_map (λ e. e) (map f ys ++ s)) =
    same_parts (f x) (f y) (flat_map (λ e. e) (map f xs ++ r)) (flat_map (λ e. e) (map f ys ++ s)) (long x y a.0 b.0) e in
    let here : x ≡ y = one x y a.0 b.0 parts.0 in
    let others : xs ≡ ys = same_items P f long one xs ys r s a.1 b.1 (omega (arith, same)) parts.1 in
    cc (here, others)

-- ---- codes

abbrev state_with : ℕ → ApMode
state_with n = if n == 1 then Active else if n == 2 then Passive else if n == 3 then Disabled else PermOff

state_again : (m : ApMode) → state_with (state_code m) ≡ m
state_again = elim [ Active ↦ refl | Passive ↦ refl | Disabled ↦ refl | PermOff ↦ refl ]

one_state : (m n : ApMode) → state_code m ≡ state_code n → m ≡ n
one_state m n e = sym (state_again m) ∙ ap state_with e ∙ state_again n

abbrev event_with : ℕ → EventKind
event_with n = if n == 1 then Debug else if n == 2 then Information else if n == 3 then Error else Critical

event_again : (k : EventKind) → event_with (event_code k) ≡ k
event_again = elim [ Debug ↦ refl | Information ↦ refl | Error ↦ refl | Critical ↦ refl ]

one_event : (k l : EventKind) → event_code k ≡ event_code l → k ≡ l
one_event k l e = sym (event_again k) ∙ ap event_with e ∙ event_again l

event_small : (k : EventKind) → event_code k < 2 ^ 16
event_small = elim [ Debug ↦ omega arith | Information ↦ omega arith | Error ↦ omega arith | Critical ↦ omega arith ]

-- ---- numbers

one_in_two : (m n : ℕ) → m < 2 ^ 16 → n < 2 ^ 16 → from_be_bytes w16 (u16 m) ≡ from_be_bytes w16 (u16 n) → m ≡ n
one_in_two m n a b e = sym (from_be_bytes-to_be_bytes_2 m a) ∙ e ∙ from_be_bytes-to_be_bytes_2 n b

one_in_four : (m n : ℕ) → m < 2 ^ 32 → n < 2 ^ 32 → from_be_bytes w32 (u32 m) ≡ from_be_bytes w32 (u32 n) → m ≡ n
one_in_four m n a b e = sym (from_be_bytes-to_be_bytes_4 m a) ∙ e ∙ from_be_bytes-to_be_bytes_4 n b

-- bits of one type are of one number
one_value : (k : FieldType) (v w : ℤ) → fits_32_bits k v ≡ true → fits_32_bits k w ≡ true → bits_32 v ≡ bits_32 w → v ≡ w
one_value k v w a b e = sym (value_again k v a) ∙ ap (twos_complement_32 k) e ∙ value_again k w b

-- ---- watchpoints

pub one_watchpoint : (t u : Term) → FitsWatchpoint t → FitsWatchpoint u → term_bytes t ≡ term_bytes u → t ≡ u
one_watchpoint t u a b e =
    let kinds : t.kind ≡ u.kind = one_type t.kind u.kind (ap (λ (x : List ℕ). slice_index x 0) e) in
    let ops : t.op ≡ u.op = one_operator t.op u.op (ap (λ (x : List ℕ). slice_index x 1) e) in
    let mids : t.mid ≡ u.mid = one_in_two t.mid u.mid a.mid b.mid (ap (λ (x : List ℕ). u16_at x 2) e) in
    let offsets : t.offset ≡ u.offset = one_in_four t.offset u.offset a.offset b.offset (ap (λ (x : List ℕ). u32_at x 4) e) in
    let masks : t.mask ≡ u.mask = one_in_four t.mask u.mask a.mask b.mask (ap (λ (x : List ℕ). u32_at x 8) e) in
    let stales : t.stale ≡ u.stale = one_in_four t.stale u.stale a.stale b.stale (ap (λ (x : List ℕ). u32_at x 16) e) in
    let value : fits_32_bits t.kind u.value ≡ true = subst (λ (k : FieldType). fits_32_bits k u.value ≡ true) (sym kinds) b.value in
    let bits : bits_32 t.value ≡ bits_32 u.value =
    one_in_four (bits_32 t.value) (bits_32 u.value) (bits_small t.kind t.value a.value) (bits_small t.kind u.value value) (ap (λ (x : List ℕ). u32_at x 20) e) in
    let values : t.value ≡ u.value = one_value t.kind t.value u.value a.value value bits in
    λ i. record { kind = kinds i; mid = mids i; offset = offsets i; mask = masks i; stale = stales i; op = ops i; value = values i }

-- ---- actionpoints

-- words up to EQUAL
same_words : (ws us r s : List ℕ) → AllByRecursion (λ w. w < 2 ^ 16) ws → AllByRecursion (λ w. w < 2 ^ 16) us →
    AllByRecursion (λ w. w ≢ equal_word) ws → AllByRecursion (λ w. w ≢ equal_word) us → flat_map u16 (ws ++ equal_word ∷ r) ≡ flat_map u16 (us ++ equal_word ∷ s) → ws ≡ us
same_words [] [] r s a b c d e = refl
same_words [] (u ∷ us) r s a b c d e = absurd (d.0 (sym (one_in_two 0xFF05 u (omega arith) b.0 (ap (λ (x : List ℕ). u16_at x 0) e))))
same_words (w ∷ ws) [] r s a b c d e = absurd (c.0 (one_in_two w 0xFF05 a.0 (omega arith) (ap (λ (x : List ℕ). u16_at x 0) e)))
same_words (w ∷ ws) (u ∷ us) r s a b c d e =
    let here : w ≡ u = one_in_two w u a.0 b.0 (ap (λ (x : List ℕ). u16_at x 0) e) in
    let others : ws ≡ us = same_words ws us r s a.1 b.1 c.1 d.1 (ap (λ (x : List ℕ). drop 2 x) e) in
    cc (here, others)

-- the bytes behind the text
abbrev words_part : Layout → TableEntry → List ℕ
words_part l e = flat_map u16 (zero_filled (words_in l) (e.words ++ equal_word ∷ []))

pub same_length : (l : Layout) (e f : TableEntry) → FitsEntry l e × EndsOnce e → FitsEntry l f × EndsOnce f → length (entry_bytes l e) ≡ length (entry_bytes l f)
same_length l e f a b = entry_long l e a.0 ∙ sym (entry_long l f b.0)

no_zeros : (text : List ℕ) → AllByRecursion (λ b. (0 < b) × (b < 2 ^ 8)) text → AllByRecursion (λ b. b ≢ 0) text
no_zeros [] all = tt
no_zeros (b ∷ text) all = ((λ e. omega (arith, all.0.0, e)), no_zeros text all.1)

zeros_behind : (text : List ℕ) → length text < 32 → zero_filled 32 text ≡ text ++ 0 ∷ replicate (31 - length text) 0
zeros_behind text short =
    let more : 32 - length text ≡ suc (31 - length text) = omega (arith, short) in
    ap (λ n. text ++ replicate n 0) more

one_text : (xs ys : List ℕ) → length xs < 32 → length ys < 32 → AllByRecursion (λ b. (0 < b) × (b < 2 ^ 8)) xs →
    AllByRecursion (λ b. (0 < b) × (b < 2 ^ 8)) ys → zero_filled 32 xs ≡ zero_filled 32 ys → xs ≡ ys
one_text xs ys a b c d e =
    same_before 0 xs ys _ _ (no_zeros xs c) (no_zeros ys d) (sym (zeros_behind xs a) ∙ e ∙ zeros_behind ys b)

pub one_entry : (l : Layout) (e f : TableEntry) → FitsEntry l e × EndsOnce e → FitsEntry l f × EndsOnce f → entry_bytes l e ≡ entry_bytes l f → e ≡ f
one_entry l e f (a, once) (b, ends) same =
    let modes : e.mode ≡ f.mode = one_state e.mode f.mode (ap (λ (x : List ℕ). slice_index x 0) same) in
    let passives : e.report.passive ≡ f.report.passive = ap (λ (x : List ℕ). slice_index x 1) same in
    let fallen : e.report.pass_to_fail ≡ f.report.pass_to_fail =
    one_in_two e.report.pass_to_fail f.report.pass_to_fail a.pass_to_fail b.pass_to_fail (ap (λ (x : List ℕ). u16_at x 2) same) in
    let risen : e.report.fail_to_pass ≡ f.report.fail_to_pass =
    one_in_two e.report.fail_to_pass f.report.fail_to_pass a.fail_to_pass b.fail_to_pass (ap (λ (x : List ℕ). u16_at x 4) same) in
    let sequences : e.sequence ≡ f.sequence = one_in_two e.sequence f.sequence a.sequence b.sequence (ap (λ (x : List ℕ). u16_at x 6) same) in
    let failures : e.fails ≡ f.fails = one_in_two e.fails f.fails a.fails b.fails (ap (λ (x : List ℕ). u16_at x 8) same) in
    let kinds : e.event_kind ≡ f.event_kind =
    one_event e.event_kind f.event_kind (one_in_two (event_code e.event_kind) (event_code f.event_kind) (event_small e.event_kind) (event_small f.event_kind) (ap (λ (x : List ℕ). u16_at x 10) same)) in
    let ids : e.event_id ≡ f.event_id = one_in_two e.event_id f.event_id a.event_id b.event_id (ap (λ (x : List ℕ). u16_at x 12) same) in
    let parts : (zero_filled 32 e.text ≡ zero_filled 32 f.text) × (words_part l e ≡ words_part l f) =
    same_parts (zero_filled 32 e.text) (zero_filled 32 f.text) (words_part l e) (words_part l f)
    (length-zero_filled 32 e.text (omega (arith, a.text_length)) ∙ sym (length-zero_filled 32 f.text (omega (arith, b.text_length)))) (ap (λ (x : List ℕ). drop 14 x) same) in
    let texts : e.text ≡ f.text = one_text e.text f.text a.text_length b.text_length a.text b.text parts.0 in
    let regroup = λ (g : TableEntry). append_assoc g.words (equal_word ∷ []) (replicate (words_in l - length (g.words ++ equal_word ∷ [])) 0) in
    let wordss : e.words ≡ f.words =
    same_words e.words f.words _ _ a.words b.words once ends (sym (ap (flat_map u16) (regroup e)) ∙ parts.1 ∙ ap (flat_map u16) (regroup f)) in
    λ i. record {
      mode = modes i;
      report = record { passive = passives i; pass_to_fail = fallen i; fail_to_pass = risen i };
      sequence = sequences i;
      fails = failures i;
      event_kind = kinds i;
      event_id = ids i;
      text = texts i;
      words = wordss i;
    }
