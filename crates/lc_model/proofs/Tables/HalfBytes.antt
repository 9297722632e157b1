-- The tables of a rule text are bytes.
use Rattle.std.proofs.Common.{sym, subst, ℕ, zero, suc, ◌-◌, ◌/◌, ◌<◌, ◌^◌, List, [], ◌∷◌, ◌++◌, length, map, flat_map, replicate, slice_index, arith, mod-lt}
use Rattle.std.specs.List.{AllByRecursion}
use Rattle.std.specs.Int.{w32, byte_at, to_be_bytes}
use Rattle.sha2.specs.Sha256.{sha256, digest_bytes, final_hash, initial_hash_256}
use Rattle.lc_model.specs.declared.field.CmpOp.{CmpOp}
use Rattle.lc_model.specs.declared.field.CmpOp.TheVariants.{Less, LessOrEqual, NotEqual, Equal, GreaterOrEqual, Greater}
use Rattle.lc_model.specs.declared.field.Term.{Term}
use Rattle.lc_model.specs.declared.mode.ApMode.{ApMode}
use Rattle.lc_model.specs.declared.mode.ApMode.TheVariants.{Active, Passive, Disabled, PermOff}
use Rattle.lc_model.specs.declared.kind.Kind.TheVariants.{Wdt, Adt}
use Rattle.lc_model.specs.Bytes.{u16, zero_filled}
use Rattle.lc_model.specs.Codes.{operator_code, state_code, event_code, kind_code, table_entries}
use Rattle.lc_model.specs.Tables.Equation.{terms_of, equal_word}
use Rattle.lc_model.specs.Tables.Image.{Layout, Watchpoints, kind_of, version_of, words_in, entry_length, preamble, blank_entry, filled, bits_32, term_bytes, TableEntry, entry_bytes, FitsEntry, EndsOnce}
use Rattle.lc_model.specs.Tables.Half.{IsHalf}
use Rattle.lc_model.proofs.FieldTypes.{type_byte}
use Rattle.lc_model.proofs.Tables.SaidLaws.{all_append}

abbrev AreBytes : List ℕ → Type 0
AreBytes bytes = AllByRecursion (λ b. b < 256) bytes

-- ---- numbers

-- each byte of a number is one
byte : (i n : ℕ) → byte_at i n < 256
byte zero n = mod-lt n (omega arith)
byte (suc i) n = mod-lt (n / 256 ^ suc i) (omega arith)

-- two bytes more, and four
two_more : {Rest : Type 0} (n : ℕ) → Rest → (byte_at 1 n < 256) × ((byte_at 0 n < 256) × Rest)
two_more n rest = (byte 1 n, (byte 0 n, rest))

four_more : {Rest : Type 0} (n : ℕ) → Rest → (byte_at 3 n < 256) × ((byte_at 2 n < 256) × ((byte_at 1 n < 256) × ((byte_at 0 n < 256) × Rest)))
four_more n rest = (byte 3 n, (byte 2 n, (byte 1 n, (byte 0 n, rest))))

-- so are those of a digest
digest : (h : List ℕ) (n : ℕ) → AreBytes (digest_bytes h n)
unfolding digest_bytes
digest h zero = tt
digest h (suc n) = all_append (λ b. b < 256) (digest_bytes h n) (to_be_bytes w32 (slice_index h n)) (digest h n) (four_more (slice_index h n) tt)

-- a hash is bytes
hash_bytes : (text : List ℕ) → AreBytes (sha256 text)
unfolding sha256
hash_bytes text = digest (final_hash initial_hash_256 text) 8

-- ---- lists

many_times : (n b : ℕ) → b < 256 → AreBytes (replicate n b)
many_times zero b small = tt
many_times (suc n) b small = (small, many_times n b small)

words_bytes : (ws : List ℕ) → AreBytes (flat_map u16 ws)
words_bytes [] = tt
words_bytes (w ∷ ws) = two_more w (words_bytes ws)

-- items that are bytes, one behind another
pieces : {A : Type 0} (P : A → Type 0) (f : A → List ℕ) → ((x : A) → P x → AreBytes (f x)) → (xs : List A) → AllByRecursion P xs →
    (rest : List (List ℕ)) → AreBytes (flat_map (λ e. e) rest) → AreBytes (flat_map (λ e. e) (map f xs ++ rest))
pieces P f are [] all rest behind = behind
pieces P f are (x ∷ xs) all rest behind =
    all_append (λ b. b < 256) (f x) (flat_map (λ e. e) (map f xs ++ rest)) (are x all.0) (pieces P f are xs all.1 rest behind)

-- blank entries are bytes
blanks : (l : Layout) (n : ℕ) → AreBytes (flat_map (λ e. e) (replicate n (blank_entry l)))
blanks l zero = tt
blanks l (suc n) =
    all_append (λ b. b < 256) (blank_entry l) (flat_map (λ e. e) (replicate n (blank_entry l)))
    (omega arith, many_times (entry_length l - 1) 0 (omega arith)) (blanks l n)

-- entries that are bytes, and blank ones behind them
filled_bytes : {A : Type 0} (P : A → Type 0) (f : A → List ℕ) → ((x : A) → P x → AreBytes (f x)) → (l : Layout) (xs : List A) → AllByRecursion P xs →
    AreBytes (filled l (map f xs))
filled_bytes P f are l xs all =
    pieces P f are xs all (replicate (table_entries - length (map f xs)) (blank_entry l)) (blanks l (table_entries - length (map f xs)))

-- behind a preamble
preamble_bytes : (l : Layout) (own watchpoints : ℕ) (hash rest : List ℕ) → AreBytes hash → AreBytes rest → AreBytes (preamble l own watchpoints hash ++ rest)
preamble_bytes l own watchpoints hash rest first second =
    two_more (version_of l) (two_more (kind_code (kind_of l)) (two_more own (two_more watchpoints (all_append (λ b. b < 256) hash rest first second))))

-- ---- entries

operator_byte : (o : CmpOp) → operator_code o < 256
operator_byte = elim [ Less ↦ omega arith | LessOrEqual ↦ omega arith | NotEqual ↦ omega arith | Equal ↦ omega arith | GreaterOrEqual ↦ omega arith | Greater ↦ omega arith ]

state_byte : (m : ApMode) → state_code m < 256
state_byte = elim [ Active ↦ omega arith | Passive ↦ omega arith | Disabled ↦ omega arith | PermOff ↦ omega arith ]

-- the entry of a watchpoint is bytes
term_are : (t : Term) → AreBytes (term_bytes t)
term_are t =
    (type_byte t.kind, (operator_byte t.op, two_more t.mid (four_more t.offset (four_more t.mask (four_more 0 (four_more t.stale (four_more (bits_32 t.value) tt)))))))

text_bytes : (text : List ℕ) → AllByRecursion (λ b. (0 < b) × (b < 2 ^ 8)) text → AreBytes text
text_bytes [] all = tt
text_bytes (b ∷ text) all = (all.0.1, text_bytes text all.1)

-- the entry of an actionpoint that fits is bytes
entry_are : (l : Layout) (e : TableEntry) → FitsEntry l e → AreBytes (entry_bytes l e)
entry_are l e fits =
    let text : AreBytes (zero_filled 32 e.text) =
    all_append (λ b. b < 256) e.text (replicate (32 - length e.text) 0) (text_bytes e.text fits.text) (many_times (32 - length e.text) 0 (omega arith)) in
    let words : List ℕ = flat_map u16 (zero_filled (words_in l) (e.words ++ equal_word ∷ [])) in
    let behind : AreBytes (zero_filled 32 e.text ++ words) =
    all_append (λ b. b < 256) (zero_filled 32 e.text) words text (words_bytes (zero_filled (words_in l) (e.words ++ equal_word ∷ []))) in
    let event = two_more (event_code e.event_kind) (two_more e.event_id behind) in
    let numbers = two_more e.report.pass_to_fail (two_more e.report.fail_to_pass (two_more e.sequence (two_more e.fails event))) in
    (state_byte e.mode, (fits.passive, numbers))

-- ---- the halves

each_term : (terms : List Term) → AllByRecursion (λ t. Unit {0}) terms
each_term [] = tt
each_term (t ∷ terms) = (tt, each_term terms)

pub wdt_is_bytes : (layouts : List Layout) (image text : List ℕ) → IsHalf layouts Wdt image text → AreBytes image
wdt_is_bytes layouts image text half =
    let terms : List Term = terms_of half.0 in
    subst AreBytes (sym half.3)
    (preamble_bytes Watchpoints (length terms) (length terms) (sha256 text) (filled Watchpoints (map term_bytes terms)) (hash_bytes text)
    (filled_bytes (λ (t : Term). Unit {0}) term_bytes (λ t any. term_are t) Watchpoints terms (each_term terms)))

pub adt_is_bytes : (layouts : List Layout) (image text : List ℕ) → IsHalf layouts Adt image text → AreBytes image
adt_is_bytes layouts image text half =
    let l : Layout = half.3.0 in
    let entries : List TableEntry = half.3.1 in
    subst AreBytes (sym half.3.2)
    (preamble_bytes l (length entries) (length (terms_of half.0)) (sha256 text) (filled l (map (entry_bytes l) entries)) (hash_bytes text)
    (filled_bytes (λ e. FitsEntry l e × EndsOnce e) (entry_bytes l) (λ e fits. entry_are l e fits.0) l entries half.3.3))
