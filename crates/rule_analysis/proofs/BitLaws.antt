-- Bytes in which several fields have their bits, and what is read of them.
use Rattle.std.proofs.Common.{◌≡◌, ℕ, zero, suc, ◌+◌, ◌-◌, ◌*◌, ◌%◌, ◌≤◌, ◌<◌, ◌^◌, nat_le, nat_lt, Bool, true, false, ◌&&◌, ◌==◌, if◌then◌else◌, List, [], ◌∷◌, fold, refl, ap, sym, ◌∙◌, subst, arith, get_or, slice_get, Some, bit_and, bit_or}
use Rattle.std.specs.List.{AllByRecursion}
use Rattle.std.specs.Int.{w16, w32, byte_at, from_be_bytes, from_le_bytes}
use Rattle.std.specs.Int.Bits.{and_self, and_zero_r}
use Rattle.std.proofs.lemmas.Bool.Decides.{nat_tests}
use Rattle.std.proofs.lemmas.Nat.{and_block, and_mod, and_assoc, and_le_l, and_le_r, and_or_apart, or_comm, or_of_8}
use Rattle.std.proofs.lemmas.Grind.{and_not_apart, and-not_self, numeral_and}
use Rattle.lc_model.specs.declared.field.FieldType.{FieldType}
use Rattle.lc_model.specs.declared.field.FieldType.TheVariants.{U8, I8, U16Be, U16Le, I16Be, I16Le, U32Be, U32Le, I32Be, I32Le}
use Rattle.lc_model.specs.Field.{width, raw, full_mask}
use Rattle.rule_analysis.specs.declared.fields.Field.{Field}
use Rattle.rule_analysis.specs.declared.packets.Chosen.{Chosen}
use Rattle.rule_analysis.specs.Bits.{byte_number, byte_there, bits_read, header_bits}
use Rattle.rule_analysis.specs.Laid.{byte_over, laid_over, packet_byte}

-- ---- one byte

small_byte : (i n : ℕ) → byte_at i n ≤ 255
small_byte zero n = omega arith
small_byte (suc i) n = omega arith

pub few_bits : (f : Field) (place : ℕ) → bits_read f place ≤ 255
few_bits f place = by_test (nat_le f.offset place && nat_lt place (f.offset + width f.kind))
  where
    by_test : (test : Bool) → (if test then byte_at (byte_number f.kind (place - f.offset)) f.mask else 0) ≤ 255
    by_test true = small_byte (byte_number f.kind (place - f.offset)) f.mask
    by_test false = omega arith

and_apart : (a b n : ℕ) → bit_and b n ≡ 0 → bit_and (bit_and a b) n ≡ 0
and_apart a b n apart = and_assoc n a b ∙ ap (bit_and a) apart ∙ and_zero_r a

-- what is laid over a byte leaves the bits of others
over_others : (byte given own n : ℕ) → own ≤ 255 → n ≤ 255 → bit_and own n ≡ 0 → bit_and (bit_or (bit_and byte (255 - own)) (bit_and given own)) n ≡ bit_and byte n
over_others byte given own n small few apart =
    and_or_apart n (bit_and byte (255 - own)) (bit_and given own) (and_apart given own n apart)
    ∙ and_not_apart byte 255 own n refl small few apart

-- and its own are what they should be
over_own : (byte given own : ℕ) → own ≤ 255 → bit_and (bit_or (bit_and byte (255 - own)) (bit_and given own)) own ≡ bit_and given own
over_own byte given own small =
    ap (λ x. bit_and x own) (or_comm (bit_and byte (255 - own)) (bit_and given own))
    ∙ and_or_apart own (bit_and given own) (bit_and byte (255 - own)) (and-not_self byte 255 own own refl small refl)
    ∙ and_assoc own given own ∙ ap (bit_and given) (and_self own)

-- ---- all that is laid over a byte

small_laid : (byte given own : ℕ) → byte < 256 → own ≤ 255 → bit_or (bit_and byte (255 - own)) (bit_and given own) < 256
small_laid byte given own small few =
    or_of_8 (bit_and byte (255 - own)) (bit_and given own) (omega (arith, small, and_le_l byte (255 - own))) (omega (arith, few, and_le_r given own))

small_over : (mid place : ℕ) (one : Chosen) (byte : ℕ) → byte < 256 → laid_over mid place byte one < 256
small_over mid place one byte small = by_test (one.field.mid == mid)
  where
    by_test : (test : Bool) → (if test then bit_or (bit_and byte (255 - bits_read one.field place)) (bit_and (byte_there one.field one.bits place) (bits_read one.field place)) else byte) < 256
    by_test true = small_laid byte (byte_there one.field one.bits place) (bits_read one.field place) small (few_bits one.field place)
    by_test false = small

pub all_small : (mid place : ℕ) (chosen : List Chosen) (byte : ℕ) → byte < 256 → fold (laid_over mid place) byte chosen < 256
all_small mid place [] byte small = small
all_small mid place (one ∷ chosen) byte small = all_small mid place chosen (laid_over mid place byte one) (small_over mid place one byte small)

-- a field's bits share none with these
abbrev pub LeavesAt : ℕ → ℕ → ℕ → Chosen → Type 0
LeavesAt mid place n one = one.field.mid ≡ mid → bit_and (bits_read one.field place) n ≡ 0

one_leaves : (mid place n byte : ℕ) (one : Chosen) → n ≤ 255 → LeavesAt mid place n one → bit_and (laid_over mid place byte one) n ≡ bit_and byte n
one_leaves mid place n byte one few leaves = by_test (one.field.mid == mid) refl
  where
    by_test : (test : Bool) → (one.field.mid == mid) ≡ test →
        bit_and (if test then bit_or (bit_and byte (255 - bits_read one.field place)) (bit_and (byte_there one.field one.bits place) (bits_read one.field place)) else byte) n ≡ bit_and byte n
    by_test true e =
        over_others byte (byte_there one.field one.bits place) (bits_read one.field place) n (few_bits one.field place) few (leaves (grind (arith, nat_tests)))
    by_test false e = refl

all_leave : (mid place n : ℕ) (chosen : List Chosen) (byte : ℕ) → n ≤ 255 → AllByRecursion (LeavesAt mid place n) chosen →
    bit_and (fold (laid_over mid place) byte chosen) n ≡ bit_and byte n
all_leave mid place n [] byte few leave = refl
all_leave mid place n (one ∷ chosen) byte few leave =
    all_leave mid place n chosen (laid_over mid place byte one) few leave.1 ∙ one_leaves mid place n byte one few leave.0

-- no field shares a bit with one before it
unfoldable pub LeaveOthers : List Chosen → Type 0
LeaveOthers [] = Unit {0}
LeaveOthers (one ∷ chosen) = ((place : ℕ) → AllByRecursion (LeavesAt one.field.mid place (bits_read one.field place)) chosen) × LeaveOthers chosen

-- then each has its bits
pub has_bits : (chosen : List Chosen) (k : ℕ) (one : Chosen) (place byte : ℕ) → slice_get chosen k ≡ Some one → LeaveOthers chosen →
    bit_and (fold (laid_over one.field.mid place) byte chosen) (bits_read one.field place) ≡ bit_and (byte_there one.field one.bits place) (bits_read one.field place)
unfolding LeaveOthers
has_bits [] k one place byte is leave = absurd (cc is)
has_bits (first ∷ chosen) zero one place byte is leave =
    let same : first ≡ one = cc is in
    subst (λ (o : Chosen). bit_and (fold (laid_over o.field.mid place) byte (first ∷ chosen)) (bits_read o.field place) ≡ bit_and (byte_there o.field o.bits place) (bits_read o.field place)) same
    (all_leave first.field.mid place (bits_read first.field place) chosen (laid_over first.field.mid place byte first) (few_bits first.field place) (leave.0 place)
    ∙ by_test (first.field.mid == first.field.mid) (grind (arith, nat_tests)))
  where
    by_test : (test : Bool) → test ≡ true →
        bit_and (if test then bit_or (bit_and byte (255 - bits_read first.field place)) (bit_and (byte_there first.field first.bits place) (bits_read first.field place)) else byte)
        (bits_read first.field place) ≡ bit_and (byte_there first.field first.bits place) (bits_read first.field place)
    by_test true e = over_own byte (byte_there first.field first.bits place) (bits_read first.field place) (few_bits first.field place)
    by_test false e = cc
has_bits (first ∷ chosen) (suc k) one place byte is leave = has_bits chosen k one place (laid_over one.field.mid place byte first) is leave.1

-- ---- the header over it

either : (test : Bool) (x y n z : ℕ) → (test ≡ true → bit_and x n ≡ z) → (test ≡ false → bit_and y n ≡ z) → bit_and (if test then x else y) n ≡ z
either true x y n z first second = first refl
either false x y n z first second = second refl

at_number : (place k : ℕ) → (place == k) ≡ true → place ≡ k
at_number place k e = grind (arith, nat_tests)

fixed : (n x y : ℕ) → n ≤ 255 → bit_and 0xFF n ≡ 0 → bit_and x n ≡ bit_and y n
fixed n x y few apart =
    let none : n ≡ 0 = sym (numeral_and 254 n refl ∙ omega (arith, few)) ∙ apart in
    ap (bit_and x) none ∙ and_zero_r x ∙ sym (ap (bit_and y) none ∙ and_zero_r y)

pub header_leaves : (chosen : List Chosen) (mid size place n : ℕ) → n ≤ 255 → bit_and (header_bits place) n ≡ 0 →
    bit_and (packet_byte chosen mid size place) n ≡ bit_and (byte_over chosen mid place) n
header_leaves chosen mid size place n few apart =
    either (place == 0) _ _ n _ (λ e. fixed n _ _ few (at 0 e))
    (λ e. either (place == 1) _ _ n _ (λ e. fixed n _ _ few (at 1 e))
    (λ e. either (place == 2) _ _ n _ (λ e. and_or_apart n (byte_over chosen mid 2) 0xC0 (at 2 e) ∙ ap (λ k. bit_and (byte_over chosen mid k) n) (sym (at_number place 2 e)))
    (λ e. either (place == 4) _ _ n _ (λ e. fixed n _ _ few (at 4 e))
    (λ e. either (place == 5) _ _ n _ (λ e. fixed n _ _ few (at 5 e)) (λ e. refl)))))
  where
    at : (k : ℕ) → (place == k) ≡ true → bit_and (header_bits k) n ≡ 0
    at k e = ap (λ p. bit_and (header_bits p) n) (sym (at_number place k e)) ∙ apart

pub small_packet_byte : (chosen : List Chosen) (mid size place : ℕ) → mid < 65536 → size ≤ 2048 → packet_byte chosen mid size place < 256
small_packet_byte chosen mid size place few short =
    below (place == 0) _ _ (omega (arith, few)) (below (place == 1) _ _ (omega arith)
    (below (place == 2) _ _ (or_of_8 (byte_over chosen mid 2) 0xC0 (all_small mid 2 chosen 0 (omega arith)) (omega arith))
    (below (place == 4) _ _ (omega (arith, short)) (below (place == 5) _ _ (omega arith) (all_small mid place chosen 0 (omega arith))))))
  where
    below : (test : Bool) (x y : ℕ) → x < 256 → y < 256 → (if test then x else y) < 256
    below true x y first second = first
    below false x y first second = second

-- ---- what is read of bytes

-- the bits above a mask don't count
low_bits : (b mask k : ℕ) → ((n : ℕ) → n ≤ mask → n % 2 ^ k ≡ n) → bit_and b mask ≡ bit_and (b % 2 ^ k) mask
low_bits b mask k small = sym (small (bit_and b mask) (and_le_r b mask)) ∙ and_mod b mask k ∙ ap (bit_and (b % 2 ^ k)) (small mask (omega arith))

-- two blocks of bits are read alike where each is
block : (x y m r s n : ℕ) → r < 256 → s < 256 → n < 256 → bit_and x m ≡ bit_and y m → bit_and r n ≡ bit_and s n →
    bit_and (x * 256 + r) (m * 256 + n) ≡ bit_and (y * 256 + s) (m * 256 + n)
block x y m r s n small few mask high low =
    and_block 8 x m r n small mask ∙ (λ i. high i * 256 + low i) ∙ sym (and_block 8 y m s n few mask)

-- the byte is read alike
abbrev ReadsByte : ℕ → ℕ → ℕ → ℕ → Type 0
ReadsByte byte i b mask = bit_and byte (byte_at i mask) ≡ bit_and (byte_at i b) (byte_at i mask)

one_byte : (p b mask : ℕ) → mask ≤ 255 → ReadsByte p 0 b mask → bit_and p mask ≡ bit_and b mask
one_byte p b mask few e =
    let whole : mask % 256 ≡ mask = omega (arith, few) in
    ap (bit_and p) (sym whole) ∙ e ∙ ap (bit_and (b % 256)) whole ∙ sym (low_bits b mask 8 (λ n le. omega (arith, le, few)))

two_bytes : (p q b mask : ℕ) → p < 256 → q < 256 → mask ≤ 65535 → ReadsByte p 1 b mask → ReadsByte q 0 b mask → bit_and (p * 256 + q) mask ≡ bit_and b mask
two_bytes p q b mask small_p small_q few e_p e_q =
    let whole : byte_at 1 mask * 256 + byte_at 0 mask ≡ mask = omega (arith, few) in
    let low : byte_at 1 b * 256 + byte_at 0 b ≡ b % 65536 = omega arith in
    ap (bit_and (p * 256 + q)) (sym whole)
    ∙ block p (byte_at 1 b) (byte_at 1 mask) q (byte_at 0 b) (byte_at 0 mask) small_q (omega arith) (omega arith) e_p e_q
    ∙ (λ i. bit_and (low i) (whole i)) ∙ sym (low_bits b mask 16 (λ n le. omega (arith, le, few)))

four_bytes : (p q r s b mask : ℕ) → p < 256 → q < 256 → r < 256 → s < 256 → mask ≤ 4294967295 →
    ReadsByte p 3 b mask → ReadsByte q 2 b mask → ReadsByte r 1 b mask → ReadsByte s 0 b mask → bit_and (p * 16777216 + q * 65536 + r * 256 + s) mask ≡ bit_and b mask
four_bytes p q r s b mask small_p small_q small_r small_s few e_p e_q e_r e_s =
    let whole : ((byte_at 3 mask * 256 + byte_at 2 mask) * 256 + byte_at 1 mask) * 256 + byte_at 0 mask ≡ mask = omega (arith, few) in
    let low : ((byte_at 3 b * 256 + byte_at 2 b) * 256 + byte_at 1 b) * 256 + byte_at 0 b ≡ b % 4294967296 = omega arith in
    let nested : p * 16777216 + q * 65536 + r * 256 + s ≡ ((p * 256 + q) * 256 + r) * 256 + s = omega arith in
    (λ i. bit_and (nested i) (sym whole i))
    ∙ block ((p * 256 + q) * 256 + r) ((byte_at 3 b * 256 + byte_at 2 b) * 256 + byte_at 1 b) ((byte_at 3 mask * 256 + byte_at 2 mask) * 256 + byte_at 1 mask)
    s (byte_at 0 b) (byte_at 0 mask) small_s (omega arith) (omega arith)
    (block (p * 256 + q) (byte_at 3 b * 256 + byte_at 2 b) (byte_at 3 mask * 256 + byte_at 2 mask) r (byte_at 1 b) (byte_at 1 mask) small_r (omega arith) (omega arith)
    (block p (byte_at 3 b) (byte_at 3 mask) q (byte_at 2 b) (byte_at 2 mask) small_q (omega arith) (omega arith) e_p e_q) e_r) e_s
    ∙ (λ i. bit_and (low i) (whole i)) ∙ sym (low_bits b mask 32 (λ n le. omega (arith, le, few)))

pub be_two : (bytes : List ℕ) → from_be_bytes w16 bytes ≡ get_or bytes 0 0 * 256 + get_or bytes 1 0
be_two bytes = omega arith

le_two : (bytes : List ℕ) → from_le_bytes w16 bytes ≡ get_or bytes 1 0 * 256 + get_or bytes 0 0
le_two bytes = omega arith

be_four : (bytes : List ℕ) → from_be_bytes w32 bytes ≡ get_or bytes 0 0 * 16777216 + get_or bytes 1 0 * 65536 + get_or bytes 2 0 * 256 + get_or bytes 3 0
be_four bytes = omega arith

le_four : (bytes : List ℕ) → from_le_bytes w32 bytes ≡ get_or bytes 3 0 * 16777216 + get_or bytes 2 0 * 65536 + get_or bytes 1 0 * 256 + get_or bytes 0 0
le_four bytes = omega arith

-- a field is read alike where each of its bytes is
pub reads_alike : (k : FieldType) (bytes : List ℕ) (b mask : ℕ) → mask ≤ full_mask k → ((i : ℕ) → i < width k → get_or bytes i 0 < 256) →
    ((i : ℕ) → i < width k → ReadsByte (get_or bytes i 0) (byte_number k i) b mask) → bit_and (raw k bytes) mask ≡ bit_and b mask
reads_alike U8 bytes b mask few small e = one_byte (get_or bytes 0 0) b mask few (e 0 (omega arith))
reads_alike I8 bytes b mask few small e = one_byte (get_or bytes 0 0) b mask few (e 0 (omega arith))
reads_alike U16Be bytes b mask few small e =
    ap (λ n. bit_and n mask) (be_two bytes) ∙ two_bytes (get_or bytes 0 0) (get_or bytes 1 0) b mask (small 0 (omega arith)) (small 1 (omega arith)) few (e 0 (omega arith)) (e 1 (omega arith))
reads_alike I16Be bytes b mask few small e =
    ap (λ n. bit_and n mask) (be_two bytes) ∙ two_bytes (get_or bytes 0 0) (get_or bytes 1 0) b mask (small 0 (omega arith)) (small 1 (omega arith)) few (e 0 (omega arith)) (e 1 (omega arith))
reads_alike U16Le bytes b mask few small e =
    ap (λ n. bit_and n mask) (le_two bytes) ∙ two_bytes (get_or bytes 1 0) (get_or bytes 0 0) b mask (small 1 (omega arith)) (small 0 (omega arith)) few (e 1 (omega arith)) (e 0 (omega arith))
reads_alike I16Le bytes b mask few small e =
    ap (λ n. bit_and n mask) (le_two bytes) ∙ two_bytes (get_or bytes 1 0) (get_or bytes 0 0) b mask (small 1 (omega arith)) (small 0 (omega arith)) few (e 1 (omega arith)) (e 0 (omega arith))
reads_alike U32Be bytes b mask few small e =
    ap (λ n. bit_and n mask) (be_four bytes) ∙ four_bytes (get_or bytes 0 0) (get_or bytes 1 0) (get_or bytes 2 0) (get_or bytes 3 0) b mask
    (small 0 (omega arith)) (small 1 (omega arith)) (small 2 (omega arith)) (small 3 (omega arith)) few (e 0 (omega arith)) (e 1 (omega arith)) (e 2 (omega arith)) (e 3 (omega arith))
reads_alike I32Be bytes b mask few small e =
    ap (λ n. bit_and n mask) (be_four bytes) ∙ four_bytes (get_or bytes 0 0) (get_or bytes 1 0) (get_or bytes 2 0) (get_or bytes 3 0) b mask
    (small 0 (omega arith)) (small 1 (omega arith)) (small 2 (omega arith)) (small 3 (omega arith)) few (e 0 (omega arith)) (e 1 (omega arith)) (e 2 (omega arith)) (e 3 (omega arith))
reads_alike U32Le bytes b mask few small e =
    ap (λ n. bit_and n mask) (le_four bytes) ∙ four_bytes (get_or bytes 3 0) (get_or bytes 2 0) (get_or bytes 1 0) (get_or bytes 0 0) b mask
    (small 3 (omega arith)) (small 2 (omega arith)) (small 1 (omega arith)) (small 0 (omega arith)) few (e 3 (omega arith)) (e 2 (omega arith)) (e 1 (omega arith)) (e 0 (omega arith))
reads_alike I32Le bytes b mask few small e =
    ap (λ n. bit_and n mask) (le_four bytes) ∙ four_bytes (get_or bytes 3 0) (get_or bytes 2 0) (get_or bytes 1 0) (get_or bytes 0 0) b mask
    (small 3 (omega arith)) (small 2 (omega arith)) (small 1 (omega arith)) (small 0 (omega arith)) few (e 3 (omega arith)) (e 2 (omega arith)) (e 1 (omega arith)) (e 0 (omega arith))
