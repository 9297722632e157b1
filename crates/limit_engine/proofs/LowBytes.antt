-- A field among the four bytes that end where it does.
use Rattle.std.proofs.Common.{◌≡◌, sym, ◌∙◌, ap, ℕ, ◌+◌, ◌-◌, ◌*◌, ◌<◌, ◌≤◌, true, List, drop, get_or, slice_range, slice_index, arith}
use Rattle.std.specs.Int.{w16, w32, from_be_bytes}
use Rattle.std.specs.Prelude.{bit_and}
use Rattle.std.specs.Int.Bits.{and_zero_r}
use Rattle.std.proofs.lemmas.Nat.{and_block}
use Rattle.std.proofs.lemmas.List.{get_or-take, get_or-drop}
use Rattle.lc_model.specs.declared.field.FieldType.{FieldType}
use Rattle.lc_model.specs.declared.field.FieldType.TheVariants.{U8, I8, U16Be, U16Le, I16Be, I16Le, U32Be, U32Le, I32Be, I32Le}
use Rattle.lc_model.specs.Field.{width, raw, full_mask}
use Rattle.lc_model.proofs.Facts.{tested_at_most}
use Rattle.limit_engine.specs.Bytes.{is_by_four}

-- the bits above a mask don't count
low_bits_8 : (high low mask : ℕ) → low < 256 → mask < 256 → bit_and (high * 256 + low) mask ≡ bit_and low mask
low_bits_8 high low mask small few =
    let none_above : mask ≡ 0 * 256 + mask = omega arith in
    let split : bit_and (high * 256 + low) mask ≡ bit_and high 0 * 256 + bit_and low mask =
    ap (bit_and (high * 256 + low)) none_above ∙ and_block 8 high 0 low mask small few in
    omega (arith, split, and_zero_r high)

low_bits_16 : (high low mask : ℕ) → low < 65536 → mask < 65536 → bit_and (high * 65536 + low) mask ≡ bit_and low mask
low_bits_16 high low mask small few =
    let none_above : mask ≡ 0 * 65536 + mask = omega arith in
    let split : bit_and (high * 65536 + low) mask ≡ bit_and high 0 * 65536 + bit_and low mask =
    ap (bit_and (high * 65536 + low)) none_above ∙ and_block 16 high 0 low mask small few in
    omega (arith, split, and_zero_r high)

-- a byte of a part
part_at : (bytes : List ℕ) (from to i : ℕ) → i < to - from → get_or (slice_range bytes from to) i 0 ≡ get_or bytes (from + i) 0
part_at bytes from to i inside = get_or-take (to - from) (drop from bytes) i 0 inside ∙ get_or-drop from bytes i 0

module _ (packet : List ℕ) (small : (i : ℕ) → get_or packet i 0 < 256) (need mask : ℕ) (room : 4 ≤ need) where
  at : ℕ → ℕ
  at i = get_or packet (need - 4 + i) 0

  four : ℕ
  four = from_be_bytes w32 (slice_range packet (need - 4) need)

  four_is : four ≡ at 0 * 16777216 + at 1 * 65536 + at 2 * 256 + at 3
  unfolding four at
  four_is =
      omega (arith, part_at packet (need - 4) need 0 (omega (arith, room)), part_at packet (need - 4) need 1 (omega (arith, room)), part_at packet (need - 4) need 2 (omega (arith, room)), part_at packet (need - 4) need 3 (omega (arith, room)))

  -- a byte of the field
  byte_is : (start i j : ℕ) → i < need - start → start + i ≡ need - 4 + j → get_or (slice_range packet start need) i 0 ≡ at j
  unfolding at
  byte_is start i j inside place = part_at packet start need i inside ∙ ap (λ k. get_or packet k 0) place

  small_at : (i : ℕ) → at i < 256
  unfolding at
  small_at i = small (need - 4 + i)

  one_byte : (start : ℕ) → need ≡ start + 1 → mask < 256 → bit_and four mask ≡ bit_and (slice_index (slice_range packet start need) 0) mask
  one_byte start ends few =
      let low : get_or (slice_range packet start need) 0 0 ≡ at 3 = byte_is start 0 3 (omega (arith, ends)) (omega (arith, ends, room)) in
      let whole : four ≡ (at 0 * 65536 + at 1 * 256 + at 2) * 256 + at 3 = omega (arith, four_is) in
      ap (λ n. bit_and n mask) whole ∙ low_bits_8 (at 0 * 65536 + at 1 * 256 + at 2) (at 3) mask (small_at 3) few ∙ ap (λ n. bit_and n mask) (sym low)

  two_bytes : (start : ℕ) → need ≡ start + 2 → mask < 65536 → bit_and four mask ≡ bit_and (from_be_bytes w16 (slice_range packet start need)) mask
  two_bytes start ends few =
      let high : get_or (slice_range packet start need) 0 0 ≡ at 2 = byte_is start 0 2 (omega (arith, ends)) (omega (arith, ends, room)) in
      let low : get_or (slice_range packet start need) 1 0 ≡ at 3 = byte_is start 1 3 (omega (arith, ends)) (omega (arith, ends, room)) in
      let pair : from_be_bytes w16 (slice_range packet start need) ≡ at 2 * 256 + at 3 = omega (arith, high, low) in
      let whole : four ≡ (at 0 * 256 + at 1) * 65536 + (at 2 * 256 + at 3) = omega (arith, four_is) in
      ap (λ n. bit_and n mask) whole ∙ low_bits_16 (at 0 * 256 + at 1) (at 2 * 256 + at 3) mask (omega (arith, small_at 2, small_at 3)) few ∙ ap (λ n. bit_and n mask) (sym pair)

  four_bytes : (start : ℕ) → need ≡ start + 4 → bit_and four mask ≡ bit_and (from_be_bytes w32 (slice_range packet start need)) mask
  unfolding four
  four_bytes start ends =
      let begins : need - 4 ≡ start = omega (arith, ends) in ap (λ from. bit_and (from_be_bytes w32 (slice_range packet from need)) mask) begins

-- its bits that count are theirs
pub counted : (k : FieldType) (packet : List ℕ) → ((i : ℕ) → get_or packet i 0 < 256) → (start need mask : ℕ) → need ≡ start + width k → mask ≤ full_mask k → is_by_four k need ≡ true →
    bit_and (from_be_bytes w32 (slice_range packet (need - 4) need)) mask ≡ bit_and (raw k (slice_range packet start need)) mask
unfolding four
counted U8 packet small start need mask ends few by_four = one_byte packet small need mask (tested_at_most 4 need by_four) start ends (omega (arith, few))
counted I8 packet small start need mask ends few by_four = one_byte packet small need mask (tested_at_most 4 need by_four) start ends (omega (arith, few))
counted U16Be packet small start need mask ends few by_four = two_bytes packet small need mask (tested_at_most 4 need by_four) start ends (omega (arith, few))
counted I16Be packet small start need mask ends few by_four = two_bytes packet small need mask (tested_at_most 4 need by_four) start ends (omega (arith, few))
counted U32Be packet small start need mask ends few by_four = four_bytes packet small need mask (tested_at_most 4 need by_four) start ends
counted I32Be packet small start need mask ends few by_four = four_bytes packet small need mask (tested_at_most 4 need by_four) start ends
counted U16Le packet small start need mask ends few by_four = absurd (cc by_four)
counted I16Le packet small start need mask ends few by_four = absurd (cc by_four)
counted U32Le packet small start need mask ends few by_four = absurd (cc by_four)
counted I32Le packet small start need mask ends few by_four = absurd (cc by_four)
