-- Which fields share bits, computed.
use Rattle.std.proofs.Common.{◌≡◌, ℕ, true, false, [], ◌∷◌, refl}
use Rattle.std.specs.Prelude.{pos}
use Rattle.lc_model.specs.declared.field.CmpOp.TheVariants.{Less}
use Rattle.lc_model.specs.declared.field.FieldType.{FieldType}
use Rattle.lc_model.specs.declared.field.FieldType.TheVariants.{U8, U16Be, U16Le, I32Be, I32Le}
use Rattle.lc_model.specs.declared.field.Term.{Term}
use Rattle.rule_analysis.specs.Bits.{share_bits}

abbrev reads : FieldType → (mid offset mask : ℕ) → Term
reads kind mid offset mask = record { kind = kind; mid = mid; offset = offset; mask = mask; stale = 0; op = Less; value = pos 5 }

-- a word, and the byte that it begins with
word_and_byte : share_bits (reads U16Be 0x0883 12 0xFFFF ∷ reads U8 0x0883 12 0xFF ∷ []) ≡ true
word_and_byte = refl

-- the same of packets of two message ids
two_packets : share_bits (reads U16Be 0x0883 12 0xFFFF ∷ reads U8 0x0884 12 0xFF ∷ []) ≡ false
two_packets = refl

-- one field twice
one_field : share_bits (reads U16Be 0x0883 12 0xFFFF ∷ reads U16Be 0x0883 12 0xFFFF ∷ []) ≡ false
one_field = refl

-- the two halves of a byte
halves : share_bits (reads U8 0x0883 12 0xF0 ∷ reads U8 0x0883 12 0x0F ∷ []) ≡ false
halves = refl

-- the low byte of a word stands last, or first
high_first : share_bits (reads U16Be 0x0883 12 0x00FF ∷ reads U8 0x0883 12 0xFF ∷ []) ≡ false
high_first = refl

low_first : share_bits (reads U16Le 0x0883 12 0x00FF ∷ reads U8 0x0883 12 0xFF ∷ []) ≡ true
low_first = refl

-- the third byte of four, and the fourth
third_byte : share_bits (reads I32Be 0x0883 12 0x0000FF00 ∷ reads U8 0x0883 14 0x10 ∷ []) ≡ true
third_byte = refl

fourth_byte : share_bits (reads I32Le 0x0883 12 0xFF000000 ∷ reads U8 0x0883 15 0x10 ∷ []) ≡ true
fourth_byte = refl

beside : share_bits (reads I32Be 0x0883 12 0xFFFFFFFF ∷ reads U8 0x0883 16 0xFF ∷ reads U8 0x0883 11 0xFF ∷ []) ≡ false
beside = refl

-- the message id, the sequence count, the flags, and what stands behind the length
message_id : share_bits (reads U16Be 0x0883 0 0xFFFF ∷ []) ≡ true
message_id = refl

sequence_count : share_bits (reads U16Be 0x0883 2 0x3FFF ∷ []) ≡ false
sequence_count = refl

flags : share_bits (reads U16Be 0x0883 2 0x8000 ∷ []) ≡ true
flags = refl

the_length : share_bits (reads U8 0x0883 5 0x01 ∷ []) ≡ true
the_length = refl

behind_it : share_bits (reads U8 0x0883 6 0xFF ∷ []) ≡ false
behind_it = refl
