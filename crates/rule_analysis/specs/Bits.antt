-- The bits that a field has in the packets of its message id, and which fields share some. This project's own.
use Rattle.std.specs.Prelude.{◌≡◌, ℕ, ◌+◌, ◌-◌, ◌≤◌, ◌==◌, Bool, false, ◌&&◌, ◌||◌, not, nat_le, nat_lt, if◌then◌else◌, List, IsTrue, bit_and}
use Rattle.std.specs.Int.{byte_at}
use Rattle.std.specs.List.{AllByRecursion, list_any}
use Rattle.lc_model.specs.declared.field.FieldType.{FieldType}
use Rattle.lc_model.specs.declared.field.Term.{Term}
use Rattle.lc_model.specs.Field.{full_mask, is_little, width}
use Rattle.lc_model.specs.Packet.{is_telemetry_mid, longest_packet, reserved_mids}
use Rattle.lc_model.specs.Rule.{NamedRule}
use Rattle.lc_model.specs.Text.Reading.{Reads}
use Rattle.lc_model.specs.Tables.Equation.{mentions}
use Rattle.lc_model.specs.Tables.Image.{numbers_below}
use Rattle.rule_analysis.specs.declared.fields.Field.{Field}
use Rattle.rule_analysis.specs.Fields.{field_read, is_one}

-- ---- where the bits of a field stand

-- the index of the number's byte that is this many bytes after a field's first byte; 0 is the lowest
abbrev pub byte_number : FieldType → ℕ → ℕ
byte_number k behind = if is_little k then behind else width k - 1 - behind

-- the byte that a number has at this place of a packet, written into the field; 0 beside the field
abbrev pub byte_there : Field → ℕ → ℕ → ℕ
byte_there f number place =
    if nat_le f.offset place && nat_lt place (f.offset + width f.kind) then byte_at (byte_number f.kind (place - f.offset)) number else 0

-- the bits that the field reads of the packet's byte at this place
abbrev pub bits_read : Field → ℕ → ℕ
bits_read f place = byte_there f f.mask place

-- ---- which fields share bits

-- the field reads some of these bits, which are given place by place
abbrev pub reads_some : (ℕ → ℕ) → Field → Bool
reads_some bits f = list_any (λ behind. not (bit_and (bits (f.offset + behind)) (bits_read f (f.offset + behind)) == 0)) (numbers_below (width f.kind))

-- the two are different fields of one packet that share a bit
abbrev pub share_a_bit : Field → Field → Bool
share_a_bit f g = (f.mid == g.mid) && not (is_one f g) && reads_some (bits_read f) g

-- the bits of a telemetry packet that its message id, its flags and its length fix: those of its first six bytes, without the
-- sequence count's
abbrev pub header_bits : ℕ → ℕ
header_bits place = if place == 2 then 0xC0 else if nat_lt place 6 && not (place == 3) then 0xFF else 0

-- of the fields that the terms read two share a bit, or one shares a bit with the header of its packets
abbrev pub share_bits : List Term → Bool
share_bits terms = list_any (λ t. reads_some header_bits (field_read t) || list_any (λ u. share_a_bit (field_read u) (field_read t)) terms) terms

-- ---- fields as rule texts have them

-- the term reads packets that a stream may bring, before the end of the longest one, and its mask has bits of its type
pub record ReadsTelemetry (t : Term) : Type 0 where
  pub mid : IsTrue (is_telemetry_mid t.mid)
  pub free : list_any (◌==◌ t.mid) reserved_mids ≡ false
  pub end : t.offset + width t.kind ≤ longest_packet
  pub mask : t.mask ≤ full_mask t.kind

-- each comparison of a valid text does the same
abbrev pub TextsReadTelemetry : Type 0
TextsReadTelemetry = (text : List ℕ) (rules : List NamedRule) → Reads text rules →
    AllByRecursion (λ (rule : NamedRule). AllByRecursion ReadsTelemetry (mentions rule.action.condition)) rules
