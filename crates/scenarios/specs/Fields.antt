-- Values of fields in the payload of their packet. A field has the bits of its mask alone, and is read as the host reads it. This
-- project's own.
use Rattle.std.specs.Prelude.{ℕ, Bool, ◌+◌, ◌-◌, not, ◌&&◌, ◌==◌, List, length, nat_le, slice_range, bit_and, bit_or, Result, Ok, Err, ℤ, if◌then◌else◌}
use Rattle.std.specs.Int.{w32, bit_not}
use Rattle.std.specs.Ordering.{int_eq}
use Rattle.lc_model.specs.Field.{field_bytes, full_mask, is_in_type, raw, twos_complement, width}
use Rattle.lc_model.specs.Packet.{telemetry_header_size}
use Rattle.lc_model.specs.Tables.Image.{bits_32}
use Rattle.stream_script.specs.Fields.{written_at}
use Rattle.scenarios.specs.declared.error.Reason.{Reason}
use Rattle.scenarios.specs.declared.error.Reason.TheVariants.{OutsideMask, OutsideType}
use Rattle.scenarios.specs.Named.{NamedField}

-- ---- where a field is

-- its place in a payload, which begins after the headers of telemetry
abbrev pub place_of : NamedField → ℕ
place_of f = f.offset - telemetry_header_size

-- whether it is inside a payload of this size
abbrev pub is_inside : NamedField → ℕ → Bool
is_inside f size = nat_le telemetry_header_size f.offset && nat_le (place_of f + width f.kind) size

-- the bits there
abbrev pub bits_there : NamedField → List ℕ → ℕ
bits_there f payload = raw f.kind (slice_range payload (place_of f) (place_of f + width f.kind))

-- ---- what it reads

-- its value, as the host reads it: the bits under its mask, in two's complement
abbrev pub value_there : NamedField → List ℕ → ℤ
value_there f payload = twos_complement f.kind (bit_and (bits_there f payload) f.mask)

-- whether it reads this value
unfoldable pub reads : NamedField → ℤ → List ℕ → Bool
reads f z payload = is_inside f (length payload) && int_eq (value_there f payload) z

-- ---- how a value is written

-- the bits of a number in the type, in two's complement
abbrev pub bits_of : NamedField → ℤ → ℕ
bits_of f z = bit_and (bits_32 z) (full_mask f.kind)

-- the bits of a value, which has to be of the type, and to have no bits outside the mask
unfoldable pub value_bits : NamedField → ℤ → Result ℕ Reason
value_bits f z =
    if not (is_in_type f.kind z) then Err OutsideType
    else if bit_and (bits_of f z) f.mask == bits_of f z then Ok (bits_of f z)
    else Err OutsideMask

-- bits in the place of those under the mask; all others stay
abbrev pub put_under : (mask bits before : ℕ) → ℕ
put_under mask bits before = bit_or bits (bit_and before (bit_not w32 mask))

-- the payload with these bits under the field's mask
unfoldable pub with_bits : NamedField → ℕ → List ℕ → List ℕ
with_bits f bits payload = written_at (place_of f) (field_bytes f.kind (put_under f.mask bits (bits_there f payload))) payload
