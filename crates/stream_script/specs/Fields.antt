-- Telemetry whose fields are set by type and offset. This project's own; types and offsets are those of rule texts.
use Rattle.std.specs.Prelude.{ℕ, ◌+◌, ◌-◌, ◌&&◌, List, [], ◌∷◌, ◌++◌, length, take, drop, replicate, codes, bytes_eq, nat_le, Option, Some, None, Result, Ok, Err, ℤ, if◌then◌else◌}
use Rattle.lc_model.specs.declared.field.FieldType.{FieldType}
use Rattle.lc_model.specs.Field.{field_bytes, is_in_type, width}
use Rattle.lc_model.specs.Tables.Image.{bits_32}
use Rattle.lc_model.specs.Text.Class.{field_type}
use Rattle.lc_model.specs.Text.Token.{magnitude_text, with_sign}
use Rattle.stream_script.specs.declared.error.Reason.{Reason}
use Rattle.stream_script.specs.declared.error.Reason.TheVariants.{UnknownStatement, BadNumber, UnknownType, OutsidePacket}
use Rattle.stream_script.specs.Error.{◌>>=◌}
use Rattle.stream_script.specs.Number.{number_in}

-- ---- what the words are

-- the type that a word names
abbrev pub some_type : Option FieldType → Result FieldType Reason
some_type None = Err UnknownType
some_type (Some kind) = Ok kind

-- a number that is no greater than 2 ^ 32 - 1 without its sign, which is `-` where it is negative
abbrev pub signed_number : List ℕ → Result ℤ Reason
signed_number word = do
  n ← number_in 4294967295 (magnitude_text word)
  Ok (with_sign (bytes_eq (take 1 word) (codes "-")) n)

-- a number of the type
abbrev pub in_type : FieldType → ℤ → Result ℤ Reason
in_type kind z = if is_in_type kind z then Ok z else Err BadNumber

abbrev pub value_in : FieldType → List ℕ → Result ℤ Reason
value_in kind word = do
  z ← signed_number word
  in_type kind z

-- the bytes behind the headers, of which telemetry has 12
abbrev pub behind_headers : ℕ → Result ℕ Reason
behind_headers size = if nat_le 12 size then Ok (size - 12) else Err BadNumber

-- the size of the payload in a packet of this length
abbrev pub payload_size : List ℕ → Result ℕ Reason
payload_size word = do
  size ← number_in 2048 word
  behind_headers size

-- the place of a field of this type in a payload of this size, from its offset in the packet
abbrev pub place_of : FieldType → ℕ → ℕ → Result ℕ Reason
place_of kind size offset =
    if nat_le 12 offset && nat_le (offset + width kind) (12 + size) then Ok (offset - 12) else Err OutsidePacket

abbrev pub place_in : FieldType → ℕ → List ℕ → Result ℕ Reason
place_in kind size word = do
  offset ← number_in 4294967295 word
  place_of kind size offset

-- ---- fields

-- bytes written over those at a place
abbrev pub written_at : ℕ → List ℕ → List ℕ → List ℕ
written_at place bytes payload = take place payload ++ bytes ++ drop (place + length bytes) payload

-- a payload with this number, in two's complement, in the field of this type at a place
abbrev pub with_value : FieldType → ℕ → ℤ → List ℕ → List ℕ
with_value kind place z payload = written_at place (field_bytes kind (bits_32 z)) payload

-- TYPE OFFSET VALUE: a payload with this field set
abbrev pub field_set : List ℕ → List ℕ → List ℕ → List ℕ → Result (List ℕ) Reason
field_set payload type offset value = do
  kind ← some_type (field_type type)
  place ← place_in kind (length payload) offset
  z ← value_in kind value
  Ok (with_value kind place z payload)

-- a payload with the fields of these words set, one after the other
abbrev pub fields_set : List ℕ → List (List ℕ) → Result (List ℕ) Reason
fields_set payload [] = Ok payload
fields_set payload (type ∷ offset ∷ value ∷ words) = field_set payload type offset value >>= (λ (after : List ℕ). fields_set after words)
fields_set payload words = Err UnknownStatement

-- LENGTH {TYPE OFFSET VALUE}: the payload of a packet of this length, zeros but for the fields
abbrev pub payload_of : List ℕ → List (List ℕ) → Result (List ℕ) Reason
payload_of size words = do
  n ← payload_size size
  fields_set (replicate n 0) words
