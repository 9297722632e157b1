-- The fields of table entries, by their offsets. This project's own layout of the tables of the cFS Limit Checker user's guide.
use Rattle.std.specs.Prelude.{ℕ, List, drop, slice_index, slice_range}
use Rattle.lc_model.specs.Bytes.{u16_at, u32_at}

-- ---- a WDT entry: 24 bytes

-- The field type's code.
abbrev pub type_field : List ℕ → ℕ
type_field entry = slice_index entry 0

-- The comparison's code.
abbrev pub operator_field : List ℕ → ℕ
operator_field entry = slice_index entry 1

-- The message id of the watched packets.
abbrev pub mid_field : List ℕ → ℕ
mid_field entry = u16_at entry 2

-- The field's offset in the packet.
abbrev pub offset_field : List ℕ → ℕ
offset_field entry = u32_at entry 4

-- The mask of the field's bits.
abbrev pub mask_field : List ℕ → ℕ
mask_field entry = u32_at entry 8

-- Four bytes that must be 0.
abbrev pub zero_field : List ℕ → ℕ
zero_field entry = u32_at entry 12

-- The stale age.
abbrev pub stale_field : List ℕ → ℕ
stale_field entry = u32_at entry 16

-- The comparison value, in 32 bits.
abbrev pub value_field : List ℕ → ℕ
value_field entry = u32_at entry 20

-- ---- an ADT entry: 86 bytes, or 110 with 32 words

-- The default state's code.
abbrev pub state_field : List ℕ → ℕ
state_field entry = slice_index entry 0

-- The maxima of events 4 (failed while passive), 5 (pass to fail) and 6 (fail to pass).
abbrev pub passive_field : List ℕ → ℕ
passive_field entry = slice_index entry 1

abbrev pub pass_to_fail_field : List ℕ → ℕ
pass_to_fail_field entry = u16_at entry 2

abbrev pub fail_to_pass_field : List ℕ → ℕ
fail_to_pass_field entry = u16_at entry 4

-- The sequence that the rule requests.
abbrev pub sequence_field : List ℕ → ℕ
sequence_field entry = u16_at entry 6

-- The failures in a row that lead to the request.
abbrev pub fails_field : List ℕ → ℕ
fails_field entry = u16_at entry 8

-- The event type's code, and the event id.
abbrev pub event_type_field : List ℕ → ℕ
event_type_field entry = u16_at entry 10

abbrev pub event_id_field : List ℕ → ℕ
event_id_field entry = u16_at entry 12

-- The event's text, filled with zeros.
abbrev pub text_field : List ℕ → List ℕ
text_field entry = slice_range entry 14 46

-- The words of the equation, two bytes each.
abbrev pub words_field : List ℕ → List ℕ
words_field entry = drop 46 entry
