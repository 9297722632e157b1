-- What a line of a scenario says: lines of a plain script. This project's own.
use Rattle.std.specs.Prelude.{ℕ, ◌+◌, ◌==◌, length, Bool, List, [], ◌∷◌, ◌++◌, codes, bytes_eq, slice_get, Option, Some, None, Result, Ok, Err, if◌then◌else◌, drop}
use Rattle.std.specs.List.{before_first, position_or_len}
use Rattle.scenarios.specs.declared.error.Reason.{Reason}
use Rattle.scenarios.specs.declared.error.Reason.TheVariants.{NoField, OtherField, TwoValues, Unbegun, UnknownField}
use Rattle.scenarios.specs.declared.line.Given.{Given}
use Rattle.scenarios.specs.declared.force.ForceChange.{ForceChange}
use Rattle.scenarios.specs.Error.{◌>>=◌}
use Rattle.scenarios.specs.Named.{NamedField, NamedRule}
use Rattle.scenarios.specs.Number.{value_in}
use Rattle.scenarios.specs.Orders.{filter_line, mode_line, state_line}
use Rattle.scenarios.specs.Ramp.{ramp_lines, some_field}
use Rattle.scenarios.specs.Rules.{force_at}
use Rattle.scenarios.specs.Said.{Said, field_place, lined, packet_place, reads_value, with_packet, with_value}
use Rattle.scenarios.specs.Words.{is_plain, words_behind}

-- ---- `PACKET {FIELD=VALUE}`

-- the sign between a field's name and its value
abbrev pub is_equals : ℕ → Bool
is_equals byte = byte == 61

-- a field has to be of the packet of this name
abbrev pub own_field : List ℕ → Option NamedField → Result (Unit {0}) Reason
own_field packet None = Err UnknownField
own_field packet (Some f) = if bytes_eq f.packet packet then Ok tt else Err OtherField

-- the field of this name, by its place, and the value of this word
abbrev pub field_given : (packet name value : List ℕ) → List NamedField → Result Given Reason
field_given packet name value fields = do
  place ← some_field (field_place name fields)
  own ← own_field packet (slice_get fields place)
  z ← value_in value
  Ok (record { field = place; value = z })

-- the same for a value after `=`
abbrev pub given_by : (packet name : List ℕ) → List ℕ → List NamedField → Result Given Reason
given_by packet name [] fields = Err NoField
given_by packet name (sign ∷ value) fields = field_given packet name value fields

-- FIELD=VALUE: what a word gives to a field of this packet
abbrev pub given_in : List ℕ → List ℕ → List NamedField → Result Given Reason
given_in packet word fields = given_by packet (before_first is_equals word) (drop (position_or_len is_equals word) word) fields

-- what a word gives, written into the packet
abbrev pub assigned : List ℕ → List ℕ → Said → Result Said Reason
assigned packet word said = do
  given ← given_in packet word said.fields
  with_value given.field given.value said

-- what all words give, in order
abbrev pub all_assigned : List ℕ → List (List ℕ) → Said → Result Said Reason
all_assigned packet [] said = Ok said
all_assigned packet (word ∷ words) said = assigned packet word said >>= all_assigned packet words

-- What a word gives is what the field reads in the packet at this place, once all words are written. Where it is not, another word
-- of the line gave one of the field's bits another value.
abbrev pub kept_by : ℕ → Said → Given → Result (Unit {0}) Reason
kept_by place said given = if reads_value place given.field given.value said then Ok tt else Err TwoValues

abbrev pub kept : ℕ → (packet word : List ℕ) → Said → Result (Unit {0}) Reason
kept place packet word said = given_in packet word said.fields >>= kept_by place said

-- the same of all words
abbrev pub all_kept : ℕ → List ℕ → List (List ℕ) → Said → Result (Unit {0}) Reason
all_kept place packet [] said = Ok tt
all_kept place packet (word ∷ words) said = kept place packet word said >>= (λ (one : Unit {0}). all_kept place packet words said)

-- the packet at this place, once these fields have their values
abbrev pub packet_said : ℕ → ℕ → List ℕ → List (List ℕ) → Said → Result Said Reason
packet_said n place packet words said = do
  there ← all_assigned packet words said
  all ← all_kept place packet words there
  with_packet n place there

-- ---- by the first word

-- the words of an order in a line of their own
abbrev pub order_said : ℕ → Result (List ℕ) Reason → Said → Result Said Reason
order_said n (Err reason) said = Err reason
order_said n (Ok line) said = lined n line said

-- a line of a plain script: its words as they stand
abbrev pub plain_said : ℕ → List ℕ → List (List ℕ) → Said → Result Said Reason
plain_said n verb words said = lined n (verb ++ words_behind words) said

-- a line that begins with none of the words of a plain script, and with no packet's name
abbrev pub other_said : List NamedRule → List ForceChange → ℕ → List ℕ → List (List ℕ) → Said → Result Said Reason
other_said rules changes n verb words said =
    if bytes_eq verb (codes "mode") then order_said n (mode_line words) said
    else if bytes_eq verb (codes "state") then order_said n (state_line rules (force_at changes (length said.lines + 1)) words) said
    else if bytes_eq verb (codes "filter") then order_said n (filter_line words) said
    else if bytes_eq verb (codes "}") then Err Unbegun
    else plain_said n verb words said

-- a line that begins with none of the words of a plain script
abbrev pub named_said : List NamedRule → List ForceChange → ℕ → List ℕ → List (List ℕ) → Said → Option ℕ → Result Said Reason
named_said rules changes n verb words said None = other_said rules changes n verb words said
named_said rules changes n verb words said (Some place) = packet_said n place verb words said

-- a line that says something
abbrev pub verb_said : List NamedRule → List ForceChange → ℕ → List ℕ → List (List ℕ) → Said → Result Said Reason
verb_said rules changes n verb words said =
    if is_plain verb then plain_said n verb words said
    else if bytes_eq verb (codes "ramp") then ramp_lines n words said
    else named_said rules changes n verb words said (packet_place verb said.packets)

-- the line of this number, with these words
abbrev pub line_said : List NamedRule → List ForceChange → ℕ → List (List ℕ) → Said → Result Said Reason
line_said rules changes n [] said = lined n [] said
line_said rules changes n (verb ∷ words) said = verb_said rules changes n verb words said
