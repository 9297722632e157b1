-- The warnings of what is declared: fields and packets that no rule uses, message ids and bits that two of them have, events that
-- are off, and sequences that are requested twice. This project's own.
use Rattle.std.specs.Prelude.{ℕ, Bool, true, false, not, ◌&&◌, ◌||◌, ◌==◌, if◌then◌else◌, nat_lt, List, [], ◌∷◌, ◌++◌, find, flat_map, bytes_eq, bit_and, Option, Some, None, option_map, pos}
use Rattle.std.specs.List.{list_any}
use Rattle.std.specs.Ordering.{int_eq}
use Rattle.lc_model.specs.declared.field.CmpOp.TheVariants as operator
use Rattle.lc_model.specs.declared.rule.EventKind.{EventKind}
use Rattle.lc_model.specs.declared.rule.EventKind.TheVariants as event
use Rattle.lc_model.specs.Codes.{type_code}
use Rattle.lc_model.specs.Text.Syntax.{PacketItem, FieldItem, RuleItem, Item, Packet, Field, Rule}
use Rattle.lc_model.specs.Text.Meaning.{packet_named, term_of}
use Rattle.rule_analysis.specs.declared.fields.Field as read
use Rattle.rule_analysis.specs.Bits.{bits_read, reads_some}
use Rattle.rule_analysis.specs.Fields.{field_read}
use Rattle.analysis_listing.specs.Compared.{compares}
use Rattle.rule_lints.specs.declared.fields.DeclaredField.{DeclaredField}
use Rattle.rule_lints.specs.declared.lint.Lint.{Lint}
use Rattle.rule_lints.specs.declared.lint.Lint.TheVariants as lint
use Rattle.rule_lints.specs.declared.warning.Warning.{Warning}

-- ---- what rules use

-- the item is a rule that does
abbrev pub uses_field : List ℕ → Item → Bool
uses_field name (Packet p) = false
uses_field name (Field f) = false
uses_field name (Rule r) = compares name r.condition

-- some rule compares the field of this name
abbrev pub is_field_used : List Item → List ℕ → Bool
is_field_used items name = list_any (uses_field name) items

-- the item is a field of the packet of this name, and some rule compares it
abbrev pub uses_packet : List Item → List ℕ → Item → Bool
uses_packet items name (Packet p) = false
uses_packet items name (Field f) = bytes_eq f.packet.text name && is_field_used items f.name.text
uses_packet items name (Rule r) = false

-- some rule compares a field of the packet of this name
abbrev pub is_packet_used : List Item → List ℕ → Bool
is_packet_used items name = list_any (uses_packet items name) items

-- ---- packets

-- the item is a packet at a lesser place with the message id of this one
abbrev pub has_id_before : PacketItem → Item → Bool
has_id_before p (Packet other) = int_eq other.mid.value p.mid.value && nat_lt other.name.at p.name.at
has_id_before p (Field f) = false
has_id_before p (Rule r) = false

-- a packet before it has the same message id
abbrev pub is_id_taken : List Item → PacketItem → Bool
is_id_taken items p = list_any (has_id_before p) items

-- ---- fields that share bits

-- the bits of a packet that each comparison with a field reads
abbrev pub bits_of : FieldItem → PacketItem → read.Field
bits_of f p = field_read (term_of f operator.Equal (record { at = 0; value = pos 0 }) p)

-- a field with the place of its name, and the bits of its packet that it has
abbrev pub declared_in : List Item → FieldItem → Option DeclaredField
declared_in items f = option_map (λ p. record { at = f.name.at; bits = bits_of f p }) (packet_named items f.packet)

abbrev pub as_list : Option DeclaredField → List DeclaredField
as_list None = []
as_list (Some f) = f ∷ []

-- the field that an item declares
abbrev pub field_in : List Item → Item → List DeclaredField
field_in items (Packet p) = []
field_in items (Field f) = as_list (declared_in items f)
field_in items (Rule r) = []

abbrev pub fields_of : List Item → List DeclaredField
fields_of items = flat_map (field_in items) items

-- the two have one type and offset, and the mask of one contains the other's: a word and some of its bits, or one field twice
abbrev pub is_word_and_part : (f g : read.Field) → Bool
is_word_and_part f g =
    (type_code f.kind == type_code g.kind) && (f.offset == g.offset)
    && ((bit_and f.mask g.mask == f.mask) || (bit_and f.mask g.mask == g.mask))

-- packets of one message id have bits that both read, without need
abbrev pub overlap : (f g : read.Field) → Bool
overlap f g = (f.mid == g.mid) && not (is_word_and_part f g) && reads_some (bits_read f) g

-- the second field stands at a lesser place, and the two overlap
abbrev pub overlaps_before : DeclaredField → DeclaredField → Bool
overlaps_before f other = nat_lt other.at f.at && overlap other.bits f.bits

-- the first of these fields that stands before this one and overlaps it
abbrev pub overlapped_by : List DeclaredField → DeclaredField → Option DeclaredField
overlapped_by fields f = find (overlaps_before f) fields

-- ---- rules

abbrev pub is_debug : EventKind → Bool
is_debug event.Debug = true
is_debug event.Information = false
is_debug event.Error = false
is_debug event.Critical = false

-- the item is a rule at a lesser place that requests the sequence of this one
abbrev pub requests_before : RuleItem → Item → Bool
requests_before r (Packet p) = false
requests_before r (Field f) = false
requests_before r (Rule other) = int_eq other.sequence.value r.sequence.value && nat_lt other.sequence.at r.sequence.at

-- a rule before it requests the same sequence
abbrev pub is_requested_before : List Item → RuleItem → Bool
is_requested_before items r = list_any (requests_before r) items

abbrev pub is_rule : Item → Bool
is_rule (Packet p) = false
is_rule (Field f) = false
is_rule (Rule r) = true

-- ---- warnings

-- this warning, where the test holds
abbrev pub warn_if : Bool → Lint → (at about : ℕ) → List Warning
warn_if test which place number = if test then record { lint = which; at = place; about = number } ∷ [] else []

-- this warning, if there is another field that it is about
abbrev pub warn_by : Lint → (at : ℕ) → Option DeclaredField → List Warning
warn_by which place None = []
warn_by which place (Some other) = record { lint = which; at = place; about = other.at } ∷ []

abbrev pub of_overlap : List DeclaredField → Option DeclaredField → List Warning
of_overlap fields None = []
of_overlap fields (Some f) = warn_by lint.OverlappingFields f.at (overlapped_by fields f)

abbrev pub of_packet : List Item → PacketItem → List Warning
of_packet items p =
    warn_if (not (is_packet_used items p.name.text)) lint.UnusedPacket p.name.at 0
    ++ warn_if (is_id_taken items p) lint.SameMessageId p.name.at 0

abbrev pub of_field : List Item → FieldItem → List Warning
of_field items f =
    warn_if (not (is_field_used items f.name.text)) lint.UnusedField f.name.at 0
    ++ of_overlap (fields_of items) (declared_in items f)

abbrev pub of_rule : List Item → RuleItem → List Warning
of_rule items r =
    warn_if (is_debug r.event_kind) lint.DebugEvent r.name.at 0
    ++ warn_if (is_requested_before items r) lint.SameSequence r.sequence.at 0

-- those of an item
abbrev pub of_item : List Item → Item → List Warning
of_item items (Packet p) = of_packet items p
of_item items (Field f) = of_field items f
of_item items (Rule r) = of_rule items r

-- the warnings of all items of a text, in its order; the warning that there is no rule comes first, at the text's end
abbrev pub declared : List Item → ℕ → List Warning
declared items end = warn_if (not (list_any is_rule items)) lint.NoRules end 0 ++ flat_map (of_item items) items
