-- What the host reads in the packets that a scenario says. How a host reads is the model's definition; the rest is this project's
-- own.
use Rattle.std.specs.Prelude.{◌≡◌, ℕ, ◌+◌, ◌<◌, ◌^◌, Bool, true, ◌||◌, nat_le, List, ◌++◌, length, slice_index, codes, slice_get, Some, Ok, ℤ}
use Rattle.std.specs.List.{AllByRecursion}
use Rattle.lc_model.specs.declared.field.Term.{Term}
use Rattle.lc_model.specs.declared.record.Moment.{Moment}
use Rattle.lc_model.specs.Field.{value_of, width}
use Rattle.lc_model.specs.Packet.{telemetry}
use Rattle.scenarios.specs.Fields.{is_inside, place_of, reads, value_bits, with_bits}
use Rattle.scenarios.specs.Line.{all_assigned, given_in, packet_said}
use Rattle.scenarios.specs.Named.{NamedField, NamedPacket, packet_line}
use Rattle.scenarios.specs.Said.{Said, with_packet}

-- every number is a byte
abbrev pub AreBytes : List ℕ → Type 0
AreBytes bytes = (i : ℕ) → slice_index bytes i < 256

-- a comparison with this field: its type, its place in the packet, and its mask
pub record ComparesWith (f : NamedField) (t : Term) : Type 0 where
  pub kind : t.kind ≡ f.kind
  pub offset : t.offset ≡ f.offset
  pub mask : t.mask ≡ f.mask

-- the host reads this value of the field in a packet, whatever it is compared with
abbrev pub HostReads : NamedField → ℤ → List ℕ → Type 0
HostReads f z packet = (t : Term) → ComparesWith f t → value_of t packet ≡ Some z

-- a word of a line of the packet with this name gives this value to this field
pub record Gives (name word : List ℕ) (fields : List NamedField) (f : NamedField) (z : ℤ) : Type 0 where
  pub place : ℕ
  pub given : given_in name word fields ≡ Ok (record { field = place; value = z })
  pub field : slice_get fields place ≡ Some f

-- A line says the packet at this place, with each value that the line's words give to a field: the host reads it so, whenever the
-- packet comes.
pub record SaysValues (n place : ℕ) (name : List ℕ) (words : List (List ℕ)) (said after : Said) : Type 0 where
  pub there : Said
  pub written : all_assigned name words said ≡ Ok there
  pub says : with_packet n place there ≡ Ok after
  pub script : (p : NamedPacket) → slice_get there.packets place ≡ Some p → after.script ≡ there.script ++ packet_line p ++ codes "\n"
  pub values : (p : NamedPacket) → slice_get there.packets place ≡ Some p →
      AllByRecursion (λ (word : List ℕ). (f : NamedField) (z : ℤ) → Gives name word there.fields f z → (time : Moment) → HostReads f z (telemetry p.mid p.count time p.payload)) words

-- the law: so does each line of a packet
abbrev pub LinesSayTheirValues : Type 0
LinesSayTheirValues = (n place : ℕ) (name : List ℕ) (words : List (List ℕ)) (said after : Said) →
    packet_said n place name words said ≡ Ok after → SaysValues n place name words said after

-- the law: a value of the type, with bits under the field's mask alone, is read once it is written, whatever stood there
abbrev pub WrittenValuesAreRead : Type 0
WrittenValuesAreRead = (f : NamedField) (z : ℤ) (bits : ℕ) (payload : List ℕ) → f.mask < 2 ^ 32 → AreBytes payload → is_inside f (length payload) ≡ true →
    value_bits f z ≡ Ok bits → reads f z (with_bits f bits payload) ≡ true

-- whether no byte is of both fields
abbrev pub are_apart : NamedField → NamedField → Bool
are_apart f g = nat_le (place_of g + width g.kind) (place_of f) || nat_le (place_of f + width f.kind) (place_of g)

-- the law: a field keeps its value where another is written that has none of its bytes
abbrev pub FieldsApartStay : Type 0
FieldsApartStay = (f g : NamedField) (z : ℤ) (bits : ℕ) (payload : List ℕ) → is_inside f (length payload) ≡ true → are_apart f g ≡ true →
    reads g z (with_bits f bits payload) ≡ reads g z payload
