-- What rule texts declare, by its names, with what a scenario has said of it. This project's own.
use Rattle.std.specs.Prelude.{ℕ, ◌+◌, ◌%◌, List}
use Rattle.lc_model.specs.Packet.{count_end}
use Rattle.lc_model.specs.declared.field.FieldType.{FieldType}
use Rattle.stream_script.specs.Telemetry.{telemetry_line}

-- a packet, with the sequence count of its next line and its current payload
pub record NamedPacket : Type 0 where
  pub name : List ℕ
  pub mid : ℕ
  pub count : ℕ
  pub payload : List ℕ

-- a field of the packet of a name: its type, its offset in the packet, and the bits that are its own
pub record NamedField : Type 0 where
  pub name : List ℕ
  pub packet : List ℕ
  pub kind : FieldType
  pub offset : ℕ
  pub mask : ℕ

-- a rule, with its text's number and its own number in it
pub record NamedRule : Type 0 where
  pub name : List ℕ
  pub text : ℕ
  pub number : ℕ

-- the packet with its sequence count incremented
abbrev pub counted_on : NamedPacket → NamedPacket
counted_on p = record { name = p.name; mid = p.mid; count = (p.count + 1) % count_end; payload = p.payload }

-- the packet with this payload
abbrev pub with_payload : List ℕ → NamedPacket → NamedPacket
with_payload payload p = record { name = p.name; mid = p.mid; count = p.count; payload = payload }

-- the line of the next packet, with all values that its fields have by now
abbrev pub packet_line : NamedPacket → List ℕ
packet_line p = telemetry_line p.mid p.count p.payload
