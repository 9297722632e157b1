-- Packets in which fields have given bits. This project's own.
use Rattle.std.specs.Prelude.{◌≡◌, ℕ, ◌+◌, ◌-◌, ◌/◌, ◌%◌, ◌≤◌, ◌<◌, ◌==◌, if◌then◌else◌, fold, map, length, List, slice_index, bit_and, bit_or, IsTrue, is_some}
use Rattle.std.specs.List.{AllByRecursion, list_any, zip}
use Rattle.std.specs.declared.vec.Vec.{Vec}
use Rattle.std.specs.Global.{Global}
use Rattle.lc_model.specs.Field.{width}
use Rattle.lc_model.specs.Packet.{longest_packet, message_id, telemetry_header_size}
use Rattle.lc_model.specs.LimitChecker.Watch.{last_packet}
use Rattle.rule_analysis.specs.declared.fields.Field.{Field}
use Rattle.rule_analysis.specs.declared.packets.Chosen.{Chosen}
use Rattle.rule_analysis.specs.Bits.{byte_there, bits_read}
use Rattle.rule_analysis.specs.Came.{history_of}

-- fields and their bits, as far as there are both
abbrev pub chosen_of : List Field → List ℕ → List Chosen
chosen_of fields bits = map (λ (both : Field × ℕ). record { field = both.0; bits = both.1 }) (zip fields bits)

-- the byte at a place, once a chosen field has its bits in it
abbrev pub laid_over : ℕ → ℕ → ℕ → Chosen → ℕ
laid_over mid place byte one = if one.field.mid == mid
    then bit_or (bit_and byte (255 - bits_read one.field place)) (bit_and (byte_there one.field one.bits place) (bits_read one.field place))
    else byte

-- the same for all chosen fields
abbrev pub byte_over : List Chosen → ℕ → ℕ → ℕ
byte_over chosen mid place = fold (laid_over mid place) 0 chosen

-- with the message id, the flags of a whole packet, and the length over it
abbrev pub packet_byte : List Chosen → (mid size place : ℕ) → ℕ
packet_byte chosen mid size place =
    if place == 0 then mid / 256
    else if place == 1 then mid % 256
    else if place == 2 then bit_or (byte_over chosen mid 2) 0xC0
    else if place == 4 then (size - 7) / 256
    else if place == 5 then (size - 7) % 256
    else byte_over chosen mid place

-- a packet has room for the chosen field, if it is one of its own
abbrev pub HasRoom : ℕ → ℕ → Chosen → Type 0
HasRoom mid size one = one.field.mid ≡ mid → one.field.offset + width one.field.kind ≤ longest_packet → one.field.offset + width one.field.kind ≤ size

-- how long the packet of a message id may be
pub record IsSize (chosen : List Chosen) (mid size : ℕ) : Type 0 where
  pub least : telemetry_header_size ≤ size
  pub most : size ≤ longest_packet
  pub room : AllByRecursion (HasRoom mid size) chosen

-- the packet of a message id, with the bits of all chosen fields
pub record IsLaid (chosen : List Chosen) (mid : ℕ) (packet : List ℕ) : Type 0 where
  pub size : IsSize chosen mid (length packet)
  pub bytes : (place : ℕ) → place < length packet → slice_index packet place ≡ packet_byte chosen mid (length packet) place

-- packets with the bits of all chosen fields, one for each message id; the first so many have theirs
pub record AreLaidFor (chosen before : List Chosen) (packets : List (Vec ℕ Global)) : Type 0 where
  pub each : AllByRecursion (λ (packet : Vec ℕ Global). IsLaid chosen (message_id packet.items) packet.items) packets
  pub own : AllByRecursion (λ (packet : Vec ℕ Global). IsTrue (list_any (λ (one : Chosen). one.field.mid == message_id packet.items) before)) packets
  pub all : AllByRecursion (λ (one : Chosen). IsTrue (is_some (last_packet one.field.mid (history_of packets)))) before

-- each field has its packet
abbrev pub AreLaid : List Chosen → List (Vec ℕ Global) → Type 0
AreLaid chosen packets = AreLaidFor chosen chosen packets
