-- Packets at a place: their values, and their lines.
use Rattle.std.proofs.Common.{◌≡◌, refl, sym, ◌∙◌, ap, ℕ, ◌<◌, List, length, slice_get, slice_index_or, Some}
use Rattle.std.proofs.lemmas.Option.{slice_get_read}
use Rattle.scenarios.specs.Named.{NamedPacket, packet_line}
use Rattle.scenarios.specs.Said.{Said, counted, lined, packet_lined, with_packet}

pub there : (packets : List NamedPacket) (place : ℕ) (packet : NamedPacket) → place < length packets → packet ≡ slice_index_or packets place packet → slice_get packets place ≡ Some packet
there packets place packet inside at = slice_get_read packets (length packets) place packet refl inside at

-- the line of the packet at a place, which is counted
pub with_packet_is : (n place : ℕ) (said next : Said) (packet : NamedPacket) (line : List ℕ) → slice_get said.packets place ≡ Some packet →
    line ≡ packet_line packet → next ≡ counted place packet said → lined n line next ≡ with_packet n place said
with_packet_is n place said next packet line is words same =
    (λ i. lined n (words i) (same i)) ∙ sym (ap (packet_lined n place said) is)
