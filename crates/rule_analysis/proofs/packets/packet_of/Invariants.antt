use Rattle.std.proofs.Common.{◌≡◌, ◌<◌, ℕ, length}
use Rattle.std.specs.Prelude.{slice_index}
use Rattle.rule_analysis.specs.Laid.{packet_byte}
use Rattle.rule_analysis.proofs.packets.packet_of.Given as goal

abbrev pub invariant-loop-place : goal.invariant-loop-place
invariant-loop-place l = (length l.packet.items ≡ l.place)
    × ((k : ℕ) → k < l.place → slice_index l.packet.items k ≡ packet_byte l.chosen l.mid l.size k)
