use Rattle.std.proofs.Common.{◌≡◌, ◌++◌, take, drop, map}
use Rattle.run_account.specs.Packets.{packet_with}
use Rattle.run_account.proofs.packets.count_packet.Given as goal

abbrev pub invariant-loop-count : goal.invariant-loop-count
invariant-loop-count l = take l.count-index l.counts ++ map (packet_with l.mid) (drop l.count-index l.counts) ≡ map (packet_with l.mid) l.initial.counts
