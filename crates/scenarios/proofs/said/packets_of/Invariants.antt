-- Those so far are the same.
use Rattle.std.proofs.Common.{◌≡◌, take}
use Rattle.scenarios.proofs.said.packets_of.Given as goal

abbrev pub invariant-loop-packet : goal.invariant-loop-packet
invariant-loop-packet l = l.own.items ≡ take l.packet-index l.packets
