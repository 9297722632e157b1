-- The lines of the packets with a fault so far are written.
use Rattle.std.proofs.Common.{take, flat_map}
use Rattle.std.specs.Fmt.{HasWritten, IsPlainFormatter}
use Rattle.packet_archive.specs.Said.{fault_line}
use Rattle.packet_archive.proofs.said.FaultLinesDisplay.fmt.Given as goal

abbrev pub invariant-loop-faulty : goal.invariant-loop-faulty
invariant-loop-faulty g l =
    IsPlainFormatter l.initial.f → HasWritten g.W.Write.write_str_gives l.initial.f (flat_map (fault_line l.initial.self.name.now) (take l.faulty-index l.initial.self.first.now)) l.f
