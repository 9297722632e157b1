-- The lines of the skipped parts so far are written.
use Rattle.std.proofs.Common.{take, flat_map}
use Rattle.std.specs.Fmt.{HasWritten, IsPlainFormatter}
use Rattle.packet_archive.specs.Said.{part_line}
use Rattle.packet_archive.proofs.said.PartLinesDisplay.fmt.Given as goal

abbrev pub invariant-loop-part : goal.invariant-loop-part
invariant-loop-part g l =
    IsPlainFormatter l.initial.f → HasWritten g.W.Write.write_str_gives l.initial.f (flat_map (part_line l.initial.self.name.now) (take l.part-index l.initial.self.first.now)) l.f
