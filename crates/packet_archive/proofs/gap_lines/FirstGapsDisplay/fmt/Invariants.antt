-- The lines of the gaps so far are written.
use Rattle.std.proofs.Common.{take, flat_map}
use Rattle.std.specs.Fmt.{HasWritten, IsPlainFormatter}
use Rattle.packet_archive.specs.Said.{gap_line}
use Rattle.packet_archive.proofs.gap_lines.FirstGapsDisplay.fmt.Given as goal

abbrev pub invariant-loop-gap : goal.invariant-loop-gap
invariant-loop-gap g l =
    IsPlainFormatter l.initial.f → HasWritten g.W.Write.write_str_gives l.initial.f (flat_map (gap_line l.initial.self.name.now) (take l.gap-index l.initial.self.first.now)) l.f
