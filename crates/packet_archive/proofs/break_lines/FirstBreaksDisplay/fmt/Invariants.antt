-- The lines of the breaks in time so far are written.
use Rattle.std.proofs.Common.{take, flat_map}
use Rattle.std.specs.Fmt.{HasWritten, IsPlainFormatter}
use Rattle.packet_archive.specs.Said.{break_line}
use Rattle.packet_archive.proofs.break_lines.FirstBreaksDisplay.fmt.Given as goal

abbrev pub invariant-loop-found : goal.invariant-loop-found
invariant-loop-found g l =
    IsPlainFormatter l.initial.f → HasWritten g.W.Write.write_str_gives l.initial.f (flat_map (break_line l.initial.self.name.now) (take l.found-index l.initial.self.first.now)) l.f
