-- The lines of the message ids so far are written.
use Rattle.std.proofs.Common.{take, flat_map}
use Rattle.std.specs.Fmt.{HasWritten, IsPlainFormatter}
use Rattle.packet_archive.specs.Said.{meant_line}
use Rattle.packet_archive.proofs.nothing_lines.MeantLinesDisplay.fmt.Given as goal

abbrev pub invariant-loop-mid : goal.invariant-loop-mid
invariant-loop-mid g l =
    IsPlainFormatter l.initial.f → HasWritten g.W.Write.write_str_gives l.initial.f (flat_map meant_line (take l.mid-index l.initial.self.0.now)) l.f
