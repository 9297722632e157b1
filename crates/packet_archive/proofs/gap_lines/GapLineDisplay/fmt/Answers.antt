use Rattle.std.proofs.Common.{append_assoc}
use Rattle.packet_archive.proofs.gap_lines.GapLineDisplay.fmt.Goals as goal

pub returns-in-Some-clause-writes : goal.returns-in-Some-clause-writes
returns-in-Some-clause-writes g c = rw c.in-Some.is (simp append_assoc c.write.ensures.writes)
