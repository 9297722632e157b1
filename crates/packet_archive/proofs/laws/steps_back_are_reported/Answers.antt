use Rattle.packet_archive.proofs.Breaks.{steps_back_are_reported}
use Rattle.packet_archive.proofs.laws.steps_back_are_reported.Goals as goal

pub returns : goal.returns
returns c = steps_back_are_reported
