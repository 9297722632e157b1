use Rattle.packet_archive.proofs.TicksGoOn.{ticks_go_on}
use Rattle.packet_archive.proofs.laws.ticks_go_on.Goals as goal

pub returns : goal.returns
returns c = ticks_go_on
