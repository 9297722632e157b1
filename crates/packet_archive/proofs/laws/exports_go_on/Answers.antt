use Rattle.packet_archive.proofs.Exports.{exports_go_on}
use Rattle.packet_archive.proofs.laws.exports_go_on.Goals as goal

pub returns : goal.returns
returns c = exports_go_on
