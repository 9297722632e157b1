use Rattle.packet_archive.proofs.Exports.{exports_in_pieces}
use Rattle.packet_archive.proofs.laws.exports_in_pieces.Goals as goal

pub returns : goal.returns
returns c = exports_in_pieces
