use Rattle.packet_archive.proofs.Pieces.{in_pieces}
use Rattle.packet_archive.proofs.laws.imports_in_pieces.Goals as goal

pub returns : goal.returns
returns c = in_pieces
