use Rattle.packet_archive.proofs.Places.{each_byte}
use Rattle.packet_archive.proofs.laws.imports_lose_no_byte.Goals as goal

pub returns : goal.returns
returns c = each_byte
