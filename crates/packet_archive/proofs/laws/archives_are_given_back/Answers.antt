use Rattle.packet_archive.proofs.ArchivesGivenBack.{archives_are_given_back}
use Rattle.packet_archive.proofs.laws.archives_are_given_back.Goals as goal

pub returns : goal.returns
returns c = archives_are_given_back
