use Rattle.packet_archive.proofs.GivenBack.{imports_are_given_back}
use Rattle.packet_archive.proofs.laws.imports_are_given_back.Goals as goal

pub returns : goal.returns
returns c = imports_are_given_back
