use Rattle.std.proofs.Common.{ap}
use Rattle.app_host.specs.Step.{input_by}
use Rattle.app_host.proofs.Stepping.{filed_so}
use Rattle.app_host.proofs.Boxes.{filed}
use Rattle.app_host.proofs.host.Host.handle.Goals as goal

pub returns-in-File-clause-handled : goal.returns-in-File-clause-handled
returns-in-File-clause-handled g c = filed_so _ _ _ _ c.store_file.result c.in-File.name.now c.in-File.bytes.now _ (ap input_by c.in-File.is) c.store_file.ensures.handled

pub returns-in-File-clause-gone : goal.returns-in-File-clause-gone
returns-in-File-clause-gone g c = filed _ _ c.in-File.name c.in-File.bytes _ c.in-File.is
