use Rattle.std.proofs.Common.{subst, sym}
use Rattle.c_interface.specs.Feeding.{FedWasClosed, IsFed}
use Rattle.c_interface.proofs.feeding.close_all.Goals as goal

pub close_fed-requires : goal.close_fed-requires
close_fed-requires c = subst IsFed (sym c.into_inner.ensures) c.requires

pub returns : goal.returns
returns c = subst FedWasClosed c.into_inner.ensures c.close_fed.ensures
