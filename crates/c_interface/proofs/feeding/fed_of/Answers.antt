use Rattle.std.proofs.Common.{subst, sym}
use Rattle.flight_core.specs.Feeding.{IsReady, feeding_of}
use Rattle.c_interface.specs.Feeding.{IsFed}
use Rattle.c_interface.specs.Lasting.{lasting_meaning}
use Rattle.c_interface.proofs.feeding.fed_of.Goals as goal

pub returns-in-Ok-new-clause-ready : goal.returns-in-Ok-new-clause-ready
returns-in-Ok-new-clause-ready c =
    subst IsFed (sym c.in-Ok-new.ensures.ok) (subst (λ host. IsReady (feeding_of lasting_meaning host)) (sym c.new_unchecked.ensures) c.in_ok-host.ensures.ready)

pub close_fed-requires : goal.close_fed-requires
close_fed-requires c =
    subst IsFed (sym c.in-Err.ensures.value_returned) (subst (λ host. IsReady (feeding_of lasting_meaning host)) (sym c.new_unchecked.ensures) c.in_ok-host.ensures.ready)
