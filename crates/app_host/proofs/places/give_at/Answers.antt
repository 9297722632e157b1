use Rattle.std.proofs.Common.{None}
use Rattle.app_host.specs.Objects.{IfBoth, HasAnswered}
use Rattle.app_host.proofs.Found.{placed_at, both_placed}
use Rattle.app_host.proofs.places.give_at.Goals as goal

pub returns-clause-answered : goal.returns-clause-answered
returns-clause-answered g c =
    both_placed _ (λ old new. IfBoth old new (HasAnswered c.args.seat c.args.packet.now c.args.services.now c.give_in.new.services)) c.args.seats.now c.index.result c.args.seat c.index-seats-index.result _ None
    c.index.ensures.value c.index.ensures.below c.told-seats c.give_in.ensures

pub returns-clause-others : goal.returns-clause-others
returns-clause-others g c = placed_at _ c.args.seats.now c.index.result c.args.seat _ None c.index.ensures.value c.index.ensures.below c.told-seats
