use Rattle.std.proofs.Common.{None}
use Rattle.app_host.proofs.Found.{placed_at}
use Rattle.app_host.proofs.Begun.{placed_there}
use Rattle.app_host.proofs.succession.begin_at.Goals as goal

pub returns-clause-started : goal.returns-clause-started
returns-clause-started g c =
    placed_there _ _ c.args.seats.now c.index.result c.args.seat _ None c.index.ensures.value c.index.ensures.below c.told-seats c.begin_in.ensures

pub returns-clause-others : goal.returns-clause-others
returns-clause-others g c = placed_at _ c.args.seats.now c.index.result c.args.seat _ None c.index.ensures.value c.index.ensures.below c.told-seats
