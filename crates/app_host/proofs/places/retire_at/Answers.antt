use Rattle.std.proofs.Common.{refl}
use Rattle.app_host.specs.Left.{LeftBy}
use Rattle.app_host.proofs.Departed.{emptied, left_there}
use Rattle.app_host.proofs.places.retire_at.Goals as goal

pub returns-clause-gone : goal.returns-clause-gone
returns-clause-gone g c = emptied _ c.args.seats.now c.index.result c.args.seat _ c.index.ensures.value refl c.retire_in.ensures.gone

pub returns-clause-left : goal.returns-clause-left
returns-clause-left g c =
    left_there _ (λ place. LeftBy c.args.seat c.args.services.now c.retire_in.new.services place) c.args.seats.now c.index.result c.args.seat c.index-seats-index.result c.index.ensures.value c.index.ensures.below
    c.told-seats c.retire_in.ensures.left
