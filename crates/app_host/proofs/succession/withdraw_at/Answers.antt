use Rattle.std.proofs.Common.{refl}
use Rattle.app_host.proofs.Departed.{emptied}
use Rattle.app_host.proofs.Boxes.{box_there}
use Rattle.app_host.proofs.succession.withdraw_at.Goals as goal

pub returns-clause-gone : goal.returns-clause-gone
returns-clause-gone g c = emptied _ c.args.seats.now c.index.result c.args.seat _ c.index.ensures.value refl c.withdraw_in.ensures.gone

pub returns-clause-boxes : goal.returns-clause-boxes
returns-clause-boxes g c =
    box_there _ c.args.seats.now c.args.services.now c.withdraw_in.new.services c.withdraw_in.result c.index.result c.args.seat _ c.index.ensures.value c.index.ensures.below c.told-seats c.requires
    c.withdraw_in.ensures.left c.withdraw_in.ensures.same
