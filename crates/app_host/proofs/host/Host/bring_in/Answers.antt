use Rattle.std.proofs.Common.{refl, arith}
use Rattle.app_host.proofs.Followed.{spare_came, spare_may, same_came}
use Rattle.app_host.proofs.host.Host.bring_in.Goals as goal

pub returns-in-Spare : goal.returns-in-Spare
returns-in-Spare g c =
    spare_came _ _ _ c.remove-app.result _ _ _ c.in-Spare.place c.in-Spare.seat c.args.next c.in-Spare.is c.requires.may refl refl c.remove-app.ensures.value c.remove-app.ensures.items refl refl refl refl
    c.requires.seated c.requires.idle c.requires.spares c.begin.ensures

pub begin-requires : goal.begin-requires
begin-requires g c = (
  omega arith,
  (c.requires.seated, (c.requires.idle, spare_may _ c.args.self.now.stock.items c.remove-app.result _ _ c.in-Spare.place c.in-Spare.seat c.args.next c.in-Spare.is c.requires.may refl c.remove-app.ensures.value refl refl)),
)

pub returns-in-Same : goal.returns-in-Same
returns-in-Same g c = same_came _ c.in-Same.app _ _ c.in-Same.seat c.args.next c.in-Same.is c.requires.spares c.begin-in-Same.ensures
