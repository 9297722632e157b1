use Rattle.std.proofs.Common.{refl, arith}
use Rattle.app_host.proofs.HandedOver.{may_have, handed_over}
use Rattle.lc_model.proofs.Services.TableNames.{tables_are_found}
use Rattle.app_host.proofs.host.Host.hand_over.Goals as goal

pub give_at-requires : goal.give_at-requires
give_at-requires g c = (
  omega arith,
  may_have tables_are_found c.args.packet.now _ c.requires.whole c.requires.quiet c.is_service.ensures c.requires.good c.requires.eight c.args.seat c.requires.only,
)

pub returns-clause-delivered : goal.returns-clause-delivered
returns-clause-delivered g c =
    handed_over tables_are_found c.args.packet.now _ c.requires.whole c.requires.quiet c.is_service.ensures c.requires.good c.requires.eight c.args.seat c.requires.only
    _ c.is_service-2.ensures _ c.give_at.ensures.answered c.give_at.ensures.others refl c.least_ready.ensures.eight refl refl
