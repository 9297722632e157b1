use Rattle.std.proofs.Common.{refl, arith, ◌<◌}
use Rattle.app_host.proofs.Delivery.{has_first}
use Rattle.app_host.proofs.Deliver.{is_received, has_size, front_is, may_give, deliver_done}
use Rattle.lc_model.proofs.Services.TableNames.{tables_are_found}
use Rattle.app_host.proofs.host.Host.deliver.Goals as goal

pub unwrap-requires : goal.unwrap-requires
unwrap-requires g c = is_received c.args.self.now.services.bus c.args.seat (has_first _ _ c.requires.ready) c.receive.result c.receive.ensures.answer

pub unwrap-size-requires : goal.unwrap-size-requires
unwrap-size-requires g c =
    has_size c.args.self.now.services.bus c.args.seat (has_first _ _ c.requires.ready) c.receive.result c.unwrap.result c.unwrap.ensures c.receive.ensures.size

pub give_at-requires : goal.give_at-requires
give_at-requires g c = (
  omega arith,
  let has = has_first c.args.self.now.services.bus c.args.seat c.requires.ready in
      let below : c.args.seat < 8 = omega (arith, has.below, c.receive.ensures.eight) in
      may_give tables_are_found c.args.self.now.services _ c.is_service.ensures refl refl refl refl refl c.args.seat has c.receive.ensures.after _ _
      (c.requires.whole.seated.running c.args.seat) c.requires.light below c.requires.whole.idle c.receive.ensures.good
      (front_is c.args.self.now.services.bus c.args.seat has c.receive.result c.unwrap.result c.unwrap-size.result _ c.receive.new.buffer c.unwrap.ensures c.unwrap-size.ensures c.receive.ensures.size c.receive.ensures.buffer),
)

pub returns-clause-delivered : goal.returns-clause-delivered
returns-clause-delivered g c =
    let has = has_first c.args.self.now.services.bus c.args.seat c.requires.ready in
    let below : c.args.seat < 8 = omega (arith, has.below, c.receive.ensures.eight) in
    deliver_done tables_are_found _ _ _ c.args.seat c.requires.whole.seated c.requires.light c.is_service.ensures c.is_service-2.ensures refl refl refl refl refl has
    c.receive.ensures.after below _
    (front_is c.args.self.now.services.bus c.args.seat has c.receive.result c.unwrap.result c.unwrap-size.result _ c.receive.new.buffer c.unwrap.ensures c.unwrap-size.ensures c.receive.ensures.size c.receive.ensures.buffer)
    _ _ refl c.give_at.ensures.answered c.give_at.ensures.others refl c.least_ready.ensures.eight refl refl
