use Rattle.std.proofs.Common.{sym, ◌∙◌, ap, refl, Ok}
use Rattle.lc_model.specs.Kept.Executive.{ready_seat}
use Rattle.lc_model.specs.Services.Bus.{seen}
use Rattle.app_host.specs.declared.services.Services.{Services}
use Rattle.app_host.proofs.FirstPublished.{is_published}
use Rattle.app_host.proofs.PassedOn.{whole_mid, light_after, load_after, published_so, ok_holds, offered_passes, responds_cut, responds_end}
use Rattle.app_host.proofs.HandedOver.{ready_first, offered_first, handing_first}
use Rattle.app_host.proofs.Draining.{draining_first, draining_next, draining_cut, draining_end, responds_short, cut_short}
use Rattle.lc_model.proofs.Services.TableNames.{tables_are_found}
use Rattle.app_host.proofs.host.Host.pass_on.Goals as goal
use Rattle.app_host.proofs.host.Host.pass_on.Goals.{in-Some+in_ok-sent-in-Some, in-None}

pub unwrap-requires : goal.unwrap-requires
unwrap-requires g c = is_published c.args.packet.now c.args.self.now.services.bus c.publish_judged.result c.requires.good c.requires.quiet c.publish_judged.ensures.answer

pub loop-next-init : goal.loop-next-init
loop-next-init g c = elim c.match-only_hearer.branch [
  | in-Some+in_ok-sent-in-Some w ↦
      let law = tables_are_found in
      let only = sym c.only_hearer.ensures.only ∙ w.in-Some.is in
      rw (w.self-is, w.out-is, w.sent-is, w.next-is)
      (record {
        first = _;
        offered = offered_first law c.args.packet.now _ c.requires.whole c.requires.quiet c.is_service.ensures c.requires.good c.only_hearer.ensures.eight w.in-Some.seat only;
        far =
            draining_next _ _ _ _ 0 w.in-Some.seat _ _ _
            (handing_first law c.args.packet.now _ c.requires.whole c.requires.quiet c.is_service.ensures c.requires.good c.only_hearer.ensures.eight w.in-Some.seat only _ c.requires.none_yet)
            (ready_first law c.args.packet.now _ c.requires.whole c.requires.quiet c.is_service.ensures c.requires.good c.only_hearer.ensures.eight w.in-Some.seat only)
            w.hand_over-next.ensures.delivered w.flush.ensures.flushed w.in_ok-sent-in-Some.sent w.in_ok-sent-in-Some.ensures.sent;
        next = w.hand_over-next.ensures.next ∙ ap (λ (s : Services). ready_seat (seen s.bus)) (sym w.flush.ensures.flushed.services);
      })
  | in-None w ↦
      let law = tables_are_found in
      let ok = is_published c.args.packet.now c.args.self.now.services.bus w.publish_judged.result c.requires.good c.requires.quiet w.publish_judged.ensures.answer in
      let published = published_so c.args.packet.now _ _ w.publish_judged.result ok w.publish_judged.ensures.published in
      let eight = ok_holds w.publish_judged.result ok w.publish_judged.ensures.eight in
      rw (w.self-is, w.out-is, w.sent-is, w.next-is)
      (record {
        first = _;
        offered = record {
          stock = refl;
          seats = refl;
          is_closed = refl;
          events = refl;
          tables = refl;
          counts = refl;
          moment = refl;
          outgoing = refl;
          published = published;
        };
        far =
            draining_first _ _ (whole_mid law _ _ c.args.packet.now c.requires.whole c.requires.quiet c.is_service.ensures refl refl refl refl refl refl refl refl published)
            (light_after c.args.packet.now c.args.self.now.services.bus _ published eight c.requires.quiet) (load_after c.args.packet.now c.args.self.now.services.bus _ published eight c.requires.quiet)
            c.requires.none_yet;
        next = w.least_ready-next.ensures.least;
      })
]

pub loop-next-preserved : goal.loop-next-preserved
loop-next-preserved g c = record {
  first = c.loop-next.invariant.first;
  offered = c.loop-next.invariant.offered;
  far =
      draining_next _ _ _ _ c.loop-next.sent c.in-Some-next.seat _ _ _ c.loop-next.invariant.far (sym c.loop-next.invariant.next ∙ c.in-Some-next.is)
      c.deliver-next.ensures.delivered c.flush-in-Some-next.ensures.flushed c.in_ok-sent.sent c.in_ok-sent.ensures.sent;
  next = c.deliver-next.ensures.next ∙ ap (λ (s : Services). ready_seat (seen s.bus)) (sym c.flush-in-Some-next.ensures.flushed.services);
}

pub returns-in_err-sent-in-Some-clause-handled : goal.returns-in_err-sent-in-Some-clause-handled
returns-in_err-sent-in-Some-clause-handled g c =
    let law = tables_are_found in
    let only = sym c.only_hearer.ensures.only ∙ c.in-Some.is in
    offered_passes _ _ c.args.packet.now (offered_first law c.args.packet.now _ c.requires.whole c.requires.quiet c.is_service.ensures c.requires.good c.only_hearer.ensures.eight c.in-Some.seat only)
    law c.requires.whole c.requires.quiet c.is_service.ensures _ _ _ c.from_residual.result
    (cut_short _ _ _ _ _ _ _ _ c.from_residual.result c.in_err-sent-in-Some.field-0.0 c.from_residual.ensures.1
    (draining_cut _ _ _ _ 0 c.in-Some.seat _ _ _
    (handing_first law c.args.packet.now _ c.requires.whole c.requires.quiet c.is_service.ensures c.requires.good c.only_hearer.ensures.eight c.in-Some.seat only _ c.requires.none_yet)
    (ready_first law c.args.packet.now _ c.requires.whole c.requires.quiet c.is_service.ensures c.requires.good c.only_hearer.ensures.eight c.in-Some.seat only)
    c.hand_over-next.ensures.delivered c.flush.ensures.flushed c.in_err-sent-in-Some.field-0.0.sent c.in_err-sent-in-Some.ensures.sent))

pub returns-in_err-sent-in-Some-clause-own : goal.returns-in_err-sent-in-Some-clause-own
returns-in_err-sent-in-Some-clause-own g c =
    let law = tables_are_found in
    let only = sym c.only_hearer.ensures.only ∙ c.in-Some.is in
    responds_short _ _ _ _ _ _ c.from_residual.result c.in_err-sent-in-Some.field-0.0 c.from_residual.ensures.1
    (responds_cut _ _ c.args.packet.now (offered_first law c.args.packet.now _ c.requires.whole c.requires.quiet c.is_service.ensures c.requires.good c.only_hearer.ensures.eight c.in-Some.seat only)
    _ _ _ 0 c.in-Some.seat _ _ _
    (handing_first law c.args.packet.now _ c.requires.whole c.requires.quiet c.is_service.ensures c.requires.good c.only_hearer.ensures.eight c.in-Some.seat only _ c.requires.none_yet)
    (ready_first law c.args.packet.now _ c.requires.whole c.requires.quiet c.is_service.ensures c.requires.good c.only_hearer.ensures.eight c.in-Some.seat only)
    c.hand_over-next.ensures.delivered c.flush.ensures.flushed c.in_err-sent-in-Some.field-0.0.sent c.in_err-sent-in-Some.ensures.sent)

pub returns-in_err-sent-clause-handled : goal.returns-in_err-sent-clause-handled
returns-in_err-sent-clause-handled g c =
    offered_passes _ c.loop-next.invariant.first c.args.packet.now c.loop-next.invariant.offered tables_are_found c.requires.whole c.requires.quiet c.is_service.ensures
    _ _ _ c.from_residual-in_err-sent.result
    (cut_short _ _ _ _ _ _ _ _ c.from_residual-in_err-sent.result c.in_err-sent.field-0.0 c.from_residual-in_err-sent.ensures.1
    (draining_cut _ _ _ _ c.loop-next.sent c.in-Some-next.seat _ _ _ c.loop-next.invariant.far (sym c.loop-next.invariant.next ∙ c.in-Some-next.is)
    c.deliver-next.ensures.delivered c.flush-in-Some-next.ensures.flushed c.in_err-sent.field-0.0.sent c.in_err-sent.ensures.sent))

pub returns-in_err-sent-clause-own : goal.returns-in_err-sent-clause-own
returns-in_err-sent-clause-own g c =
    responds_short _ _ _ _ _ _ c.from_residual-in_err-sent.result c.in_err-sent.field-0.0 c.from_residual-in_err-sent.ensures.1
    (responds_cut _ c.loop-next.invariant.first c.args.packet.now c.loop-next.invariant.offered
    _ _ _ c.loop-next.sent c.in-Some-next.seat _ _ _ c.loop-next.invariant.far (sym c.loop-next.invariant.next ∙ c.in-Some-next.is)
    c.deliver-next.ensures.delivered c.flush-in-Some-next.ensures.flushed c.in_err-sent.field-0.0.sent c.in_err-sent.ensures.sent)

pub returns-clause-handled : goal.returns-clause-handled
returns-clause-handled g c =
    offered_passes _ c.loop-next.invariant.first c.args.packet.now c.loop-next.invariant.offered tables_are_found c.requires.whole c.requires.quiet c.is_service.ensures
    _ _ _ (Ok c.loop-next.sent) (draining_end _ _ _ _ _ c.loop-next.invariant.far (sym c.loop-next.invariant.next ∙ c.in_default.is))

pub returns-clause-own : goal.returns-clause-own
returns-clause-own g c =
    responds_end _ c.loop-next.invariant.first c.args.packet.now c.loop-next.invariant.offered _ c.loop-next.sent _ _ c.loop-next.invariant.far
    (sym c.loop-next.invariant.next ∙ c.in_default.is)
