use Rattle.std.proofs.Common.{refl, ◌∙◌, sym}
use Rattle.lc_model.specs.Packet.{lc_housekeeping_mid}
use Rattle.lc_model.specs.Events.Request.{Housekeeping}
use Rattle.app_host.proofs.Sent.{counted_alone, housekeeping_delivered, housekeeping_there, filler}
use Rattle.app_host.proofs.services.Services.send_housekeeping.Goals as goal

pub returns-clause-told : goal.returns-clause-told
returns-clause-told c = λ origin name points are sender.
    counted_alone lc_housekeeping_mid origin name (Housekeeping c.args.mode points) _ c.args.self.now _ sender
    (λ old is. housekeeping_delivered c.args.self.now.moment c.args.mode points c.args.standings.now c.advance-count.result are old (is ∙ sym c.advance-count.ensures.count))
    c.advance-count.ensures.inside refl c.advance-count.ensures.after
    (housekeeping_there c.args.self.now.outgoing c.housekeeping_header.result c.mode_bytes.result c.count_bytes.result c.args.standings.now _ _ _ _ _ _ c.advance-count.result _ c.args.self.now.moment
    c.housekeeping_header.ensures c.mode_bytes.ensures c.count_bytes.ensures c.requires.few (filler c.args.standings.now c.requires.few) c.append.ensures c.append-2.ensures c.append-3.ensures c.append-4.ensures c.append-5.ensures)
    refl refl refl refl
