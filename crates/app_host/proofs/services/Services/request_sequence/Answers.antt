use Rattle.std.proofs.Common.{refl, ◌∙◌, sym, ◌∷◌, []}
use Rattle.lc_model.specs.Packet.{sequence_mid}
use Rattle.lc_model.specs.Events.Request.{Sequence}
use Rattle.lc_model.specs.Kept.Next.{counts_after}
use Rattle.app_host.proofs.Sent.{counted_alone, sequence_delivered}
use Rattle.app_host.proofs.services.Services.request_sequence.Goals as goal

pub returns-clause-told : goal.returns-clause-told
returns-clause-told c = λ origin name sender.
    counted_alone sequence_mid origin name (Sequence c.args.number) c.sequence_request.result c.args.self.now _ sender
    (λ old is. sequence_delivered c.args.self.now.moment c.args.number c.advance-count.result old (is ∙ sym c.advance-count.ensures.count)
    ∙ (λ i. (record old { counts = counts_after sequence_mid old.counts }, sym c.sequence_request.ensures i ∷ [])))
    c.advance-count.ensures.inside refl c.advance-count.ensures.after c.append.ensures refl refl refl refl
