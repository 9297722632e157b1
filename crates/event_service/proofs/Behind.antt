-- The packet of an event, behind some bytes.
use Rattle.std.proofs.Common.{◌≡◌, sym, ap, ℕ, ◌+◌, ◌≤◌, List, ◌++◌, ◌∙◌, length, take, subst, Bool, true, if◌then◌else◌, Some, None, arith, append_assoc, length-append}
use Rattle.std.proofs.Math.Seq.{take-append_seam}
use Rattle.std.proofs.lemmas.List.{length-take-le, take-take}
use Rattle.lc_model.specs.declared.record.Moment.{Moment}
use Rattle.lc_model.specs.declared.rule.EventKind.{EventKind}
use Rattle.lc_model.specs.Events.Outgoing.{event_packet}
use Rattle.event_service.specs.Packet.{with_packet}

-- where the event is chosen, with this count, by this sender
pub sent_behind : (moment : Moment) (id : ℕ) (kind : EventKind) (text : List ℕ) (old new : List ℕ) (chosen : Bool) (count sent : ℕ) (name name' : List ℕ) → true ≡ chosen → count ≡ sent → name' ≡ name →
    new ≡ old ++ event_packet count moment name' id kind text → new ≡ with_packet old (if chosen then Some (event_packet sent moment name id kind text) else None)
sent_behind moment id kind text old new chosen count sent name name' is counted named comes =
    subst (λ (b : Bool). new ≡ with_packet old (if b then Some (event_packet sent moment name id kind text) else None)) is
    (comes ∙ (λ i. old ++ event_packet (counted i) moment (named i) id kind text))

-- what is laid into bytes from a place on, with those before it
pub laid_behind : (at size len : ℕ) (bytes part behind rest front : List ℕ) → length part ≡ size → at + size ≤ length bytes → at + size ≤ len → take at bytes ≡ front →
    take (at + size) (take len ((take at bytes ++ (part ++ behind)) ++ rest)) ≡ front ++ part
laid_behind at size len bytes part behind rest front its inside short is =
    let both : length (take at bytes ++ part) ≡ at + size = length-append (take at bytes) part ∙ (λ i. length-take-le at bytes (omega (arith, inside)) i + its i) in
    let parts : (take at bytes ++ (part ++ behind)) ++ rest ≡ (take at bytes ++ part) ++ (behind ++ rest) = simp append_assoc in
    take-take (at + size) len _ short
    ∙ ap (take (at + size)) parts
    ∙ ap (λ n. take n ((take at bytes ++ part) ++ (behind ++ rest))) (sym both)
    ∙ take-append_seam (take at bytes ++ part) (behind ++ rest)
    ∙ ap (λ (first : List ℕ). first ++ part) is
