-- New tables that watch the message ids of the old ones: no subscription changes.
use Rattle.std.proofs.Common.{◌≡◌, ◌∙◌, sym, refl, ap, ℕ, ◌+◌, ◌<◌, List, [], ◌∷◌, ◌++◌, length, take, map, get_or, add-one, Option, Some, None, slice_set}
use Rattle.std.specs.Prelude.{IfSome, IsSomeAnd}
use Rattle.std.proofs.lemmas.List.{map-append, take_more, set-get_or}
use Rattle.std.proofs.Math.Seq.{take-length}
use Rattle.lc_model.specs.declared.field.Term.{Term}
use Rattle.lc_model.specs.Packet.{lc_command_mid, lc_housekeeping_request_mid, sample_mid}
use Rattle.lc_model.specs.Tables.Entry.{mid_field}
use Rattle.lc_model.specs.Tables.Image.{Watchpoints, entry_at, numbers_below, own_count}
use Rattle.lc_model.specs.Tables.Spelled.{spelled_term, spelled_terms}
use Rattle.lc_model.specs.Kept.Call.{with_mids}
use Rattle.lc_model.specs.Kept.GoesWith.{subscriptions_of}
use Rattle.lc_model.specs.Kept.Summary.{LcOwn, LcState}
use Rattle.lc_model.specs.Services.Bus.{Bus, Queue, pipe_at, with_pipe}
use Rattle.app_host.specs.Resubscribing.{mids_of}

-- the message ids of a table's watchpoints below a number
abbrev pub ids_below : List ℕ → ℕ → List ℕ
ids_below wdt n = mids_of (map (λ i. spelled_term (entry_at Watchpoints wdt i)) (numbers_below n))

-- one watchpoint more
pub ids_more : (wdt : List ℕ) (n : ℕ) (terms : List Term) (other : Term) (entry : List ℕ) (mid : ℕ) → ids_below wdt n ≡ mids_of (take n terms) → n < length terms → entry ≡ entry_at Watchpoints wdt n →
    mid ≡ mid_field entry → mid ≡ (get_or terms n other).mid → ids_below wdt (n + 1) ≡ mids_of (take (n + 1) terms)
ids_more wdt n terms other entry mid before within entry_is mid_is same =
    let one : mid_field (entry_at Watchpoints wdt n) ≡ (get_or terms n other).mid = ap mid_field (sym entry_is) ∙ sym mid_is ∙ same in
    ap (ids_below wdt) (add-one n)
    ∙ ap mids_of (map-append (λ i. spelled_term (entry_at Watchpoints wdt i)) (numbers_below n) (n ∷ []))
    ∙ map-append (λ (t : Term). t.mid) (map (λ i. spelled_term (entry_at Watchpoints wdt i)) (numbers_below n)) (spelled_term (entry_at Watchpoints wdt n) ∷ [])
    ∙ (λ i. before i ++ one i ∷ [])
    ∙ sym (map-append (λ (t : Term). t.mid) (take n terms) (get_or terms n other ∷ []))
    ∙ ap mids_of (sym (take_more terms n other within))

-- all of them
pub all_same : (wdt : List ℕ) (n : ℕ) (terms : List Term) → ids_below wdt n ≡ mids_of (take n terms) → n ≡ length terms → n ≡ own_count wdt → mids_of (spelled_terms wdt) ≡ mids_of terms
all_same wdt n terms same long own =
    ap (ids_below wdt) (sym own) ∙ same ∙ ap mids_of (ap (λ k. take k terms) long ∙ take-length terms)

-- the pipe is as it was, and hears the message ids of the new watchpoints
pub heard_still : (seat : ℕ) (bus : Bus) (old new : LcOwn) → IsSomeAnd (pipe_at seat bus) (λ (queue : Queue). queue.subscriptions ≡ subscriptions_of (LcState old)) → mids_of new.terms ≡ mids_of old.terms →
    IfSome (pipe_at seat bus) (λ (queue : Queue). bus ≡ with_pipe seat bus (record queue { subscriptions = subscriptions_of (LcState new) }))
heard_still seat bus old new there same = by_place (pipe_at seat bus) refl there
  where
    by_place : (place : Option Queue) → pipe_at seat bus ≡ place → IsSomeAnd place (λ (queue : Queue). queue.subscriptions ≡ subscriptions_of (LcState old)) →
        IfSome place (λ (queue : Queue). bus ≡ with_pipe seat bus (record queue { subscriptions = subscriptions_of (LcState new) }))
    by_place None e has = absurd has
    by_place (Some queue) e has =
        sym (set-get_or bus seat None) ∙ ap (slice_set bus seat) e
        ∙ (λ i. with_pipe seat bus (record queue { subscriptions = (has ∙ ap (λ mids. with_mids (lc_command_mid ∷ lc_housekeeping_request_mid ∷ sample_mid ∷ mids) []) (sym same)) i }))
