-- What a step makes of the whole object.
use Rattle.std.proofs.Common.{◌≡◌, refl, ap, ℕ, false, ◌<◌, List, [], ◌∷◌, length, replicate, All, arith}
use Rattle.lc_model.specs.declared.field.Term.{Term}
use Rattle.lc_model.specs.declared.mode.LcMode.{LcMode}
use Rattle.lc_model.specs.Packet.{message_id}
use Rattle.lc_model.specs.LimitChecker.Steps.{Point, is_disabled, is_short}
use Rattle.lc_model.specs.Kept.Summary.{WatchResult, Tally}
use Rattle.lc_model.specs.Kept.Next.{by_counts, unseen_result, seen_result, results_by}
use Rattle.lc_model.specs.Kept.Effort.{probes_for, watched_ids}
use Rattle.std.specs.List.{AllByRecursion}
use Rattle.limit_engine.specs.declared.actionpoint.RuleEntry.{RuleEntry}
use Rattle.limit_engine.specs.declared.watchpoint.Watch.{Watch}
use Rattle.limit_engine.specs.Engine.{after_telemetry, tells_short}
use Rattle.limit_engine.specs.Grouped.{watches_for, IsFit, IsInType}
use Rattle.limit_engine.specs.Tables.{own_of}
use Rattle.limit_engine.proofs.Grouping.{group_numbers, group_fits}
use Rattle.limit_engine.proofs.Setting.{each}

-- the numbers of a group are those of results
pub group_within : (terms : List Term) (watch : List WatchResult) (mid : ℕ) → length watch ≡ length terms → All (λ (w : Watch). w.number < length watch) (watches_for mid 0 terms)
group_within terms watch mid long =
    each (λ (w : Watch). w.number < length watch) (watches_for mid 0 terms) (group_numbers mid 0 (length watch) terms (omega (arith, long)))

-- what is worked out of them fits together
pub group_fit : (terms : List Term) (mid : ℕ) → AllByRecursion IsInType terms → All IsFit (watches_for mid 0 terms)
group_fit terms mid fit = each IsFit (watches_for mid 0 terms) (group_fits mid 0 terms fit)

module _ (mode : LcMode) (terms : List Term) (watch : List WatchResult) (entries : List RuleEntry) (points : List (Point Tally)) (words : List ℕ) (steps probes : ℕ)
    (enabled : is_disabled mode ≡ false) where
  pub seen_whole : (packet : List ℕ) (results : List WatchResult) (found : ℕ) → results ≡ results_by (seen_result packet) terms watch →
      found ≡ probes_for (message_id packet) (watched_ids terms) →
      own_of mode terms results entries points words steps found ≡ after_telemetry packet (own_of mode terms watch entries points words steps probes)
  seen_whole packet results found results_are found_is =
      rw enabled (λ i. own_of mode terms (results_are i) entries points words steps (found_is i))

  pub told_short : (packet : List ℕ) → is_short terms packet ≡ tells_short packet (own_of mode terms watch entries points words steps probes)
  told_short packet = rw enabled refl

-- results of watchpoints that were not seen
pub all_unseen : (terms : List Term) → replicate (length terms) unseen_result ≡ by_counts.unseen terms
all_unseen [] = refl
all_unseen (t ∷ terms) = ap (λ (results : List WatchResult). unseen_result ∷ results) (all_unseen terms)
