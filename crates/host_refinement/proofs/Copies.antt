-- A call by the object's own copy of the tables in force is one by the tables.
use Rattle.std.proofs.Common.{◌≡◌, ℕ, Bool, true, false, ◌==◌, List, [], ◌∷◌, map, length, refl, ap, sym, ◌∙◌, arith, Option, Some, None, Result, Ok, Err, if◌then◌else◌}
use Rattle.std.specs.Option.{option_map_or}
use Rattle.std.proofs.lemmas.List.{length-map}
use Rattle.lc_model.specs.declared.field.Term.{Term}
use Rattle.lc_model.specs.Packet.{function_code, payload, is_telemetry_mid, message_id, lc_command_mid, lc_housekeeping_request_mid, sample_mid}
use Rattle.lc_model.specs.Refusal.{Refusal, ◌>>=◌}
use Rattle.lc_model.specs.Tables.Interpretation.{Interpretation, Pair}
use Rattle.lc_model.specs.Events.Request.{Request}
use Rattle.lc_model.specs.Command.{sample_request}
use Rattle.lc_model.specs.declared.command.SampleRequest.{SampleRequest}
use Rattle.lc_model.specs.LimitChecker.Steps.{in_force, is_disabled, unless_refused, watched_over, watched, lc_telemetry, sampled_over, sampled_by, lc_sample, lc_packet}
use Rattle.lc_model.specs.Host.World.{Lc}
use Rattle.lc_model.specs.Kept.Effort.{Effort}
use Rattle.lc_model.specs.Kept.Summary.{WatchResult, watch_result, LcNow, LcOwn, lc_now, lc_own}
use Rattle.lc_model.specs.Kept.Next.{by_counts}
use Rattle.lc_model.specs.Kept.Call.{telemetry_seen, sample_taken, next_lc_packet}

Numbers : Type 0 → Type 0
Numbers Image = LcNow Image × List Request

no_results : (watch : List WatchResult) → length watch ≡ 0 → watch ≡ []
no_results [] none = refl
no_results (result ∷ watch) none = absurd (omega (arith, none))

module _ {Image : Type 0} (images : Interpretation Image) (lc : LcNow Image) where
  -- with these tables in force, or without, there is a result for each watchpoint
  Fits : Option (Pair Image) → Type 0
  Fits force = length lc.watch ≡ length (option_map_or images.terms force [])

  either : (test : Bool) (x x' y y' : LcNow Image × List Request) → x ≡ x' → y ≡ y' → (if test then x else y) ≡ (if test then x' else y')
  either true x x' y y' e f = e
  either false x x' y y' e f = f

  seen_so : (packet : List ℕ) (force : Option (Pair Image)) → Fits force →
      watched_over by_counts (option_map_or images.terms force []) packet lc ≡ option_map_or (watched by_counts images packet lc) force (lc, [])
  unfolding Fits
  seen_so packet None fits = ap (λ watch. (record lc { watch = watch }, [])) (sym (no_results lc.watch fits))
  seen_so packet (Some pair) fits = refl

  aged_so : (ages : Bool) → length lc.watch ≡ 0 →
      (let now : LcNow Image = record lc { watch = if ages then by_counts.aged [] lc.watch else lc.watch } in now) ≡ lc
  aged_so true none = ap (λ watch. record lc { watch = by_counts.aged [] watch }) (no_results lc.watch none) ∙ ap (λ watch. record lc { watch = watch }) (sym (no_results lc.watch none))
  aged_so false none = refl

  sampled_so : (request : SampleRequest) (force : Option (Pair Image)) → Fits force →
      sampled_over by_counts (option_map_or images.terms force []) (option_map_or images.rules force []) request lc
      ≡ option_map_or (sampled_by by_counts images request lc) force (lc, [])
  unfolding Fits
  sampled_so request None fits = ap (λ now. (now, [])) (aged_so request.ages fits)
  sampled_so request (Some pair) fits = refl

  -- by these copies
  module _ (own : LcOwn) (terms_same : own.terms ≡ option_map_or images.terms (in_force images lc) []) (rules_same : own.rules ≡ option_map_or images.rules (in_force images lc) [])
      (fits : length lc.watch ≡ length (option_map_or images.terms (in_force images lc) [])) where
    telemetry_so : (packet : List ℕ) → telemetry_seen images own packet lc ≡ lc_telemetry by_counts images packet lc
    unfolding Fits
    telemetry_so packet =
        either (is_disabled lc.mode) (lc, []) (lc, []) _ _ refl
        (ap (λ terms. watched_over by_counts terms packet lc) terms_same ∙ seen_so packet (in_force images lc) fits)

    sample_so : (packet : List ℕ) → sample_taken images own packet lc ≡ lc_sample by_counts images packet lc
    unfolding Fits
    sample_so packet = by_request (sample_request (function_code packet) (payload packet))
      where
        by_request : (r : Result SampleRequest Refusal) →
            (r >>= (λ request. Ok (if is_disabled lc.mode then (lc, []) else sampled_over by_counts own.terms own.rules request lc)))
            ≡ (r >>= (λ request. Ok (if is_disabled lc.mode then (lc, []) else option_map_or (sampled_by by_counts images request lc) (in_force images lc) (lc, []))))
        by_request (Err refusal) = refl
        by_request (Ok request) =
            ap Ok (either (is_disabled lc.mode) (lc, []) (lc, []) _ _ refl
            (ap (λ terms. sampled_over by_counts terms own.rules request lc) terms_same
            ∙ ap (λ rules. sampled_over by_counts (option_map_or images.terms (in_force images lc) []) rules request lc) rules_same
            ∙ sampled_so request (in_force images lc) fits))

    pub packet_so : (packet : List ℕ) → next_lc_packet images packet own lc ≡ lc_packet by_counts images packet lc
    packet_so packet =
        let mid : ℕ = message_id packet in
        either (mid == lc_command_mid) _ _ _ _ refl
        (either (mid == lc_housekeeping_request_mid) _ _ _ _ refl
        (either (mid == sample_mid) _ _ _ _ (ap (unless_refused lc) (sample_so packet))
        (either (is_telemetry_mid mid) _ _ (lc, []) (lc, []) (telemetry_so packet) refl)))

-- so it is of the numbers of a world
pub world_so : {Image : Type 0} (images : Interpretation Image) (effort : Effort) (packet : List ℕ) (lc : Lc Image) →
    next_lc_packet images packet (lc_own images effort (lc_now images lc)) (lc_now images lc) ≡ lc_packet by_counts images packet (lc_now images lc)
world_so {Image} images effort packet lc =
    packet_so images (lc_now images lc) (lc_own images effort (lc_now images lc)) refl refl (as_many (option_map_or images.terms (in_force images lc) [])) packet
  where
    as_many : (terms : List Term) → length (map (watch_result lc.watch) terms) ≡ length terms
    as_many terms = length-map terms (watch_result lc.watch)
