-- A packet that the Limit Checker does not listen for changes nothing that it keeps.
use Rattle.std.proofs.Common.{◌≡◌, ℕ, Bool, true, false, ◌&&◌, ◌||◌, ◌==◌, List, [], ◌∷◌, map, refl, ap, ap₂, ◌∙◌, Option, Some, None, is_none, if◌then◌else◌, IsFalse, true≢false}
use Rattle.std.specs.Option.{option_map_or}
use Rattle.std.specs.List.{list_any}
use Rattle.lc_model.specs.declared.field.Term.{Term}
use Rattle.lc_model.specs.Packet.{is_telemetry_mid, message_id, lc_command_mid, lc_housekeeping_request_mid, sample_mid}
use Rattle.lc_model.specs.Field.{value_of}
use Rattle.lc_model.specs.Tables.Interpretation.{Interpretation, Pair}
use Rattle.lc_model.specs.Events.Request.{Request, short_packet}
use Rattle.lc_model.specs.LimitChecker.Watch.{History, judgement}
use Rattle.lc_model.specs.LimitChecker.Steps.{in_force, is_disabled, is_short, unless_refused, watched, lc_telemetry, lc_commanded, lc_housekeeping, lc_sample}
use Rattle.lc_model.specs.Host.World.{Lc}
use Rattle.lc_model.specs.Kept.Summary.{watch_result, tallied, LcNow, now_by, lc_now}
use Rattle.lc_model.specs.Kept.Next.{seen_result, results_by, by_counts}
use Rattle.lc_model.specs.Laws.LimitChecker.{UnheardPacket}
use Rattle.lc_model.proofs.Facts.{or_first, or_second, equal_either_way}

-- none of these watchpoints is the packet's
Unheard : List ℕ → List Term → Type 0
Unheard packet terms = IsFalse (list_any (λ mid. message_id packet == mid) (map (λ (t : Term). t.mid) terms))

results_stay : (packet : List ℕ) (h : History) (terms : List Term) → Unheard packet terms →
    results_by (seen_result packet) terms (map (watch_result h) terms) ≡ map (watch_result h) terms
unfolding Unheard
results_stay packet h [] unheard = refl
results_stay packet h (t ∷ terms) unheard =
    let others : Bool = list_any (λ mid. message_id packet == mid) (map (λ (u : Term). u.mid) terms) in
    ap₂ (λ r rs. r ∷ rs)
    (ap (λ heard. if heard then record { truth = judgement t (value_of t packet); countdown = t.stale } else watch_result h t) (or_first (message_id packet == t.mid) others unheard))
    (results_stay packet h terms (or_second (message_id packet == t.mid) others unheard))

none_short : (packet : List ℕ) (terms : List Term) → Unheard packet terms → IsFalse (is_short terms packet)
unfolding Unheard
none_short packet [] unheard = refl
none_short packet (t ∷ terms) unheard =
    let others : Bool = list_any (λ mid. message_id packet == mid) (map (λ (u : Term). u.mid) terms) in
    ap₂ (λ a b. a && is_none (value_of t packet) || b) (equal_either_way t.mid (message_id packet) ∙ or_first (message_id packet == t.mid) others unheard)
    (none_short packet terms (or_second (message_id packet == t.mid) others unheard))

module _ {Image : Type 0} (images : Interpretation Image) where
  by_force : Option (Pair Image) → Lc Image → LcNow Image
  by_force force lc = now_by (option_map_or images.terms force []) (option_map_or images.rules force []) lc

  telemetry_unheard : (packet : List ℕ) (lc : Lc Image) (force : Option (Pair Image)) → Unheard packet (option_map_or images.terms force []) →
      option_map_or (watched by_counts images packet (by_force force lc)) force (by_force force lc, []) ≡ (by_force force lc, [])
  unfolding by_force Unheard
  telemetry_unheard packet lc None unheard = refl
  telemetry_unheard packet lc (Some pair) unheard =
      let results = results_stay packet lc.watch (images.terms pair) unheard in
      let short = none_short packet (images.terms pair) unheard in
      λ i. (
        record { mode = lc.mode; wdt = lc.wdt; adt = lc.adt; watch = results i; points = tallied (images.rules pair) lc.points },
        if short i then short_packet (message_id packet) ∷ [] else [],
      )

  stays : (test : Bool) (x y n : LcNow Image × List Request) → IsFalse test → y ≡ n → (if test then x else y) ≡ n
  stays true x y n h e = absurd (true≢false h)
  stays false x y n h e = e

  either_way : (test : Bool) (x y n : LcNow Image × List Request) → x ≡ n → y ≡ n → (if test then x else y) ≡ n
  either_way true x y n at_true at_false = at_true
  either_way false x y n at_true at_false = at_false

  pub unheard_packet : UnheardPacket images
  unfolding by_force Unheard
  unheard_packet packet lc unheard =
      let mid : ℕ = message_id packet in
      let now : LcNow Image = lc_now images lc in
      let terms : List Term = option_map_or images.terms (in_force images lc) [] in
      let watchpoints : Bool = list_any (λ other. mid == other) (map (λ (t : Term). t.mid) terms) in
      let not_4 = or_first (mid == lc_command_mid) (mid == lc_housekeeping_request_mid || (mid == sample_mid || watchpoints)) unheard in
      let rest_4 = or_second (mid == lc_command_mid) (mid == lc_housekeeping_request_mid || (mid == sample_mid || watchpoints)) unheard in
      let not_5 = or_first (mid == lc_housekeeping_request_mid) (mid == sample_mid || watchpoints) rest_4 in
      let rest_5 = or_second (mid == lc_housekeeping_request_mid) (mid == sample_mid || watchpoints) rest_4 in
      let not_6 = or_first (mid == sample_mid) watchpoints rest_5 in
      let rest_6 = or_second (mid == sample_mid) watchpoints rest_5 in
      stays (mid == lc_command_mid) (unless_refused now (lc_commanded packet now)) _ (now, []) not_4
      (stays (mid == lc_housekeeping_request_mid) (unless_refused now (lc_housekeeping by_counts images packet now)) _ (now, []) not_5
      (stays (mid == sample_mid) (unless_refused now (lc_sample by_counts images packet now)) _ (now, []) not_6
      (either_way (is_telemetry_mid mid) (lc_telemetry by_counts images packet now) (now, []) (now, [])
      (either_way (is_disabled lc.mode) (now, []) _ (now, []) refl (telemetry_unheard packet lc (in_force images lc) rest_6)) refl)))
