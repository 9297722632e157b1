-- The Limit Checker over its counts does what it does over whole lists.
use Rattle.std.proofs.Common.{◌≡◌, ℕ, zero, suc, ◌+◌, Bool, true, false, ◌&&◌, ◌||◌, ◌==◌, List, [], ◌∷◌, ◌++◌, length, map, slice_get, slice_set, refl, ap, ap₂, sym, ◌∙◌, subst, arith, Option, Some, None, is_some, unwrap_or, Result, Ok, Err, if◌then◌else◌, IsTrue}
use Rattle.std.specs.Option.{option_map_or}
use Rattle.std.specs.List.{AllByRecursion}
use Rattle.std.proofs.lemmas.List.{length-map, length-set}
use Rattle.lc_model.specs.declared.kind.Kind.{Kind}
use Rattle.lc_model.specs.declared.kind.Kind.TheVariants.{Wdt, Adt}
use Rattle.lc_model.specs.declared.field.Term.{Term}
use Rattle.lc_model.specs.declared.mode.LcMode.{LcMode}
use Rattle.lc_model.specs.declared.mode.ApMode.{ApMode}
use Rattle.lc_model.specs.declared.mode.ApResult.{ApResult}
use Rattle.lc_model.specs.Packet.{function_code, payload, is_telemetry_mid, message_id, lc_command_mid, lc_housekeeping_request_mid, sample_mid}
use Rattle.lc_model.specs.Refusal.{Refusal, ◌>>=◌, found}
use Rattle.lc_model.specs.Rule.{Actionpoint}
use Rattle.lc_model.specs.Tables.Image.{ImageFault}
use Rattle.lc_model.specs.Tables.Slot.{Slot, Asked, Activated, waiting_at, candidate, judged, taken}
use Rattle.lc_model.specs.Tables.Interpretation.{Interpretation, Pair}
use Rattle.lc_model.specs.Events.Request.{Request, Housekeeping, lc_command_done}
use Rattle.lc_model.specs.Command.{LcCommand, NoOperation, SetMode, SetState, TurnPermanentlyOff, mode_numbered, state_numbered, all_points, bare_request, sample_request, takes, lc_command_in}
use Rattle.lc_model.specs.declared.command.SampleRequest.{SampleRequest}
use Rattle.lc_model.specs.LimitChecker.Watch.{History, Packet, Aging, result_of}
use Rattle.lc_model.specs.LimitChecker.Past.{Past, Sample, last_result}
use Rattle.lc_model.specs.LimitChecker.Reaction.{Reaction}
use Rattle.lc_model.specs.LimitChecker.Steps.{LcStep, Point, Keeping, by_lists, paired, in_force, default_image, default_pair, told_verdict, validated, pair_to_adopt, is_disabled, is_sampled, is_permanently_off, all_set, one_set, settable, turned_permanently_off, states_set, lc_obeyed, lc_commanded, unless_refused, sampled_point, sampled_points, fresh_points, started_with, watched, lc_telemetry, sampled_by, lc_sample, standing, housekeeping_of, adopted, lc_housekeeping}
use Rattle.lc_model.specs.Host.World.{Lc}
use Rattle.lc_model.specs.Kept.Summary.{WatchResult, watch_result, Tally, tally_of, tallied, LcNow, now_by, lc_now}
use Rattle.lc_model.specs.Kept.Next.{seen_result, aged_result, results_by, tally_after, next_reaction, by_counts}
use Rattle.lc_model.specs.Laws.Watch.{IsOver}
use Rattle.lc_model.specs.Laws.Past.{IsInRange}
use Rattle.lc_model.specs.Laws.LimitChecker.{IsSensible, InForceIsSensible, IsSettled, step_now, SamePacketStep, SameStart, StaysSettled, StartsSettled}
use Rattle.lc_model.proofs.LimitChecker.PastLaws.{another_sample, same_reaction}
use Rattle.lc_model.proofs.LimitChecker.WatchLaws.{another_packet, another_aging}
use Rattle.lc_model.proofs.LimitChecker.ResultLaws.{same_result}

-- ---- watch results

seen_all : (packet : List ℕ) (h : History) (terms : List Term) →
    results_by (seen_result packet) terms (map (watch_result h) terms) ≡ map (watch_result (Packet packet ∷ h)) terms
seen_all packet h [] = refl
seen_all packet h (t ∷ terms) = ap₂ (λ r rs. r ∷ rs) (another_packet t h packet) (seen_all packet h terms)

aged_all : (h : History) (terms : List Term) → map aged_result (map (watch_result h) terms) ≡ map (watch_result (Aging ∷ h)) terms
aged_all h [] = refl
aged_all h (t ∷ terms) = ap₂ (λ r rs. r ∷ rs) (another_aging t h) (aged_all h terms)

aged_if : (ages : Bool) (h : History) (terms : List Term) →
    (if ages then map aged_result (map (watch_result h) terms) else map (watch_result h) terms) ≡ map (watch_result (if ages then Aging ∷ h else h)) terms
aged_if true h terms = aged_all h terms
aged_if false h terms = refl

-- ---- samples

-- a point with what it requests, in counts
counted : ℕ → Point Past × List Request → Point Tally × List Request
counted fails here = (record { state = here.0.state; past = tally_of fails here.0.past }, here.1)

same_point : (terms : List Term) (mode : LcMode) (h : History) (n : ℕ) (rule : Actionpoint) (point : Point Past) →
    IsInRange rule → IsOver terms rule.condition →
    sampled_point by_counts terms mode (map (watch_result h) terms) n rule (record { state = point.state; past = tally_of rule.fails point.past })
    ≡ counted rule.fails (sampled_point by_lists terms mode h n rule point)
unfolding counted
same_point terms mode h n rule point in_range over =
    let after : ApResult → Tally → Point Tally × List Request =
    λ result now. let reaction : Reaction = next_reaction rule n mode (last_result point.past) result point.state now in
    (record { state = reaction.state; past = now }, reaction.requests) in
    let result : ApResult = result_of rule.condition h in
    let sample : Sample = record { result = result; state = point.state } in
    let reacted = same_reaction rule n mode sample point.past in_range in
    ap (λ r. after r (tally_after rule.fails r point.state (tally_of rule.fails point.past))) (same_result terms h rule.condition over)
    ∙ ap (after result) (another_sample rule sample point.past in_range)
    ∙ (λ i. (record { state = (reacted i).state; past = tally_of rule.fails (sample ∷ point.past) }, (reacted i).requests))

same_here : (test : Bool) (terms : List Term) (mode : LcMode) (h : History) (n : ℕ) (rule : Actionpoint) (point : Point Past) →
    IsInRange rule → IsOver terms rule.condition →
    (if test then sampled_point by_counts terms mode (map (watch_result h) terms) n rule (record { state = point.state; past = tally_of rule.fails point.past })
    else (record { state = point.state; past = tally_of rule.fails point.past }, []))
    ≡ counted rule.fails (if test then sampled_point by_lists terms mode h n rule point else (point, []))
unfolding counted
same_here true terms mode h n rule point in_range over = same_point terms mode h n rule point in_range over
same_here false terms mode h n rule point in_range over = refl

same_points : (request : SampleRequest) (terms : List Term) (mode : LcMode) (h : History) (n : ℕ) (rules : List Actionpoint) (points : List (Point Past)) →
    AllByRecursion IsInRange rules → AllByRecursion (λ (rule : Actionpoint). IsOver terms rule.condition) rules →
    sampled_points by_counts request terms mode (map (watch_result h) terms) n rules (tallied rules points)
    ≡ (tallied rules (sampled_points by_lists request terms mode h n rules points).0, (sampled_points by_lists request terms mode h n rules points).1)
unfolding counted
same_points request terms mode h n [] points in_range over = refl
same_points request terms mode h n (rule ∷ rules) [] in_range over = refl
same_points request terms mode h n (rule ∷ rules) (point ∷ points) in_range over =
    let here = same_here (takes request n && is_sampled point.state) terms mode h n rule point in_range.0 over.0 in
    let others = same_points request terms mode h (n + 1) rules points in_range.1 over.1 in
    λ i. ((here i).0 ∷ (others i).0, (here i).1 ++ (others i).1)

-- how rules stand, one point for each rule
same_standings : (rules : List Actionpoint) (points : List (Point Past)) → length points ≡ length rules →
    map (standing by_counts) (tallied rules points) ≡ map (standing by_lists) points
same_standings [] [] as_long = refl
same_standings [] (point ∷ points) as_long = absurd (omega (arith, as_long))
same_standings (rule ∷ rules) [] as_long = absurd (omega (arith, as_long))
same_standings (rule ∷ rules) (point ∷ points) as_long =
    ap (λ others. standing by_lists point ∷ others) (same_standings rules points (omega (arith, as_long)))

-- ---- states

mapped : {A B : Type 0} → (A → B) → Result A Refusal → Result B Refusal
mapped f (Ok x) = Ok (f x)
mapped f (Err refusal) = Err refusal

-- a point behind the first changes as it does without the first
behind : {P : Type 0} (index : ℕ) (change : ApMode → Result ApMode Refusal) (first : Point P) (points : List (Point P)) →
    one_set (suc index) change (first ∷ points) ≡ mapped (λ others. first ∷ others) (one_set index change points)
unfolding mapped
behind {P} index change first points = at_point (slice_get points index)
  where
    at_state : (point : Point P) (r : Result ApMode Refusal) →
        (r >>= (λ state. Ok (first ∷ slice_set points index (record point { state = state }))))
        ≡ mapped (λ others. first ∷ others) (r >>= (λ state. Ok (slice_set points index (record point { state = state }))))
    at_state point (Ok state) = refl
    at_state point (Err refusal) = refl

    at_point : (o : Option (Point P)) →
        (found o 153 >>= (λ (point : Point P). change point.state >>= (λ state. Ok (first ∷ slice_set points index (record point { state = state })))))
        ≡ mapped (λ others. first ∷ others) (found o 153 >>= (λ (point : Point P). change point.state >>= (λ state. Ok (slice_set points index (record point { state = state })))))
    at_point None = refl
    at_point (Some point) = at_state point (change point.state)

same_change : (change : ApMode → Result ApMode Refusal) (rules : List Actionpoint) (points : List (Point Past)) (index : ℕ) → length points ≡ length rules →
    one_set index change (tallied rules points) ≡ mapped (tallied rules) (one_set index change points)
unfolding mapped
same_change change [] [] index as_long = refl
same_change change [] (point ∷ points) index as_long = absurd (omega (arith, as_long))
same_change change (rule ∷ rules) [] index as_long = absurd (omega (arith, as_long))
same_change change (rule ∷ rules) (point ∷ points) zero as_long = at_state (change point.state)
  where
    at_state : (r : Result ApMode Refusal) →
        (r >>= (λ state. Ok (record { state = state; past = tally_of rule.fails point.past } ∷ tallied rules points)))
        ≡ mapped (tallied (rule ∷ rules)) (r >>= (λ state. Ok (record point { state = state } ∷ points)))
    at_state (Ok state) = refl
    at_state (Err refusal) = refl
same_change change (rule ∷ rules) (point ∷ points) (suc index) as_long =
    let first : Point Tally = record { state = point.state; past = tally_of rule.fails point.past } in
    behind index change first (tallied rules points)
    ∙ ap (mapped (λ others. first ∷ others)) (same_change change rules points index (omega (arith, as_long)))
    ∙ both (one_set index change points)
    ∙ ap (mapped (tallied (rule ∷ rules))) (sym (behind index change point points))
  where
    both : (r : Result (List (Point Past)) Refusal) →
        mapped (λ others. record { state = point.state; past = tally_of rule.fails point.past } ∷ others) (mapped (tallied rules) r)
        ≡ mapped (tallied (rule ∷ rules)) (mapped (λ others. point ∷ others) r)
    both (Ok others) = refl
    both (Err refusal) = refl

all_alike : (state : ApMode) (rules : List Actionpoint) (points : List (Point Past)) → all_set state (tallied rules points) ≡ tallied rules (all_set state points)
all_alike state [] points = refl
all_alike state (rule ∷ rules) [] = refl
all_alike state (rule ∷ rules) (point ∷ points) = ap₂ (λ p ps. p ∷ ps) (one (is_permanently_off point.state)) (all_alike state rules points)
  where
    one : (off : Bool) →
        ◌≡◌ {A = Point Tally} (if off then record { state = point.state; past = tally_of rule.fails point.past } else record { state = state; past = tally_of rule.fails point.past })
        (record { state = (if off then point else record point { state = state }).state; past = tally_of rule.fails (if off then point else record point { state = state }).past })
    one true = refl
    one false = refl

same_states : (index number : ℕ) (rules : List Actionpoint) (points : List (Point Past)) → length points ≡ length rules →
    states_set index number (tallied rules points) ≡ mapped (tallied rules) (states_set index number points)
unfolding mapped
same_states index number rules points as_long = by_index (index == all_points)
  where
    each : (o : Option ApMode) → (found o 154 >>= (λ state. Ok (all_set state (tallied rules points)))) ≡ mapped (tallied rules) (found o 154 >>= (λ state. Ok (all_set state points)))
    each None = refl
    each (Some state) = ap Ok (all_alike state rules points)

    by_index : (all : Bool) →
        (if all then (found (state_numbered number) 154 >>= (λ state. Ok (all_set state (tallied rules points)))) else one_set index (settable number) (tallied rules points))
        ≡ mapped (tallied rules) (if all then (found (state_numbered number) 154 >>= (λ state. Ok (all_set state points))) else one_set index (settable number) points)
    by_index true = each (state_numbered number)
    by_index false = same_change (settable number) rules points index as_long

-- the list that a change leaves, if it is not refused, is as long
abbrev pub AsLong : {P : Type 0} → ℕ → Result (List (Point P)) Refusal → Type 0
AsLong n (Ok points) = length points ≡ n
AsLong n (Err refusal) = Unit {0}

pub one_as_long : {P : Type 0} (index : ℕ) (change : ApMode → Result ApMode Refusal) (points : List (Point P)) → AsLong (length points) (one_set index change points)
one_as_long {P} index change points = at_point (slice_get points index)
  where
    at_state : (point : Point P) (r : Result ApMode Refusal) →
        AsLong (length points) (r >>= (λ state. Ok (slice_set points index (record point { state = state }))))
    at_state point (Ok state) = length-set points index (record point { state = state })
    at_state point (Err refusal) = tt

    at_point : (o : Option (Point P)) →
        AsLong (length points) (found o 153 >>= (λ (point : Point P). change point.state >>= (λ state. Ok (slice_set points index (record point { state = state })))))
    at_point None = tt
    at_point (Some point) = at_state point (change point.state)

pub states_as_long : {P : Type 0} (index number : ℕ) (points : List (Point P)) → AsLong (length points) (states_set index number points)
states_as_long {P} index number points = by_index (index == all_points)
  where
    each : (o : Option ApMode) → AsLong (length points) (found o 154 >>= (λ state. Ok (all_set state points)))
    each None = tt
    each (Some state) = length-map points (λ (point : Point P). if is_permanently_off point.state then point else record point { state = state })

    by_index : (all : Bool) →
        AsLong (length points) (if all then (found (state_numbered number) 154 >>= (λ state. Ok (all_set state points))) else one_set index (settable number) points)
    by_index true = each (state_numbered number)
    by_index false = one_as_long index (settable number) points

pub sampled_as_long : {W P : Type 0} (keeping : Keeping W P) (request : SampleRequest) (terms : List Term) (mode : LcMode) (h : W) (n : ℕ) (rules : List Actionpoint) (points : List (Point P)) →
    length (sampled_points keeping request terms mode h n rules points).0 ≡ length points
sampled_as_long keeping request terms mode h n [] points = refl
sampled_as_long keeping request terms mode h n (rule ∷ rules) [] = refl
sampled_as_long keeping request terms mode h n (rule ∷ rules) (point ∷ points) = ap suc (sampled_as_long keeping request terms mode h (n + 1) rules points)

-- ---- commands

module _ {Image : Type 0} (images : Interpretation Image) where
  same_obeyed : (command : LcCommand) (lc : Lc Image) → IsSettled images lc → lc_obeyed command (lc_now images lc) ≡ mapped (lc_now images) (lc_obeyed command lc)
  unfolding mapped
  same_obeyed NoOperation lc settled = refl
  same_obeyed (SetMode number) lc settled = at_mode (mode_numbered number)
    where
      at_mode : (o : Option LcMode) →
          (found o 154 >>= (λ mode. Ok (record (lc_now images lc) { mode = mode }))) ≡ mapped (lc_now images) (found o 154 >>= (λ mode. Ok (record lc { mode = mode })))
      at_mode None = refl
      at_mode (Some mode) = refl
  same_obeyed (SetState index number) lc settled =
      let rules : List Actionpoint = option_map_or images.rules (in_force images lc) [] in
      ap (λ r. r >>= (λ points. Ok (record (lc_now images lc) { points = points }))) (same_states index number rules lc.points settled)
      ∙ with_points (states_set index number lc.points)
    where
      with_points : (r : Result (List (Point Past)) Refusal) →
          (mapped (tallied (option_map_or images.rules (in_force images lc) [])) r >>= (λ points. Ok (record (lc_now images lc) { points = points })))
          ≡ mapped (lc_now images) (r >>= (λ points. Ok (record lc { points = points })))
      with_points (Ok points) = refl
      with_points (Err refusal) = refl
  same_obeyed (TurnPermanentlyOff index) lc settled =
      let rules : List Actionpoint = option_map_or images.rules (in_force images lc) [] in
      ap (λ r. r >>= (λ points. Ok (record (lc_now images lc) { points = points }))) (same_change turned_permanently_off rules lc.points index settled)
      ∙ with_points (one_set index turned_permanently_off lc.points)
    where
      with_points : (r : Result (List (Point Past)) Refusal) →
          (mapped (tallied (option_map_or images.rules (in_force images lc) [])) r >>= (λ points. Ok (record (lc_now images lc) { points = points })))
          ≡ mapped (lc_now images) (r >>= (λ points. Ok (record lc { points = points })))
      with_points (Ok points) = refl
      with_points (Err refusal) = refl

  same_command : (packet : List ℕ) (lc : Lc Image) → IsSettled images lc →
      unless_refused (lc_now images lc) (lc_commanded packet (lc_now images lc)) ≡ step_now images (unless_refused lc (lc_commanded packet lc))
  unfolding mapped
  same_command packet lc settled = of_command (lc_command_in packet)
    where
      done : Request
      done = lc_command_done (function_code packet)

      after : (r : Result (Lc Image) Refusal) →
          unless_refused (lc_now images lc) (mapped (lc_now images) r >>= (λ now. Ok (now, done ∷ []))) ≡ step_now images (unless_refused lc (r >>= (λ now. Ok (now, done ∷ []))))
      after (Ok now) = refl
      after (Err refusal) = refl

      of_command : (r : Result LcCommand Refusal) →
          unless_refused (lc_now images lc) (r >>= (λ command. lc_obeyed command (lc_now images lc) >>= (λ now. Ok (now, done ∷ []))))
          ≡ step_now images (unless_refused lc (r >>= (λ command. lc_obeyed command lc >>= (λ now. Ok (now, done ∷ [])))))
      of_command (Err refusal) = refl
      of_command (Ok command) =
          ap (λ r. unless_refused (lc_now images lc) (r >>= (λ now. Ok (now, done ∷ [])))) (same_obeyed command lc settled) ∙ after (lc_obeyed command lc)

  -- ---- the tables in force

  -- a step in counts, where these tables are in force
  step_by : Option (Pair Image) → LcStep Image History Past → LcNow Image × List Request
  step_by force step = (now_by (option_map_or images.terms force []) (option_map_or images.rules force []) step.0, step.1)

  -- a pair in force matches
  matches_of : (a b : Option Image) (pair : Pair Image) → paired images a b ≡ Some pair → IsTrue (images.matches pair)
  matches_of None b pair e = cc
  matches_of (Some wdt) None pair e = cc
  matches_of (Some wdt) (Some adt) pair e = by_test (images.matches (record { wdt = wdt; adt = adt })) refl e
    where
      by_test : (test : Bool) → images.matches (record { wdt = wdt; adt = adt }) ≡ test →
          (if test then Some (record { wdt = wdt; adt = adt }) else None) ≡ Some pair → IsTrue (images.matches pair)
      by_test true matching found = subst (λ p. IsTrue (images.matches p)) (ap (λ o. unwrap_or o pair) found) matching
      by_test false other found = cc

  -- ---- telemetry

  same_watched : (packet : List ℕ) (lc : Lc Image) (force : Option (Pair Image)) →
      option_map_or (watched by_counts images packet (step_by force (lc, [])).0) force ((step_by force (lc, [])).0, [])
      ≡ step_by force (option_map_or (watched by_lists images packet lc) force (lc, []))
  unfolding step_by
  same_watched packet lc None = refl
  same_watched packet lc (Some pair) =
      let after : List WatchResult → LcNow Image = λ watch. record {
        mode = lc.mode;
        wdt = lc.wdt;
        adt = lc.adt;
        watch = watch;
        points = tallied (images.rules pair) lc.points;
      } in
      let short : List Request = (watched by_lists images packet lc pair).1 in
      ap (λ watch. (after watch, short)) (seen_all packet lc.watch (images.terms pair))

  watched_keeps : (packet : List ℕ) (lc : Lc Image) (force : Option (Pair Image)) →
      in_force images (option_map_or (watched by_lists images packet lc) force (lc, [])).0 ≡ in_force images lc
  watched_keeps packet lc None = refl
  watched_keeps packet lc (Some pair) = refl

  same_telemetry : (packet : List ℕ) (lc : Lc Image) → lc_telemetry by_counts images packet (lc_now images lc) ≡ step_now images (lc_telemetry by_lists images packet lc)
  unfolding step_by
  same_telemetry packet lc = by_mode (is_disabled lc.mode)
    where
      by_mode : (disabled : Bool) →
          (if disabled then (lc_now images lc, []) else option_map_or (watched by_counts images packet (lc_now images lc)) (in_force images lc) (lc_now images lc, []))
          ≡ step_now images (if disabled then (lc, []) else option_map_or (watched by_lists images packet lc) (in_force images lc) (lc, []))
      by_mode true = refl
      by_mode false =
          let step : LcStep Image History Past = option_map_or (watched by_lists images packet lc) (in_force images lc) (lc, []) in
          same_watched packet lc (in_force images lc) ∙ ap (λ force. step_by force step) (sym (watched_keeps packet lc (in_force images lc)))

  -- ---- sample requests

  same_sampled : (request : SampleRequest) (lc : Lc Image) (force : Option (Pair Image)) → InForceIsSensible images lc → in_force images lc ≡ force →
      option_map_or (sampled_by by_counts images request (step_by force (lc, [])).0) force ((step_by force (lc, [])).0, [])
      ≡ step_by force (option_map_or (sampled_by by_lists images request lc) force (lc, []))
  unfolding step_by
  same_sampled request lc None sensible e = refl
  same_sampled request lc (Some pair) sensible e =
      let fit : IsSensible images pair = sensible pair e in
      let points = same_points request (images.terms pair) lc.mode lc.watch 0 (images.rules pair) lc.points fit.in_range fit.over in
      let watch = aged_if request.ages lc.watch (images.terms pair) in
      λ i. (record { mode = lc.mode; wdt = lc.wdt; adt = lc.adt; watch = watch i; points = (points i).0 }, (points i).1)

  sampled_keeps : (request : SampleRequest) (lc : Lc Image) (force : Option (Pair Image)) →
      in_force images (option_map_or (sampled_by by_lists images request lc) force (lc, [])).0 ≡ in_force images lc
  sampled_keeps request lc None = refl
  sampled_keeps request lc (Some pair) = refl

  same_sample : (packet : List ℕ) (lc : Lc Image) → InForceIsSensible images lc →
      unless_refused (lc_now images lc) (lc_sample by_counts images packet (lc_now images lc)) ≡ step_now images (unless_refused lc (lc_sample by_lists images packet lc))
  unfolding step_by
  same_sample packet lc sensible = of_request (sample_request (function_code packet) (payload packet))
    where
      by_mode : (request : SampleRequest) (disabled : Bool) →
          (if disabled then (lc_now images lc, []) else option_map_or (sampled_by by_counts images request (lc_now images lc)) (in_force images lc) (lc_now images lc, []))
          ≡ step_now images (if disabled then (lc, []) else option_map_or (sampled_by by_lists images request lc) (in_force images lc) (lc, []))
      by_mode request true = refl
      by_mode request false =
          let step : LcStep Image History Past = option_map_or (sampled_by by_lists images request lc) (in_force images lc) (lc, []) in
          same_sampled request lc (in_force images lc) sensible refl ∙ ap (λ force. step_by force step) (sym (sampled_keeps request lc (in_force images lc)))

      of_request : (r : Result SampleRequest Refusal) →
          unless_refused (lc_now images lc) (r >>= (λ request. Ok (if is_disabled lc.mode then (lc_now images lc, []) else option_map_or (sampled_by by_counts images request (lc_now images lc)) (in_force images lc) (lc_now images lc, []))))
          ≡ step_now images (unless_refused lc (r >>= (λ request. Ok (if is_disabled lc.mode then (lc, []) else option_map_or (sampled_by by_lists images request lc) (in_force images lc) (lc, [])))))
      of_request (Err refusal) = refl
      of_request (Ok request) = by_mode request (is_disabled lc.mode)

  -- ---- housekeeping requests

  judged_active : (valid : Bool) (slot : Slot Image) → (judged valid slot).active ≡ slot.active
  judged_active valid slot = by_waiting (waiting_at Asked slot) refl
    where
      by_waiting : (o : Option Image) → waiting_at Asked slot ≡ o → (judged valid slot).active ≡ slot.active
      by_waiting None e = rw e refl
      by_waiting (Some image) e = rw e refl

  told_active : (kind : Kind) (o : Option ImageFault) (slot : Slot Image) → (told_verdict images kind o slot).0.active ≡ slot.active
  told_active kind None slot = judged_active true slot
  told_active kind (Some fault) slot = judged_active false slot

  -- validation leaves the active image
  pub validated_active : (kind : Kind) (slot : Slot Image) → (validated images kind slot).0.active ≡ slot.active
  validated_active kind slot = by_waiting (waiting_at Asked slot)
    where
      by_waiting : (o : Option Image) →
          (option_map_or (λ image. told_verdict images kind (images.fault_of kind image) slot) o (slot, [])).0.active ≡ slot.active
      by_waiting None = refl
      by_waiting (Some image) = told_active kind (images.fault_of kind image) slot

  -- the candidate is what is active once what waits activated is taken
  candidate_taken : (slot : Slot Image) → candidate slot ≡ (taken slot).active
  candidate_taken slot = by_waiting (waiting_at Activated slot) refl
    where
      by_waiting : (o : Option Image) → waiting_at Activated slot ≡ o → candidate slot ≡ (taken slot).active
      by_waiting None e = rw e refl
      by_waiting (Some image) e = rw e refl

  pub adopted_pair : (wdt adt : Slot Image) (pair : Pair Image) → pair_to_adopt images wdt adt ≡ Some pair → paired images (taken wdt).active (taken adt).active ≡ Some pair
  adopted_pair wdt adt pair e =
      ap₂ (paired images) (sym (candidate_taken wdt)) (sym (candidate_taken adt)) ∙ by_test (is_some (waiting_at Activated wdt) || is_some (waiting_at Activated adt)) e
    where
      by_test : (test : Bool) → (if test then paired images (candidate wdt) (candidate adt) else None) ≡ Some pair → paired images (candidate wdt) (candidate adt) ≡ Some pair
      by_test true found = found
      by_test false found = cc

  same_fresh : (rules : List Actionpoint) →
      tallied rules (map (λ (rule : Actionpoint). record { state = rule.mode; past = [] }) rules)
      ≡ map (λ (rule : Actionpoint). record { state = rule.mode; past = by_counts.unsampled }) rules
  same_fresh [] = refl
  same_fresh (rule ∷ rules) = ap (λ points. record { state = rule.mode; past = by_counts.unsampled } ∷ points) (same_fresh rules)

  fresh_length : (pair : Pair Image) → length (fresh_points by_lists images pair) ≡ length (images.rules pair)
  fresh_length pair = length-map (images.rules pair) (λ (rule : Actionpoint). record { state = rule.mode; past = [] })

  -- slots after validation, and adoption
  module _ (lc : Lc Image) (wdt adt : Slot Image) (wdt_kept : wdt.active ≡ lc.wdt.active) (adt_kept : adt.active ≡ lc.adt.active) where
    same_adoption : (force : Option (Pair Image)) → pair_to_adopt images wdt adt ≡ force →
        option_map_or (adopted by_counts images (record (lc_now images lc) { wdt = wdt; adt = adt })) force (record (lc_now images lc) { wdt = wdt; adt = adt }, [])
        ≡ step_now images (option_map_or (adopted by_lists images (record lc { wdt = wdt; adt = adt })) force (record lc { wdt = wdt; adt = adt }, []))
    unfolding step_by
    same_adoption None e =
        ap (λ o. step_by o (record lc { wdt = wdt; adt = adt }, [])) (sym (ap₂ (paired images) wdt_kept adt_kept))
    same_adoption (Some pair) e =
        let step : LcStep Image History Past = adopted by_lists images (record lc { wdt = wdt; adt = adt }) pair in
        ap (λ points. (
          record {
            mode = lc.mode;
            wdt = taken wdt;
            adt = taken adt;
            watch = map (watch_result []) (images.terms pair);
            points = points;
          },
          step.1,
        )) (sym (same_fresh (images.rules pair)))
        ∙ ap (λ o. step_by o step) (sym (adopted_pair wdt adt pair e))

    -- there is still one point for each rule
    adoption_settled : IsSettled images lc → (force : Option (Pair Image)) → pair_to_adopt images wdt adt ≡ force →
        IsSettled images (option_map_or (adopted by_lists images (record lc { wdt = wdt; adt = adt })) force (record lc { wdt = wdt; adt = adt }, [])).0
    adoption_settled settled None e = settled ∙ ap (λ o. length (option_map_or images.rules o [])) (sym (ap₂ (paired images) wdt_kept adt_kept))
    adoption_settled settled (Some pair) e = fresh_length pair ∙ ap (λ o. length (option_map_or images.rules o [])) (sym (adopted_pair wdt adt pair e))

  same_housekeeping : (packet : List ℕ) (lc : Lc Image) → IsSettled images lc →
      unless_refused (lc_now images lc) (lc_housekeeping by_counts images packet (lc_now images lc)) ≡ step_now images (unless_refused lc (lc_housekeeping by_lists images packet lc))
  same_housekeeping packet lc settled = of_request (bare_request 0 (function_code packet) (payload packet))
    where
      wdt : Slot Image × List Request
      wdt = validated images Wdt lc.wdt

      adt : Slot Image × List Request
      adt = validated images Adt lc.adt

      slots : Lc Image
      slots = record lc { wdt = wdt.0; adt = adt.0 }

      counts : LcNow Image
      counts = record (lc_now images lc) { wdt = wdt.0; adt = adt.0 }

      of_request : (r : Result (Unit {0}) Refusal) →
          unless_refused (lc_now images lc) (r >>= (λ _. let after : LcStep Image (List WatchResult) Tally = option_map_or (adopted by_counts images counts) (pair_to_adopt images wdt.0 adt.0) (counts, []) in Ok (after.0, wdt.1 ++ adt.1 ++ after.1 ++ housekeeping_of by_counts after.0 ∷ [])))
          ≡ step_now images (unless_refused lc (r >>= (λ _. let after : LcStep Image History Past = option_map_or (adopted by_lists images slots) (pair_to_adopt images wdt.0 adt.0) (slots, []) in Ok (after.0, wdt.1 ++ adt.1 ++ after.1 ++ housekeeping_of by_lists after.0 ∷ []))))
      of_request (Err refusal) = refl
      of_request (Ok request) =
          let step : LcStep Image History Past = option_map_or (adopted by_lists images slots) (pair_to_adopt images wdt.0 adt.0) (slots, []) in
          let wdt_kept = validated_active Wdt lc.wdt in
          let adt_kept = validated_active Adt lc.adt in
          let after = same_adoption lc wdt.0 adt.0 wdt_kept adt_kept (pair_to_adopt images wdt.0 adt.0) refl in
          let still : IsSettled images step.0 = adoption_settled lc wdt.0 adt.0 wdt_kept adt_kept settled (pair_to_adopt images wdt.0 adt.0) refl in
          let told : housekeeping_of by_counts (lc_now images step.0) ≡ housekeeping_of by_lists step.0 =
          ap (λ points. Housekeeping step.0.mode points) (same_standings (option_map_or images.rules (in_force images step.0) []) step.0.points still) in
          (λ i. ((after i).0, wdt.1 ++ adt.1 ++ (after i).1 ++ housekeeping_of by_counts (after i).0 ∷ []))
          ∙ (λ i. (lc_now images step.0, wdt.1 ++ adt.1 ++ step.1 ++ told i ∷ []))

  -- ---- any packet, and the start

  branch : (test : Bool) (x y : LcNow Image × List Request) (x' y' : LcStep Image History Past) →
      x ≡ step_now images x' → y ≡ step_now images y' → (if test then x else y) ≡ step_now images (if test then x' else y')
  branch true x y x' y' same_x same_y = same_x
  branch false x y x' y' same_x same_y = same_y

  pub same_packet_step : SamePacketStep images
  same_packet_step packet lc settled sensible =
      let mid : ℕ = message_id packet in
      branch (mid == lc_command_mid) _ _ _ _ (same_command packet lc settled)
      (branch (mid == lc_housekeeping_request_mid) _ _ _ _ (same_housekeeping packet lc settled)
      (branch (mid == sample_mid) _ _ _ _ (same_sample packet lc sensible)
      (branch (is_telemetry_mid mid) _ _ _ _ (same_telemetry packet lc) refl)))

  pub same_start : SameStart images
  unfolding step_by
  same_start files = by_pair (default_pair images files) refl
    where
      in_use_now : (pair : Pair Image) → IsTrue (images.matches pair) → paired images (Some pair.wdt) (Some pair.adt) ≡ Some pair
      in_use_now pair matching = ap (λ test. if test then Some pair else None) matching

      by_pair : (o : Option (Pair Image)) → default_pair images files ≡ o → started_with by_counts images o ≡ step_now images (started_with by_lists images o)
      by_pair None e = refl
      by_pair (Some pair) e =
          let step : LcStep Image History Past = started_with by_lists images (Some pair) in
          ap (λ points. (
            record {
              mode = step.0.mode;
              wdt = step.0.wdt;
              adt = step.0.adt;
              watch = map (watch_result []) (images.terms pair);
              points = points;
            },
            step.1,
          )) (sym (same_fresh (images.rules pair)))
          ∙ ap (λ o. step_by o step) (sym (in_use_now pair (matches_of (default_image images Wdt files) (default_image images Adt files) pair e)))

  -- ---- one point for each rule

  pub starts_settled : StartsSettled images
  starts_settled files = by_pair (default_pair images files) refl
    where
      by_pair : (o : Option (Pair Image)) → default_pair images files ≡ o → IsSettled images (started_with by_lists images o).0
      by_pair None e = refl
      by_pair (Some pair) e =
          fresh_length pair ∙ ap (λ o. length (option_map_or images.rules o []))
          (sym (ap (λ test. if test then Some pair else None) (matches_of (default_image images Wdt files) (default_image images Adt files) pair e)))

  command_settled : (packet : List ℕ) (lc : Lc Image) → IsSettled images lc → IsSettled images (unless_refused lc (lc_commanded packet lc)).0
  command_settled packet lc settled = of_command (lc_command_in packet)
    where
      Settles : Result (Lc Image) Refusal → Type 0
      Settles r = IsSettled images (unless_refused lc (r >>= (λ now. Ok (now, lc_command_done (function_code packet) ∷ [])))).0

      with_points : (r : Result (List (Point Past)) Refusal) → AsLong (length lc.points) r → Settles (r >>= (λ points. Ok (record lc { points = points })))
      with_points (Ok points) as_long = as_long ∙ settled
      with_points (Err refusal) as_long = settled

      with_mode : (o : Option LcMode) → Settles (found o 154 >>= (λ mode. Ok (record lc { mode = mode })))
      with_mode None = settled
      with_mode (Some mode) = settled

      of_known : (command : LcCommand) → Settles (lc_obeyed command lc)
      of_known NoOperation = settled
      of_known (SetMode number) = with_mode (mode_numbered number)
      of_known (SetState index number) = with_points (states_set index number lc.points) (states_as_long index number lc.points)
      of_known (TurnPermanentlyOff index) = with_points (one_set index turned_permanently_off lc.points) (one_as_long index turned_permanently_off lc.points)

      of_command : (r : Result LcCommand Refusal) →
          IsSettled images (unless_refused lc (r >>= (λ command. lc_obeyed command lc >>= (λ now. Ok (now, lc_command_done (function_code packet) ∷ []))))).0
      of_command (Err refusal) = settled
      of_command (Ok command) = of_known command

  telemetry_settled : (packet : List ℕ) (lc : Lc Image) → IsSettled images lc → IsSettled images (lc_telemetry by_lists images packet lc).0
  telemetry_settled packet lc settled = by_mode (is_disabled lc.mode)
    where
      by_force : (o : Option (Pair Image)) → IsSettled images (option_map_or (watched by_lists images packet lc) o (lc, [])).0
      by_force None = settled
      by_force (Some pair) = settled

      by_mode : (disabled : Bool) → IsSettled images (if disabled then (lc, []) else option_map_or (watched by_lists images packet lc) (in_force images lc) (lc, [])).0
      by_mode true = settled
      by_mode false = by_force (in_force images lc)

  sample_settled : (packet : List ℕ) (lc : Lc Image) → IsSettled images lc → IsSettled images (unless_refused lc (lc_sample by_lists images packet lc)).0
  sample_settled packet lc settled = of_request (sample_request (function_code packet) (payload packet))
    where
      by_force : (request : SampleRequest) (o : Option (Pair Image)) → IsSettled images (option_map_or (sampled_by by_lists images request lc) o (lc, [])).0
      by_force request None = settled
      by_force request (Some pair) = sampled_as_long by_lists request (images.terms pair) lc.mode lc.watch 0 (images.rules pair) lc.points ∙ settled

      by_mode : (request : SampleRequest) (disabled : Bool) →
          IsSettled images (if disabled then (lc, []) else option_map_or (sampled_by by_lists images request lc) (in_force images lc) (lc, [])).0
      by_mode request true = settled
      by_mode request false = by_force request (in_force images lc)

      of_request : (r : Result SampleRequest Refusal) →
          IsSettled images (unless_refused lc (r >>= (λ request. Ok (if is_disabled lc.mode then (lc, []) else option_map_or (sampled_by by_lists images request lc) (in_force images lc) (lc, []))))).0
      of_request (Err refusal) = settled
      of_request (Ok request) = by_mode request (is_disabled lc.mode)

  housekeeping_settled : (packet : List ℕ) (lc : Lc Image) → IsSettled images lc → IsSettled images (unless_refused lc (lc_housekeeping by_lists images packet lc)).0
  housekeeping_settled packet lc settled = of_request (bare_request 0 (function_code packet) (payload packet))
    where
      wdt : Slot Image × List Request
      wdt = validated images Wdt lc.wdt

      adt : Slot Image × List Request
      adt = validated images Adt lc.adt

      slots : Lc Image
      slots = record lc { wdt = wdt.0; adt = adt.0 }

      of_request : (r : Result (Unit {0}) Refusal) →
          IsSettled images (unless_refused lc (r >>= (λ _. let after : LcStep Image History Past = option_map_or (adopted by_lists images slots) (pair_to_adopt images wdt.0 adt.0) (slots, []) in Ok (after.0, wdt.1 ++ adt.1 ++ after.1 ++ housekeeping_of by_lists after.0 ∷ [])))).0
      of_request (Err refusal) = settled
      of_request (Ok request) =
          adoption_settled lc wdt.0 adt.0 (validated_active Wdt lc.wdt) (validated_active Adt lc.adt) settled (pair_to_adopt images wdt.0 adt.0) refl

  settled_branch : (test : Bool) (x y : LcStep Image History Past) → IsSettled images x.0 → IsSettled images y.0 → IsSettled images (if test then x else y).0
  settled_branch true x y at_x at_y = at_x
  settled_branch false x y at_x at_y = at_y

  pub stays_settled : StaysSettled images
  stays_settled packet lc settled =
      let mid : ℕ = message_id packet in
      settled_branch (mid == lc_command_mid) _ _ (command_settled packet lc settled)
      (settled_branch (mid == lc_housekeeping_request_mid) _ _ (housekeeping_settled packet lc settled)
      (settled_branch (mid == sample_mid) _ _ (sample_settled packet lc settled)
      (settled_branch (is_telemetry_mid mid) _ (lc, []) (telemetry_settled packet lc settled) settled)))
