-- The Limit Checker in numbers stays in step with its tables, and what was found sound stays so.
use Rattle.std.proofs.Common.{◌≡◌, ℕ, suc, Bool, true, false, ◌&&◌, ◌==◌, List, [], ◌∷◌, ◌++◌, map, length, refl, ap, ap₂, sym, ◌∙◌, arith, Option, Some, None, is_none, Result, Ok, Err, IfSome, if◌then◌else◌}
use Rattle.std.specs.Option.{option_map_or}
use Rattle.std.proofs.lemmas.List.{length-map}
use Rattle.lc_model.specs.declared.kind.Kind.{Kind}
use Rattle.lc_model.specs.declared.kind.Kind.TheVariants.{Wdt, Adt}
use Rattle.lc_model.specs.declared.field.Term.{Term}
use Rattle.lc_model.specs.declared.mode.LcMode.{LcMode}
use Rattle.lc_model.specs.Name.{Name, is_named, value_under}
use Rattle.lc_model.specs.Packet.{function_code, payload, is_telemetry_mid, message_id, lc_command_mid, lc_housekeeping_request_mid, sample_mid}
use Rattle.lc_model.specs.Refusal.{Refusal, ◌>>=◌, found}
use Rattle.lc_model.specs.Rule.{Actionpoint}
use Rattle.lc_model.specs.Tables.Image.{ImageFault}
use Rattle.lc_model.specs.Tables.File.{table_name}
use Rattle.lc_model.specs.Tables.Slot.{Slot}
use Rattle.lc_model.specs.Tables.Interpretation.{FileMeaning, Opened, Unreadable, Interpretation, Pair, default_file}
use Rattle.lc_model.specs.Events.Request.{Request, lc_command_done}
use Rattle.lc_model.specs.Command.{LcCommand, NoOperation, SetMode, SetState, TurnPermanentlyOff, mode_numbered, bare_request, sample_request, lc_command_in}
use Rattle.lc_model.specs.declared.command.SampleRequest.{SampleRequest}
use Rattle.lc_model.specs.LimitChecker.Steps.{Point, in_force, paired, is_disabled, sound_image, default_image, validated, pair_to_adopt, one_set, turned_permanently_off, states_set, lc_obeyed, lc_commanded, unless_refused, started_with, lc_start, watched, lc_telemetry, sampled_by, lc_sample, housekeeping_of, adopted, lc_housekeeping, lc_packet}
use Rattle.lc_model.specs.Kept.Summary.{WatchResult, Tally, LcNow}
use Rattle.lc_model.specs.Kept.Next.{unseen_result, seen_result, aged_result, results_by, by_counts}
use Rattle.lc_model.specs.Kept.GoesWith.{IsJudged, IsInStep}
use Rattle.lc_model.proofs.LimitChecker.Slots.{taken_judged, validated_judged}
use Rattle.lc_model.proofs.LimitChecker.StepLaws.{AsLong, one_as_long, states_as_long, sampled_as_long, validated_active, adopted_pair}

-- as many results as watchpoints stay as many
as_many_results : (f : Term → WatchResult → WatchResult) (terms : List Term) (results : List WatchResult) → length results ≡ length terms →
    length (results_by f terms results) ≡ length terms
as_many_results f [] results many = refl
as_many_results f (t ∷ terms) [] many = absurd (omega (arith, many))
as_many_results f (t ∷ terms) (result ∷ results) many = ap suc (as_many_results f terms results (omega (arith, many)))

module _ {Image : Type 0} (images : Interpretation Image) where
  abbrev Sound : Kind → Image → Type 0
  Sound kind image = images.fault_of kind image ≡ None

  -- ---- the start

  sound_one : (kind : Kind) (meaning : FileMeaning Image) → IfSome (sound_image images kind meaning) (Sound kind)
  sound_one kind (Unreadable fault) = tt
  sound_one kind (Opened table size image) = by_fault (images.fault_of kind image) refl (is_named table (table_name kind))
    where
      by_fault : (fault : Option ImageFault) → images.fault_of kind image ≡ fault → (named : Bool) → IfSome (if named && is_none fault then Some image else None) (Sound kind)
      by_fault None e true = e
      by_fault None e false = tt
      by_fault (Some fault) e true = tt
      by_fault (Some fault) e false = tt

  sound_default : (kind : Kind) (files : List (Name × FileMeaning Image)) → IfSome (default_image images kind files) (Sound kind)
  sound_default kind files = by_file (value_under (default_file kind) files)
    where
      by_file : (o : Option (FileMeaning Image)) → IfSome (option_map_or (sound_image images kind) o None) (Sound kind)
      by_file None = tt
      by_file (Some meaning) = sound_one kind meaning

  -- in step, where these are in force
  in_step_by : (lc : LcNow Image) (force : Option (Pair Image)) → in_force images lc ≡ force → length lc.watch ≡ length (option_map_or images.terms force []) →
      length lc.points ≡ length (option_map_or images.rules force []) → IsJudged images Wdt lc.wdt → IsJudged images Adt lc.adt → IsInStep images lc
  in_step_by lc force e results points wdt adt = record {
    results = results ∙ ap (λ o. length (option_map_or images.terms o [])) (sym e);
    points = points ∙ ap (λ o. length (option_map_or images.rules o [])) (sym e);
    wdt = wdt;
    adt = adt;
  }

  pub start_in_step : (files : List (Name × FileMeaning Image)) → IsInStep images (lc_start by_counts images files).0
  start_in_step files = by_images (default_image images Wdt files) (default_image images Adt files) (sound_default Wdt files) (sound_default Adt files)
    where
      none : IsInStep images (started_with by_counts images None).0
      none = record { results = refl; points = refl; wdt = record { active = tt; waiting = tt }; adt = record { active = tt; waiting = tt } }

      by_match : (pair : Pair Image) (test : Bool) → images.matches pair ≡ test → Sound Wdt pair.wdt → Sound Adt pair.adt →
          IsInStep images (started_with by_counts images (if test then Some pair else None)).0
      by_match pair false e wdt adt = none
      by_match pair true e wdt adt =
          in_step_by (started_with by_counts images (Some pair)).0 (Some pair) (ap (λ test. if test then Some pair else None) e)
          (length-map (images.terms pair) (λ (t : Term). unseen_result)) (length-map (images.rules pair) (λ (rule : Actionpoint). record { state = rule.mode; past = by_counts.unsampled }))
          (record { active = wdt; waiting = tt }) (record { active = adt; waiting = tt })

      by_images : (a b : Option Image) → IfSome a (Sound Wdt) → IfSome b (Sound Adt) → IsInStep images (started_with by_counts images (paired images a b)).0
      by_images None b wdt adt = none
      by_images (Some a) None wdt adt = none
      by_images (Some a) (Some b) wdt adt =
          let pair : Pair Image = record { wdt = a; adt = b } in by_match pair (images.matches pair) refl wdt adt

  -- ---- packets

  module _ (lc : LcNow Image) (h : IsInStep images lc) where
    -- the same tables, as many results and points
    same_tables : (mode : LcMode) (watch : List WatchResult) (points : List (Point Tally)) → length watch ≡ length lc.watch → length points ≡ length lc.points →
        IsInStep images (record lc { mode = mode; watch = watch; points = points })
    same_tables mode watch points results count = record { results = results ∙ h.results; points = count ∙ h.points; wdt = h.wdt; adt = h.adt }

    command_in_step : (packet : List ℕ) → IsInStep images (unless_refused lc (lc_commanded packet lc)).0
    command_in_step packet = of_command (lc_command_in packet)
      where
        Stays : Result (LcNow Image) Refusal → Type 0
        Stays r = IsInStep images (unless_refused lc (r >>= (λ now. Ok (now, lc_command_done (function_code packet) ∷ [])))).0

        with_points : (r : Result (List (Point Tally)) Refusal) → AsLong (length lc.points) r → Stays (r >>= (λ points. Ok (record lc { points = points })))
        with_points (Ok points) as_long = same_tables lc.mode lc.watch points refl as_long
        with_points (Err refusal) as_long = h

        with_mode : (o : Option LcMode) → Stays (found o 154 >>= (λ mode. Ok (record lc { mode = mode })))
        with_mode None = h
        with_mode (Some mode) = same_tables mode lc.watch lc.points refl refl

        of_known : (command : LcCommand) → Stays (lc_obeyed command lc)
        of_known NoOperation = h
        of_known (SetMode number) = with_mode (mode_numbered number)
        of_known (SetState index number) = with_points (states_set index number lc.points) (states_as_long index number lc.points)
        of_known (TurnPermanentlyOff index) = with_points (one_set index turned_permanently_off lc.points) (one_as_long index turned_permanently_off lc.points)

        of_command : (r : Result LcCommand Refusal) →
            IsInStep images (unless_refused lc (r >>= (λ command. lc_obeyed command lc >>= (λ now. Ok (now, lc_command_done (function_code packet) ∷ []))))).0
        of_command (Err refusal) = h
        of_command (Ok command) = of_known command

    either_in_step : (test : Bool) (x y : LcNow Image × List Request) → IsInStep images x.0 → IsInStep images y.0 →
        IsInStep images (let s : LcNow Image × List Request = if test then x else y in s.0)
    either_in_step true x y a b = a
    either_in_step false x y a b = b

    results_for : (pair : Pair Image) → in_force images lc ≡ Some pair → length lc.watch ≡ length (images.terms pair)
    results_for pair e = h.results ∙ ap (λ o. length (option_map_or images.terms o [])) e

    telemetry_in_step : (packet : List ℕ) → IsInStep images (lc_telemetry by_counts images packet lc).0
    telemetry_in_step packet = either_in_step (is_disabled lc.mode) (lc, []) _ h (by_force (in_force images lc) refl)
      where
        by_force : (o : Option (Pair Image)) → in_force images lc ≡ o → IsInStep images (option_map_or (watched by_counts images packet lc) o (lc, [])).0
        by_force None e = h
        by_force (Some pair) e =
            same_tables lc.mode (results_by (seen_result packet) (images.terms pair) lc.watch) lc.points
            (as_many_results (seen_result packet) (images.terms pair) lc.watch (results_for pair e) ∙ sym (results_for pair e)) refl

    sample_in_step : (packet : List ℕ) → IsInStep images (unless_refused lc (lc_sample by_counts images packet lc)).0
    sample_in_step packet = by_request (sample_request (function_code packet) (payload packet))
      where
        aged : (ages : Bool) → length (let watch : List WatchResult = if ages then map aged_result lc.watch else lc.watch in watch) ≡ length lc.watch
        aged true = length-map lc.watch aged_result
        aged false = refl

        by_force : (request : SampleRequest) (o : Option (Pair Image)) → IsInStep images (option_map_or (sampled_by by_counts images request lc) o (lc, [])).0
        by_force request None = h
        by_force request (Some pair) =
            same_tables lc.mode _ _ (aged request.ages) (sampled_as_long by_counts request (images.terms pair) lc.mode lc.watch 0 (images.rules pair) lc.points)

        by_request : (r : Result SampleRequest Refusal) →
            IsInStep images (unless_refused lc (r >>= (λ request. Ok (if is_disabled lc.mode then (lc, []) else option_map_or (sampled_by by_counts images request lc) (in_force images lc) (lc, []))))).0
        by_request (Err refusal) = h
        by_request (Ok request) = either_in_step (is_disabled lc.mode) (lc, []) _ h (by_force request (in_force images lc))

    pub housekeeping_in_step : (packet : List ℕ) → IsInStep images (unless_refused lc (lc_housekeeping by_counts images packet lc)).0
    housekeeping_in_step packet = by_request (bare_request 0 (function_code packet) (payload packet))
      where
        wdt : Slot Image × List Request
        wdt = validated images Wdt lc.wdt

        adt : Slot Image × List Request
        adt = validated images Adt lc.adt

        now : LcNow Image
        now = record lc { wdt = wdt.0; adt = adt.0 }

        by_pair : (o : Option (Pair Image)) → pair_to_adopt images wdt.0 adt.0 ≡ o → IsInStep images (option_map_or (adopted by_counts images now) o (now, [])).0
        by_pair None e =
            in_step_by now (in_force images lc) (ap₂ (paired images) (validated_active images Wdt lc.wdt) (validated_active images Adt lc.adt)) h.results h.points
            (validated_judged images Wdt lc.wdt h.wdt) (validated_judged images Adt lc.adt h.adt)
        by_pair (Some pair) e =
            in_step_by (adopted by_counts images now pair).0 (Some pair) (adopted_pair images wdt.0 adt.0 pair e)
            (length-map (images.terms pair) (λ (t : Term). unseen_result)) (length-map (images.rules pair) (λ (rule : Actionpoint). record { state = rule.mode; past = by_counts.unsampled }))
            (taken_judged images Wdt wdt.0 (validated_judged images Wdt lc.wdt h.wdt)) (taken_judged images Adt adt.0 (validated_judged images Adt lc.adt h.adt))

        by_request : (r : Result (Unit {0}) Refusal) →
            IsInStep images (unless_refused lc (r >>= (λ _. let after : LcNow Image × List Request = option_map_or (adopted by_counts images now) (pair_to_adopt images wdt.0 adt.0) (now, []) in Ok (after.0, wdt.1 ++ adt.1 ++ after.1 ++ housekeeping_of by_counts after.0 ∷ [])))).0
        by_request (Err refusal) = h
        by_request (Ok request) = by_pair (pair_to_adopt images wdt.0 adt.0) refl

    pub packet_in_step : (packet : List ℕ) → IsInStep images (lc_packet by_counts images packet lc).0
    packet_in_step packet =
        let mid : ℕ = message_id packet in
        either_in_step (mid == lc_command_mid) _ _ (command_in_step packet)
        (either_in_step (mid == lc_housekeeping_request_mid) _ _ (housekeeping_in_step packet)
        (either_in_step (mid == sample_mid) _ _ (sample_in_step packet)
        (either_in_step (is_telemetry_mid mid) _ (lc, []) (telemetry_in_step packet) h)))
