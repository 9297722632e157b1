-- An application's events are its own.
use Rattle.std.proofs.Common.{ℕ, ◌+◌, Bool, true, false, ◌&&◌, ◌==◌, nat_le, List, [], ◌∷◌, ◌++◌, refl, Option, Some, None, if◌then◌else◌, Result, Ok, Err}
use Rattle.std.specs.Option.{option_map_or}
use Rattle.lc_model.specs.declared.kind.Kind.{Kind}
use Rattle.lc_model.specs.declared.kind.Kind.TheVariants.{Wdt, Adt}
use Rattle.lc_model.specs.declared.field.Term.{Term}
use Rattle.lc_model.specs.declared.mode.LcMode.{LcMode}
use Rattle.lc_model.specs.declared.mode.LcMode.TheVariants as mode
use Rattle.lc_model.specs.declared.mode.ApMode.{ApMode}
use Rattle.lc_model.specs.declared.mode.ApMode.TheVariants as state
use Rattle.lc_model.specs.declared.mode.ApResult.TheVariants.{Pass, Fail}
use Rattle.lc_model.specs.Name.{Name, lc_name, counter_name}
use Rattle.lc_model.specs.Packet.{function_code, payload, is_telemetry_mid, message_id, lc_command_mid, lc_housekeeping_request_mid, sample_mid}
use Rattle.lc_model.specs.Refusal.{Refusal, ◌>>=◌}
use Rattle.lc_model.specs.Rule.{Actionpoint}
use Rattle.lc_model.specs.Tables.Image.{ImageFault}
use Rattle.lc_model.specs.Tables.Slot.{Slot, Asked, waiting_at}
use Rattle.lc_model.specs.Tables.Interpretation.{Interpretation, Pair}
use Rattle.lc_model.specs.Events.Request.{Request, tables_adopted, turned_to_fail, turned_to_pass, failed_passive, short_packet, lc_command_done}
use Rattle.lc_model.specs.Command.{LcCommand, bare_request, sample_request, takes, lc_command_in}
use Rattle.lc_model.specs.declared.command.SampleRequest.{SampleRequest}
use Rattle.lc_model.specs.LimitChecker.Watch.{History, result_of}
use Rattle.lc_model.specs.LimitChecker.Past.{Past, has_turned, turns, run_of_fails, quiet_count}
use Rattle.lc_model.specs.Count.{capped}
use Rattle.lc_model.specs.LimitChecker.Reaction.{Reaction, turn_reports, failure_requests, on_failure, reaction}
use Rattle.lc_model.specs.LimitChecker.Steps.{Point, LcStep, by_lists, is_disabled, is_sampled, is_short, in_force, told_verdict, validated, pair_to_adopt, lc_obeyed, lc_commanded, unless_refused, sampled_point, sampled_points, watched, lc_telemetry, sampled_by, lc_sample, adopted, housekeeping_of, lc_housekeeping, lc_packet}
use Rattle.lc_model.specs.Host.World.{Lc}
use Rattle.lc_model.specs.Host.React.{counter_answer, counter_packet}
use Rattle.host_refinement.proofs.Deliveries.{AreOf}

pub both_of : (sender : Name) (xs ys : List Request) → AreOf sender xs → AreOf sender ys → AreOf sender (xs ++ ys)
both_of sender [] ys h k = k
both_of sender (x ∷ xs) ys h k = (h.0, both_of sender xs ys h.1 k)

either_of : (sender : Name) (test : Bool) (xs ys : List Request) → AreOf sender xs → AreOf sender ys → AreOf sender (if test then xs else ys)
either_of sender true xs ys h k = h
either_of sender false xs ys h k = k

-- ---- the counter

pub counter_own : (packet : List ℕ) (accepted : ℕ) → AreOf counter_name (counter_packet packet accepted).1
counter_own packet accepted = by_request (bare_request 1 (function_code packet) (payload packet))
  where
    by_request : (r : Result (Unit {0}) Refusal) → AreOf counter_name (counter_answer accepted r).1
    by_request (Ok command) = (refl, tt)
    by_request (Err refusal) = (refl, tt)

-- ---- the Limit Checker

turns_own : (rule : Actionpoint) (point : ℕ) (past : Past) → AreOf lc_name (turn_reports rule point past)
turns_own rule point past =
    either_of lc_name (has_turned Pass Fail past && nat_le (capped (turns Pass Fail past)) rule.report.pass_to_fail) (turned_to_fail point ∷ []) _ (refl, tt)
    (either_of lc_name (has_turned Fail Pass past && nat_le (capped (turns Fail Pass past)) rule.report.fail_to_pass) (turned_to_pass point ∷ []) [] (refl, tt) tt)

failures_own : (rule : Actionpoint) (point : ℕ) (mode : LcMode) (run : ℕ) → AreOf lc_name (failure_requests rule point mode run)
failures_own rule point mode.Active run = (tt, (refl, tt))
failures_own rule point mode.Passive run = (refl, tt)
failures_own rule point mode.Disabled run = tt

failure_own : (rule : Actionpoint) (point : ℕ) (mode : LcMode) (s : ApMode) (past : Past) → AreOf lc_name (on_failure rule point mode s past).requests
failure_own rule point mode state.Active past = failures_own rule point mode (run_of_fails past)
failure_own rule point mode state.Passive past =
    either_of lc_name (nat_le (quiet_count rule.fails past) rule.report.passive) (failed_passive point ∷ []) [] (refl, tt) tt
failure_own rule point mode state.Disabled past = tt
failure_own rule point mode state.PermOff past = tt

reaction_own : (rule : Actionpoint) (point : ℕ) (mode : LcMode) (past : Past) → AreOf lc_name (reaction rule point mode past).requests
reaction_own rule point mode [] = tt
reaction_own rule point mode (sample ∷ past) =
    both_of lc_name (turn_reports rule point (sample ∷ past)) _ (turns_own rule point (sample ∷ past)) (by_run (nat_le rule.fails (run_of_fails (sample ∷ past))))
  where
    by_run : (test : Bool) → AreOf lc_name (let failure : Reaction = if test then on_failure rule point mode sample.state (sample ∷ past) else record { requests = []; state = sample.state } in failure.requests)
    by_run true = failure_own rule point mode sample.state (sample ∷ past)
    by_run false = tt

module _ {Image : Type 0} (images : Interpretation Image) where
  samples_own : (request : SampleRequest) (terms : List Term) (mode : LcMode) (h : History) (n : ℕ) (rules : List Actionpoint) (points : List (Point Past)) →
      AreOf lc_name (sampled_points by_lists request terms mode h n rules points).1
  samples_own request terms mode h n [] points = tt
  samples_own request terms mode h n (rule ∷ rules) [] = tt
  samples_own request terms mode h n (rule ∷ rules) (point ∷ points) =
      both_of lc_name _ (sampled_points by_lists request terms mode h (n + 1) rules points).1 (here (takes request n && is_sampled point.state)) (samples_own request terms mode h (n + 1) rules points)
    where
      here : (test : Bool) → AreOf lc_name (let p : Point Past × List Request = if test then sampled_point by_lists terms mode h n rule point else (point, []) in p.1)
      here true = reaction_own rule n mode (record { result = result_of rule.condition h; state = point.state } ∷ point.past)
      here false = tt

  -- ---- packets

  verdict_own : (kind : Kind) (fault : Option ImageFault) (slot : Slot Image) → AreOf lc_name (told_verdict images kind fault slot).1
  verdict_own kind None slot = (refl, tt)
  verdict_own kind (Some fault) slot = (refl, tt)

  validated_own : (kind : Kind) (slot : Slot Image) → AreOf lc_name (validated images kind slot).1
  validated_own kind slot = by_waiting (waiting_at Asked slot)
    where
      by_waiting : (o : Option Image) → AreOf lc_name (option_map_or (λ image. told_verdict images kind (images.fault_of kind image) slot) o (slot, [])).1
      by_waiting None = tt
      by_waiting (Some image) = verdict_own kind (images.fault_of kind image) slot

  command_own : (packet : List ℕ) (lc : Lc Image) → AreOf lc_name (unless_refused lc (lc_commanded packet lc)).1
  command_own packet lc = by_command (lc_command_in packet)
    where
      by_after : (r : Result (Lc Image) Refusal) → AreOf lc_name (unless_refused lc (r >>= (λ after. Ok (after, lc_command_done (function_code packet) ∷ [])))).1
      by_after (Ok after) = (refl, tt)
      by_after (Err refusal) = (refl, tt)

      by_command : (r : Result LcCommand Refusal) → AreOf lc_name (unless_refused lc (r >>= (λ command. lc_obeyed command lc >>= (λ after. Ok (after, lc_command_done (function_code packet) ∷ []))))).1
      by_command (Ok command) = by_after (lc_obeyed command lc)
      by_command (Err refusal) = (refl, tt)

  housekeeping_own : (packet : List ℕ) (lc : Lc Image) → AreOf lc_name (unless_refused lc (lc_housekeeping by_lists images packet lc)).1
  housekeeping_own packet lc = by_request (bare_request 0 (function_code packet) (payload packet))
    where
      wdt : Slot Image × List Request
      wdt = validated images Wdt lc.wdt

      adt : Slot Image × List Request
      adt = validated images Adt lc.adt

      now : Lc Image
      now = record lc { wdt = wdt.0; adt = adt.0 }

      verdicts : AreOf lc_name (wdt.1 ++ adt.1)
      verdicts = both_of lc_name wdt.1 adt.1 (validated_own Wdt lc.wdt) (validated_own Adt lc.adt)

      by_pair : (o : Option (Pair Image)) →
          let after : LcStep Image History Past = option_map_or (adopted by_lists images now) o (now, []) in
          AreOf lc_name (wdt.1 ++ adt.1 ++ after.1 ++ housekeeping_of by_lists after.0 ∷ [])
      by_pair None = both_of lc_name (wdt.1 ++ adt.1 ++ []) _ (both_of lc_name (wdt.1 ++ adt.1) [] verdicts tt) (tt, tt)
      by_pair (Some pair) =
          both_of lc_name (wdt.1 ++ adt.1 ++ tables_adopted ∷ []) _ (both_of lc_name (wdt.1 ++ adt.1) (tables_adopted ∷ []) verdicts (refl, tt)) (tt, tt)

      by_request : (r : Result (Unit {0}) Refusal) →
          AreOf lc_name (unless_refused lc (r >>= (λ _. let after : LcStep Image History Past = option_map_or (adopted by_lists images now) (pair_to_adopt images wdt.0 adt.0) (now, []) in Ok (after.0, wdt.1 ++ adt.1 ++ after.1 ++ housekeeping_of by_lists after.0 ∷ [])))).1
      by_request (Ok request) = by_pair (pair_to_adopt images wdt.0 adt.0)
      by_request (Err refusal) = (refl, tt)

  sample_own : (packet : List ℕ) (lc : Lc Image) → AreOf lc_name (unless_refused lc (lc_sample by_lists images packet lc)).1
  sample_own packet lc = by_request (sample_request (function_code packet) (payload packet))
    where
      by_force : (request : SampleRequest) (o : Option (Pair Image)) → AreOf lc_name (option_map_or (sampled_by by_lists images request lc) o (lc, [])).1
      by_force request None = tt
      by_force request (Some pair) = samples_own request (images.terms pair) lc.mode lc.watch 0 (images.rules pair) lc.points

      by_mode : (request : SampleRequest) (test : Bool) → AreOf lc_name (let s : LcStep Image History Past = if test then (lc, []) else option_map_or (sampled_by by_lists images request lc) (in_force images lc) (lc, []) in s.1)
      by_mode request true = tt
      by_mode request false = by_force request (in_force images lc)

      by_request : (r : Result SampleRequest Refusal) →
          AreOf lc_name (unless_refused lc (r >>= (λ request. Ok (if is_disabled lc.mode then (lc, []) else option_map_or (sampled_by by_lists images request lc) (in_force images lc) (lc, []))))).1
      by_request (Ok request) = by_mode request (is_disabled lc.mode)
      by_request (Err refusal) = (refl, tt)

  telemetry_own : (packet : List ℕ) (lc : Lc Image) → AreOf lc_name (lc_telemetry by_lists images packet lc).1
  telemetry_own packet lc = by_mode (is_disabled lc.mode)
    where
      by_force : (o : Option (Pair Image)) → AreOf lc_name (option_map_or (watched by_lists images packet lc) o (lc, [])).1
      by_force None = tt
      by_force (Some pair) = either_of lc_name (is_short (images.terms pair) packet) (short_packet (message_id packet) ∷ []) [] (refl, tt) tt

      by_mode : (test : Bool) → AreOf lc_name (let s : LcStep Image History Past = if test then (lc, []) else option_map_or (watched by_lists images packet lc) (in_force images lc) (lc, []) in s.1)
      by_mode true = tt
      by_mode false = by_force (in_force images lc)

  step_either : (test : Bool) (x y : LcStep Image History Past) → AreOf lc_name x.1 → AreOf lc_name y.1 → AreOf lc_name (let s : LcStep Image History Past = if test then x else y in s.1)
  step_either true x y h k = h
  step_either false x y h k = k

  pub lc_own_requests : (packet : List ℕ) (lc : Lc Image) → AreOf lc_name (lc_packet by_lists images packet lc).1
  lc_own_requests packet lc =
      let mid : ℕ = message_id packet in
      step_either (mid == lc_command_mid) (unless_refused lc (lc_commanded packet lc)) _ (command_own packet lc)
      (step_either (mid == lc_housekeeping_request_mid) (unless_refused lc (lc_housekeeping by_lists images packet lc)) _ (housekeeping_own packet lc)
      (step_either (mid == sample_mid) (unless_refused lc (lc_sample by_lists images packet lc)) _ (sample_own packet lc)
      (step_either (is_telemetry_mid mid) (lc_telemetry by_lists images packet lc) (lc, []) (telemetry_own packet lc) tt)))
