-- Rules that never fail stay without failures over every step of the Limit Checker, and nobody requests their sequences.
use Rattle.std.proofs.Common.{◌≡◌, ℕ, zero, suc, ◌+◌, Bool, true, false, ◌&&◌, ◌==◌, List, [], ◌∷◌, ◌++◌, map, slice_get, slice_set, refl, ap, ap₂, sym, subst, arith, Option, Some, None, Result, Ok, Err, if◌then◌else◌}
use Rattle.std.specs.Prelude.{◌≢◌, nat_le}
use Rattle.std.proofs.lemmas.Bool.Decides.{nat_tests}
use Rattle.std.specs.Option.{option_map_or}
use Rattle.lc_model.specs.declared.kind.Kind.{Kind}
use Rattle.lc_model.specs.declared.kind.Kind.TheVariants.{Wdt, Adt}
use Rattle.lc_model.specs.declared.field.Term.{Term}
use Rattle.lc_model.specs.declared.mode.LcMode.{LcMode}
use Rattle.lc_model.specs.declared.mode.LcMode.TheVariants as mode
use Rattle.lc_model.specs.declared.mode.ApMode.{ApMode}
use Rattle.lc_model.specs.declared.mode.ApMode.TheVariants as state
use Rattle.lc_model.specs.declared.mode.ApResult.TheVariants as result
use Rattle.lc_model.specs.Packet.{function_code, payload, is_telemetry_mid, message_id, lc_command_mid, lc_housekeeping_request_mid, sample_mid}
use Rattle.lc_model.specs.Refusal.{Refusal, ◌>>=◌, found}
use Rattle.lc_model.specs.Rule.{Actionpoint}
use Rattle.lc_model.specs.Count.{capped}
use Rattle.lc_model.specs.Tables.Image.{ImageFault}
use Rattle.lc_model.specs.Tables.Slot.{Slot, Asked, waiting_at}
use Rattle.lc_model.specs.Tables.Interpretation.{Interpretation, Pair}
use Rattle.lc_model.specs.Events.Request.{Request, Sequence, lc_command_done, failed_passive, turned_to_fail, turned_to_pass}
use Rattle.lc_model.specs.Command.{LcCommand, NoOperation, SetMode, SetState, TurnPermanentlyOff, lc_command, mode_numbered, state_numbered, all_points, bare_request, sample_request, takes}
use Rattle.lc_model.specs.declared.command.SampleRequest.{SampleRequest}
use Rattle.lc_model.specs.LimitChecker.Watch.{History}
use Rattle.lc_model.specs.LimitChecker.Past.{Past, Sample, run_of_fails, has_turned, turns, quiet_count}
use Rattle.lc_model.specs.LimitChecker.Reaction.{reaction, turn_reports, failure_requests, on_failure}
use Rattle.lc_model.specs.LimitChecker.Steps.{LcStep, Point, by_lists, paired, in_force, default_pair, told_verdict, validated, pair_to_adopt, is_disabled, is_sampled, is_permanently_off, is_short, all_set, one_set, settable, turned_permanently_off, states_set, lc_obeyed, lc_commanded, unless_refused, sampled_point, sampled_points, housekeeping_of, watched, sampled_by, started_with, lc_telemetry, lc_sample, adopted, lc_housekeeping, lc_packet}
use Rattle.lc_model.specs.Host.World.{Lc}
use Rattle.lc_model.proofs.LimitChecker.StepLaws.{validated_active}
use Rattle.rule_analysis.specs.Quiet.{HasNoFailure, IsQuiet, HaveNoFailures, pasts_of, IsQuietSoFar, StartsQuiet, IsOfQuietRules, AreWithout, NobodyRequests}
use Rattle.rule_analysis.proofs.QuietLaws.{quiet_rules_stay_quiet}

-- ---- pasts

fresh : (rules others : List Actionpoint) → HaveNoFailures rules (pasts_of (map (λ (rule : Actionpoint). record { state = rule.mode; past = [] }) others))
fresh [] others = tt
fresh (rule ∷ rules) [] = tt
fresh (rule ∷ rules) (other ∷ others) = (λ quiet. tt, fresh rules others)

abbrev KeepsPasts : List (Point Past) → Result (List (Point Past)) Refusal → Type 0
KeepsPasts points (Ok now) = pasts_of now ≡ pasts_of points
KeepsPasts points (Err refusal) = Unit {0}

past_in : Option (Point Past) → Past
past_in (Some point) = point.past
past_in None = []

set_keeps : (points : List (Point Past)) (index : ℕ) (point : Point Past) (state : ApMode) → slice_get points index ≡ Some point →
    pasts_of (slice_set points index (record point { state = state })) ≡ pasts_of points
unfolding past_in
set_keeps [] zero point state e = refl
set_keeps [] (suc index) point state e = refl
set_keeps (first ∷ points) zero point state e = ap (λ past. past ∷ pasts_of points) (sym (ap past_in e))
set_keeps (first ∷ points) (suc index) point state e = ap (λ others. first.past ∷ others) (set_keeps points index point state e)

one_keeps : (index : ℕ) (change : ApMode → Result ApMode Refusal) (points : List (Point Past)) → KeepsPasts points (one_set index change points)
one_keeps index change points = at_point (slice_get points index) refl
  where
    at_state : (point : Point Past) → slice_get points index ≡ Some point → (r : Result ApMode Refusal) →
        KeepsPasts points (r >>= (λ state. Ok (slice_set points index (record point { state = state }))))
    at_state point e (Ok state) = set_keeps points index point state e
    at_state point e (Err refusal) = tt

    at_point : (o : Option (Point Past)) → slice_get points index ≡ o →
        KeepsPasts points (found o 153 >>= (λ (point : Point Past). change point.state >>= (λ state. Ok (slice_set points index (record point { state = state })))))
    at_point None e = tt
    at_point (Some point) e = at_state point e (change point.state)

all_keep : (state : ApMode) (points : List (Point Past)) → pasts_of (all_set state points) ≡ pasts_of points
all_keep state [] = refl
all_keep state (point ∷ points) = ap₂ (λ past pasts. past ∷ pasts) (one (is_permanently_off point.state)) (all_keep state points)
  where
    one : (off : Bool) → (if off then point else record point { state = state }).past ≡ point.past
    one true = refl
    one false = refl

states_keep : (index number : ℕ) (points : List (Point Past)) → KeepsPasts points (states_set index number points)
states_keep index number points = by_index (index == all_points)
  where
    each : (o : Option ApMode) → KeepsPasts points (found o 154 >>= (λ state. Ok (all_set state points)))
    each None = tt
    each (Some state) = all_keep state points

    by_index : (all : Bool) →
        KeepsPasts points (if all then (found (state_numbered number) 154 >>= (λ state. Ok (all_set state points))) else one_set index (settable number) points)
    by_index true = each (state_numbered number)
    by_index false = one_keeps index (settable number) points

-- ---- samples

here_past : (taken : Bool) (terms : List Term) (mode : LcMode) (h : History) (n : ℕ) (rule : Actionpoint) (point : Point Past) →
    (IsQuiet rule → HasNoFailure point.past) → IsQuiet rule →
    HasNoFailure (if taken then sampled_point by_lists terms mode h n rule point else (point, [])).0.past
here_past true terms mode h n rule point so_far quiet = (quiet_rules_stay_quiet terms mode h n rule point quiet (so_far quiet)).past
here_past false terms mode h n rule point so_far quiet = so_far quiet

sampled_keep : (request : SampleRequest) (terms : List Term) (mode : LcMode) (h : History) (n : ℕ) (rules : List Actionpoint) (points : List (Point Past)) →
    HaveNoFailures rules (pasts_of points) → HaveNoFailures rules (pasts_of (sampled_points by_lists request terms mode h n rules points).0)
sampled_keep request terms mode h n [] points so_far = tt
sampled_keep request terms mode h n (rule ∷ rules) [] so_far = tt
sampled_keep request terms mode h n (rule ∷ rules) (point ∷ points) so_far = (
  here_past (takes request n && is_sampled point.state) terms mode h n rule point so_far.0,
  sampled_keep request terms mode h (n + 1) rules points so_far.1,
)

joined : (sequence : ℕ) (xs ys : List Request) → AreWithout sequence xs → AreWithout sequence ys → AreWithout sequence (xs ++ ys)
joined sequence [] ys no_x no_y = no_y
joined sequence (x ∷ xs) ys no_x no_y = (no_x.0, joined sequence xs ys no_x.1 no_y)

event_alone : (sequence : ℕ) (test : Bool) (event : Request) → event ≢ Sequence sequence → AreWithout sequence (if test then event ∷ [] else [])
event_alone sequence true event differs = (differs, tt)
event_alone sequence false event differs = tt

-- a rule asks for its own sequence alone
failure_without : (sequence : ℕ) (rule : Actionpoint) (n : ℕ) (mode : LcMode) (run : ℕ) → rule.sequence ≢ sequence →
    AreWithout sequence (failure_requests rule n mode run)
failure_without sequence rule n mode.Active run other = (λ e. other (number_of e), ((λ e. cc), tt))
  where
    number_of : Sequence rule.sequence ≡ Sequence sequence → rule.sequence ≡ sequence
    number_of e = cc
failure_without sequence rule n mode.Passive run other = ((λ e. cc), tt)
failure_without sequence rule n mode.Disabled run other = tt

on_failure_without : (sequence : ℕ) (rule : Actionpoint) (n : ℕ) (mode : LcMode) (state : ApMode) (past : Past) → rule.sequence ≢ sequence →
    AreWithout sequence (on_failure rule n mode state past).requests
on_failure_without sequence rule n mode state.Active past other = failure_without sequence rule n mode (run_of_fails past) other
on_failure_without sequence rule n mode state.Passive past other =
    event_alone sequence (nat_le (quiet_count rule.fails past) rule.report.passive) (failed_passive n) (λ e. cc)
on_failure_without sequence rule n mode state.Disabled past other = tt
on_failure_without sequence rule n mode state.PermOff past other = tt

reports_without : (sequence : ℕ) (rule : Actionpoint) (n : ℕ) (past : Past) → AreWithout sequence (turn_reports rule n past)
reports_without sequence rule n past =
    first (has_turned result.Pass result.Fail past && nat_le (capped (turns result.Pass result.Fail past)) rule.report.pass_to_fail)
  where
    first : (test : Bool) → AreWithout sequence (if test then turned_to_fail n ∷ []
        else if has_turned result.Fail result.Pass past && nat_le (capped (turns result.Fail result.Pass past)) rule.report.fail_to_pass then turned_to_pass n ∷ [] else [])
    first true = ((λ e. cc), tt)
    first false =
        event_alone sequence (has_turned result.Fail result.Pass past && nat_le (capped (turns result.Fail result.Pass past)) rule.report.fail_to_pass)
        (turned_to_pass n) (λ e. cc)

reaction_without : (sequence : ℕ) (rule : Actionpoint) (n : ℕ) (mode : LcMode) (sample : Sample) (past : Past) → rule.sequence ≢ sequence →
    AreWithout sequence (reaction rule n mode (sample ∷ past)).requests
reaction_without sequence rule n mode sample past other =
    joined sequence (turn_reports rule n (sample ∷ past)) _ (reports_without sequence rule n (sample ∷ past)) (by_enough (nat_le rule.fails (run_of_fails (sample ∷ past))))
  where
    by_enough : (test : Bool) →
        AreWithout sequence (if test then on_failure rule n mode sample.state (sample ∷ past) else record { requests = []; state = sample.state }).requests
    by_enough true = on_failure_without sequence rule n mode sample.state (sample ∷ past) other
    by_enough false = tt

point_without : (sequence : ℕ) (terms : List Term) (mode : LcMode) (h : History) (n : ℕ) (rule : Actionpoint) (point : Point Past) →
    (rule.sequence ≡ sequence → IsQuiet rule) → (IsQuiet rule → HasNoFailure point.past) →
    AreWithout sequence (sampled_point by_lists terms mode h n rule point).1
point_without sequence terms mode h n rule point own so_far = by_number (rule.sequence == sequence) refl
  where
    no_requests : IsQuiet rule → AreWithout sequence (sampled_point by_lists terms mode h n rule point).1
    no_requests quiet = subst (AreWithout sequence) (sym (quiet_rules_stay_quiet terms mode h n rule point quiet (so_far quiet)).asks) tt

    same : (rule.sequence == sequence) ≡ true → rule.sequence ≡ sequence
    same e = grind (arith, nat_tests)

    differ : (rule.sequence == sequence) ≡ false → rule.sequence ≢ sequence
    differ e = grind (arith, nat_tests)

    by_number : (test : Bool) → (rule.sequence == sequence) ≡ test → AreWithout sequence (sampled_point by_lists terms mode h n rule point).1
    by_number true e = no_requests (own (same e))
    by_number false e = reaction_without sequence rule n mode _ point.past (differ e)

sampled_without : (sequence : ℕ) (request : SampleRequest) (terms : List Term) (mode : LcMode) (h : History) (n : ℕ) (rules : List Actionpoint) (points : List (Point Past)) →
    IsOfQuietRules sequence rules → HaveNoFailures rules (pasts_of points) → AreWithout sequence (sampled_points by_lists request terms mode h n rules points).1
sampled_without sequence request terms mode h n [] points own so_far = tt
sampled_without sequence request terms mode h n (rule ∷ rules) [] own so_far = tt
sampled_without sequence request terms mode h n (rule ∷ rules) (point ∷ points) own so_far =
    joined sequence _ _ (here (takes request n && is_sampled point.state)) (sampled_without sequence request terms mode h (n + 1) rules points own.1 so_far.1)
  where
    here : (taken : Bool) → AreWithout sequence (if taken then sampled_point by_lists terms mode h n rule point else (point, [])).1
    here true = point_without sequence terms mode h n rule point own.0 so_far.0
    here false = tt

-- ---- the Limit Checker

module _ {Image : Type 0} (images : Interpretation Image) where
  pub starts_quiet : StartsQuiet images
  starts_quiet files = by_pair (default_pair images files)
    where
      by_pair : (o : Option (Pair Image)) → IsQuietSoFar images (started_with by_lists images o).0
      by_pair None = nothing (option_map_or images.rules (in_force images (started_with by_lists images None).0) [])
        where
          nothing : (rules : List Actionpoint) → HaveNoFailures rules []
          nothing [] = tt
          nothing (rule ∷ rules) = tt
      by_pair (Some pair) = fresh (option_map_or images.rules (in_force images (started_with by_lists images (Some pair)).0) []) (images.rules pair)

  -- what a step promises
  abbrev Quiet : ℕ → LcStep Image History Past → Type 0
  Quiet sequence step = IsQuietSoFar images step.0 × AreWithout sequence step.1

  module _ (sequence : ℕ) (lc : Lc Image) (so_far : IsQuietSoFar images lc)
      (own : IsOfQuietRules sequence (option_map_or images.rules (in_force images lc) [])) where
    refused_quiet : (refusal : Refusal) → Quiet sequence (unless_refused lc (Err refusal))
    refused_quiet refusal = (so_far, ((λ e. cc), tt))

    command_quiet : (packet : List ℕ) → Quiet sequence (unless_refused lc (lc_commanded packet lc))
    command_quiet packet = of_command (lc_command (function_code packet) (payload packet))
      where
        After : Result (Lc Image) Refusal → Type 0
        After r = Quiet sequence (unless_refused lc (r >>= (λ now. Ok (now, lc_command_done (function_code packet) ∷ []))))

        with_points : (r : Result (List (Point Past)) Refusal) → KeepsPasts lc.points r → After (r >>= (λ points. Ok (record lc { points = points })))
        with_points (Ok points) same =
            (subst (HaveNoFailures (option_map_or images.rules (in_force images lc) [])) (sym same) so_far, ((λ e. cc), tt))
        with_points (Err refusal) same = refused_quiet refusal

        with_mode : (o : Option LcMode) → After (found o 154 >>= (λ mode. Ok (record lc { mode = mode })))
        with_mode None = (so_far, ((λ e. cc), tt))
        with_mode (Some mode) = (so_far, ((λ e. cc), tt))

        of_known : (command : LcCommand) → After (lc_obeyed command lc)
        of_known NoOperation = (so_far, ((λ e. cc), tt))
        of_known (SetMode number) = with_mode (mode_numbered number)
        of_known (SetState index number) = with_points (states_set index number lc.points) (states_keep index number lc.points)
        of_known (TurnPermanentlyOff index) =
            with_points (one_set index turned_permanently_off lc.points) (one_keeps index turned_permanently_off lc.points)

        of_command : (r : Result LcCommand Refusal) →
            Quiet sequence (unless_refused lc (r >>= (λ command. lc_obeyed command lc >>= (λ now. Ok (now, lc_command_done (function_code packet) ∷ [])))))
        of_command (Err refusal) = refused_quiet refusal
        of_command (Ok command) = of_known command

    telemetry_quiet : (packet : List ℕ) → Quiet sequence (lc_telemetry by_lists images packet lc)
    telemetry_quiet packet = by_mode (is_disabled lc.mode)
      where
        by_force : (o : Option (Pair Image)) → Quiet sequence (option_map_or (watched by_lists images packet lc) o (lc, []))
        by_force None = (so_far, tt)
        by_force (Some pair) = (so_far, event_alone sequence (is_short (images.terms pair) packet) _ (λ e. cc))

        by_mode : (disabled : Bool) →
            Quiet sequence (if disabled then (lc, []) else option_map_or (watched by_lists images packet lc) (in_force images lc) (lc, []))
        by_mode true = (so_far, tt)
        by_mode false = by_force (in_force images lc)

    sample_quiet : (packet : List ℕ) → Quiet sequence (unless_refused lc (lc_sample by_lists images packet lc))
    sample_quiet packet = of_request (sample_request (function_code packet) (payload packet))
      where
        by_force : (request : SampleRequest) (o : Option (Pair Image)) → in_force images lc ≡ o →
            Quiet sequence (option_map_or (sampled_by by_lists images request lc) o (lc, []))
        by_force request None e = (so_far, tt)
        by_force request (Some pair) e =
            let rules_are = ap (λ o. option_map_or images.rules o []) e in
            let quiet = subst (λ rules. HaveNoFailures rules (pasts_of lc.points)) rules_are so_far in (
              subst (λ rules. HaveNoFailures rules (pasts_of (sampled_points by_lists request (images.terms pair) lc.mode lc.watch 0 (images.rules pair) lc.points).0)) (sym rules_are)
                  (sampled_keep request (images.terms pair) lc.mode lc.watch 0 (images.rules pair) lc.points quiet),
              sampled_without sequence request (images.terms pair) lc.mode lc.watch 0 (images.rules pair) lc.points
                  (subst (IsOfQuietRules sequence) rules_are own) quiet,
            )

        by_mode : (request : SampleRequest) (disabled : Bool) →
            Quiet sequence (if disabled then (lc, []) else option_map_or (sampled_by by_lists images request lc) (in_force images lc) (lc, []))
        by_mode request true = (so_far, tt)
        by_mode request false = by_force request (in_force images lc) refl

        of_request : (r : Result SampleRequest Refusal) →
            Quiet sequence (unless_refused lc (r >>= (λ request. Ok (if is_disabled lc.mode then (lc, []) else option_map_or (sampled_by by_lists images request lc) (in_force images lc) (lc, [])))))
        of_request (Err refusal) = refused_quiet refusal
        of_request (Ok request) = by_mode request (is_disabled lc.mode)

    validated_without : (kind : Kind) (slot : Slot Image) → AreWithout sequence (validated images kind slot).1
    validated_without kind slot = by_waiting (waiting_at Asked slot)
      where
        told : (o : Option ImageFault) → AreWithout sequence (told_verdict images kind o slot).1
        told None = ((λ e. cc), tt)
        told (Some fault) = ((λ e. cc), tt)

        by_waiting : (o : Option Image) → AreWithout sequence (option_map_or (λ image. told_verdict images kind (images.fault_of kind image) slot) o (slot, [])).1
        by_waiting None = tt
        by_waiting (Some image) = told (images.fault_of kind image)

    housekeeping_quiet : (packet : List ℕ) → Quiet sequence (unless_refused lc (lc_housekeeping by_lists images packet lc))
    housekeeping_quiet packet = of_request (bare_request 0 (function_code packet) (payload packet))
      where
        wdt : Slot Image × List Request
        wdt = validated images Wdt lc.wdt

        adt : Slot Image × List Request
        adt = validated images Adt lc.adt

        slots : Lc Image
        slots = record lc { wdt = wdt.0; adt = adt.0 }

        after : LcStep Image History Past
        after = option_map_or (adopted by_lists images slots) (pair_to_adopt images wdt.0 adt.0) (slots, [])

        by_adoption : (o : Option (Pair Image)) → Quiet sequence (option_map_or (adopted by_lists images slots) o (slots, []))
        by_adoption None = (
          subst (λ o. HaveNoFailures (option_map_or images.rules o []) (pasts_of lc.points))
              (sym (ap₂ (paired images) (validated_active images Wdt lc.wdt) (validated_active images Adt lc.adt))) so_far,
          tt,
        )
        by_adoption (Some pair) =
            (fresh (option_map_or images.rules (in_force images (adopted by_lists images slots pair).0) []) (images.rules pair), ((λ e. cc), tt))

        of_request : (r : Result (Unit {0}) Refusal) →
            Quiet sequence (unless_refused lc (r >>= (λ _. let after : LcStep Image History Past = option_map_or (adopted by_lists images slots) (pair_to_adopt images wdt.0 adt.0) (slots, []) in Ok (after.0, wdt.1 ++ adt.1 ++ after.1 ++ housekeeping_of by_lists after.0 ∷ []))))
        of_request (Err refusal) = refused_quiet refusal
        of_request (Ok request) =
            let step : Quiet sequence after = by_adoption (pair_to_adopt images wdt.0 adt.0) in
            let verdicts = joined sequence wdt.1 adt.1 (validated_without Wdt lc.wdt) (validated_without Adt lc.adt) in
            let steps = joined sequence (wdt.1 ++ adt.1) after.1 verdicts step.1 in
            (step.0, joined sequence (wdt.1 ++ adt.1 ++ after.1) (housekeeping_of by_lists after.0 ∷ []) steps ((λ e. cc), tt))

    quiet_branch : (test : Bool) (x y : LcStep Image History Past) → Quiet sequence x → Quiet sequence y → Quiet sequence (if test then x else y)
    quiet_branch true x y at_x at_y = at_x
    quiet_branch false x y at_x at_y = at_y

    packet_quiet : (packet : List ℕ) → Quiet sequence (lc_packet by_lists images packet lc)
    packet_quiet packet =
        let mid : ℕ = message_id packet in
        quiet_branch (mid == lc_command_mid) _ _ (command_quiet packet)
        (quiet_branch (mid == lc_housekeeping_request_mid) _ _ (housekeeping_quiet packet)
        (quiet_branch (mid == sample_mid) _ _ (sample_quiet packet)
        (quiet_branch (is_telemetry_mid mid) _ (lc, []) (telemetry_quiet packet) (so_far, tt))))

  pub nobody_requests : NobodyRequests images
  nobody_requests sequence packet lc so_far own = packet_quiet sequence lc so_far own packet
