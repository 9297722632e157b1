-- A sample request, as the application answers it.
use Rattle.std.proofs.Common.{◌≡◌, refl, ap, sym, ◌∙◌, ℕ, ◌+◌, ◌≤◌, Bool, true, false, ◌==◌, List, [], ◌∷◌, length, arith, Option, Some, None, Result, Ok, Err, if◌then◌else◌}
use Rattle.std.specs.Prelude.{IfSome}
use Rattle.lc_model.specs.declared.command.SampleRequest.{SampleRequest}
use Rattle.lc_model.specs.Name.{lc_name}
use Rattle.lc_model.specs.Packet.{message_id, function_code, payload, lc_command_mid, lc_housekeeping_request_mid, sample_mid, is_telemetry_mid}
use Rattle.lc_model.specs.Refusal.{Refusal, ◌>>=◌}
use Rattle.lc_model.specs.Command.{sample_request}
use Rattle.lc_model.specs.Events.Request.{Request, lc_command_refused}
use Rattle.lc_model.specs.LimitChecker.Steps as steps
use Rattle.lc_model.specs.LimitChecker.Steps.{Point, lc_commanded, lc_housekeeping, is_disabled, sampled_over, sampled_points}
use Rattle.lc_model.specs.Kept.Summary.{LcNow, LcOwn, Tally, WatchResult}
use Rattle.lc_model.specs.Kept.Next.{by_counts}
use Rattle.lc_model.specs.Kept.Call.{ServicesNow, lc_with, effort_after, sample_effort, telemetry_effort, telemetry_seen, sample_taken, next_lc_packet}
use Rattle.app_host.specs.declared.services.Services.{Services}
use Rattle.app_host.specs.Shared.{on_board, shared}
use Rattle.app_host.specs.Telling.{Tells}
use Rattle.app_host.specs.Statements.{TellingAnswers, TellingLeaves, TellingSettles}
use Rattle.limit_checker.specs.Application.{IsHome, MayHave, Answers}
use Rattle.limit_engine.specs.Engine.{after_sample, points_sampled, words_sampled}
use Rattle.limit_engine.specs.declared.reaction.Asked.{Asked}
use Rattle.limit_engine.specs.Reactions.{requests_in}
use Rattle.limit_checker.specs.Sending.{sizes}
use Rattle.limit_checker.proofs.Answering.{now_with, answers, little_after}
use Rattle.limit_checker.proofs.Sizes.{sample_few}

module _ (packet : List ℕ) (own : LcOwn) (kind : message_id packet ≡ sample_mid) where
  effort_is : effort_after packet own ≡ sample_effort own (sample_request (function_code packet) (payload packet))
  effort_is = ap (λ mid. if mid == sample_mid then sample_effort own (sample_request (function_code packet) (payload packet)) else if is_telemetry_mid mid then telemetry_effort own mid else own.effort) kind

  step_is : (services : ServicesNow (List ℕ)) → next_lc_packet on_board packet own (lc_with own services) ≡ steps.unless_refused (lc_with own services) (sample_taken on_board own packet (lc_with own services))
  step_is services =
      let lc : LcNow (List ℕ) = lc_with own services in
      ap (λ mid. if mid == lc_command_mid then steps.unless_refused lc (lc_commanded packet lc)
      else if mid == lc_housekeeping_request_mid then steps.unless_refused lc (lc_housekeeping by_counts on_board packet lc)
      else if mid == sample_mid then steps.unless_refused lc (sample_taken on_board own packet lc)
      else if is_telemetry_mid mid then telemetry_seen on_board own packet lc
      else (lc, [])) kind

module _ (own : LcOwn) (request : SampleRequest) where
  abbrev sampled_watch : List WatchResult
  sampled_watch = if request.ages then (if is_disabled own.mode then own.watch else by_counts.aged own.terms own.watch) else own.watch

  after_is : after_sample request own
      ≡ record own { watch = sampled_watch; points = (points_sampled request own).0; effort = record { steps = words_sampled request own; probes = own.effort.probes } }
  after_is = by_test request.ages
    where
      by_test : (ages : Bool) →
          (if ages then record own { watch = if is_disabled own.mode then own.watch else by_counts.aged own.terms own.watch; points = (points_sampled request own).0; effort = record { steps = words_sampled request own; probes = own.effort.probes } }
          else record own { points = (points_sampled request own).0; effort = record { steps = words_sampled request own; probes = own.effort.probes } })
          ≡ record own { watch = if ages then (if is_disabled own.mode then own.watch else by_counts.aged own.terms own.watch) else own.watch; points = (points_sampled request own).0; effort = record { steps = words_sampled request own; probes = own.effort.probes } }
      by_test true = refl
      by_test false = refl

  pub rules_stay : (after_sample request own).rules ≡ own.rules
  rules_stay = ap (λ (o : LcOwn). o.rules) after_is

  taken_is : (services : ServicesNow (List ℕ)) →
      ◌≡◌ {A = LcNow (List ℕ) × List Request}
      (if is_disabled own.mode then (lc_with own services, []) else sampled_over by_counts own.terms own.rules request (lc_with own services))
      (now_with own own.mode sampled_watch (points_sampled request own).0 services, (points_sampled request own).1)
  taken_is services = by_tests (is_disabled own.mode) request.ages
    where
      by_tests : (off ages : Bool) → ◌≡◌ {A = LcNow (List ℕ) × List Request}
          (if off then (lc_with own services, []) else (record (lc_with own services) { points = (sampled_points by_counts request own.terms own.mode own.watch 0 own.rules own.points).0; watch = if ages then by_counts.aged own.terms own.watch else own.watch }, (sampled_points by_counts request own.terms own.mode own.watch 0 own.rules own.points).1))
          (let all : List (Point Tally) × List Request = if off then (own.points, []) else sampled_points by_counts request own.terms own.mode own.watch 0 own.rules own.points in
          (now_with own own.mode (if ages then (if off then own.watch else by_counts.aged own.terms own.watch) else own.watch) all.0 services, all.1))
      by_tests true true = refl
      by_tests true false = refl
      by_tests false true = refl
      by_tests false false = refl

module _ (place : Option ℕ) (own new : LcOwn) (packet : List ℕ) (before after : Services)
    (by_rules : TellingAnswers) (leaves : TellingLeaves) (settles : TellingSettles)
    (home : IsHome place own before) (given : MayHave place packet before) (kind : message_id packet ≡ sample_mid) where
  pub sample_taken_is : (request : SampleRequest) → Ok request ≡ sample_request (function_code packet) (payload packet) → new ≡ after_sample request own →
      (requests : List Request) → requests ≡ (points_sampled request own).1 → IfSome place (λ seat. Tells (Some seat) lc_name requests before after) →
      length after.outgoing ≤ 65536 → Answers place own new packet before after
  sample_taken_is request read is requests are told little =
      answers place own new packet requests before after own.mode (sampled_watch own request) (points_sampled request own).0 by_rules leaves settles home given
      (is ∙ after_is own request
      ∙ (λ i. record own { watch = sampled_watch own request; points = (points_sampled request own).0; effort = sym (effort_is packet own kind ∙ ap (sample_effort own) (sym read)) i }))
      (step_is packet own kind (shared before)
      ∙ ap (λ (r : Result SampleRequest Refusal). steps.unless_refused (lc_with own (shared before)) (r >>= (λ q. Ok (if is_disabled own.mode then (lc_with own (shared before), []) else sampled_over by_counts own.terms own.rules q (lc_with own (shared before)))))) (sym read)
      ∙ taken_is own request (shared before)
      ∙ (λ i. (now_with own own.mode (sampled_watch own request) (points_sampled request own).0 (shared before), sym are i)))
      told little

  pub sample_refused_is : (numbers : Refusal) → Err numbers ≡ sample_request (function_code packet) (payload packet) → new ≡ own → (request : Request) → request ≡ lc_command_refused numbers →
      IfSome place (λ seat. Tells (Some seat) lc_name (request ∷ []) before after) → length after.outgoing ≤ length before.outgoing + 168 → Answers place own new packet before after
  sample_refused_is numbers read is request says told little =
      answers place own new packet (request ∷ []) before after own.mode own.watch own.points by_rules leaves settles home given
      (is ∙ (λ i. record own { effort = sym (effort_is packet own kind ∙ ap (sample_effort own) (sym read)) i }))
      (step_is packet own kind (shared before)
      ∙ ap (λ (r : Result SampleRequest Refusal). steps.unless_refused (lc_with own (shared before)) (r >>= (λ q. Ok (if is_disabled own.mode then (lc_with own (shared before), []) else sampled_over by_counts own.terms own.rules q (lc_with own (shared before)))))) (sym read)
      ∙ (λ i. (lc_with own (shared before), sym says i ∷ [])))
      told (let one = little_after place own packet before after 168 home given little in omega (arith, one))

-- nothing waits before, and what the rules ask for fits
fits : (place : Option ℕ) (own : LcOwn) (packet : List ℕ) (s : Services) → IsHome place own s → MayHave place packet s → (requests : List Request) → sizes requests ≤ 61248 → length s.outgoing + sizes requests ≤ 65536
fits None own packet s home given requests few = absurd home
fits (Some seat) own packet s home given requests few = let none : length s.outgoing ≡ 0 = ap length given.idle in omega (arith, none, few)

pub from_there : (place : Option ℕ) (requests : List Request) (before after : Services) → Tells place lc_name requests before after → IfSome place (λ seat. Tells (Some seat) lc_name requests before after)
from_there None requests before after told = tt
from_there (Some seat) requests before after told = told

-- what is sent is what the sample asks for
pub requested_is : (own new : LcOwn) (request : SampleRequest) (asked : List Asked) → new ≡ after_sample request own → requests_in own.rules asked ≡ (points_sampled request own).1 →
    requests_in new.rules asked ≡ (points_sampled request own).1
requested_is own new request asked is are = ap (λ (o : LcOwn). requests_in o.rules asked) is ∙ ap (λ rules. requests_in rules asked) (rules_stay own request) ∙ are

pub sample_fits : (place : Option ℕ) (own new : LcOwn) (packet : List ℕ) (s : Services) → IsHome place own s → MayHave place packet s → (request : SampleRequest) (asked : List Asked) →
    new ≡ after_sample request own → requests_in own.rules asked ≡ (points_sampled request own).1 → (n : ℕ) → n ≡ length own.rules → n ≤ 176 →
    length s.outgoing + sizes (requests_in new.rules asked) ≤ 65536
sample_fits place own new packet s home given request asked is are n count few =
    fits place own packet s home given (requests_in new.rules asked)
    (let same : sizes (requests_in new.rules asked) ≡ sizes (points_sampled request own).1 = ap sizes (requested_is own new request asked is are) in
    let bound = sample_few request own (omega (arith, count, few)) in
    omega (arith, same, bound))
