-- A packet of another message id than the application's changes nothing.
use Rattle.std.proofs.Common.{◌≡◌, ◌≢◌, ap, sym, ◌∙◌, ℕ, false, List, [], arith, if◌then◌else◌, Option, Some, None}
use Rattle.std.specs.Prelude.{IfSome}
use Rattle.lc_model.specs.Name.{lc_name}
use Rattle.lc_model.specs.Packet.{message_id, function_code, payload, lc_command_mid, lc_housekeeping_request_mid, sample_mid, is_telemetry_mid}
use Rattle.lc_model.specs.Command.{sample_request}
use Rattle.lc_model.specs.LimitChecker.Steps.{lc_commanded, lc_housekeeping, unless_refused}
use Rattle.lc_model.specs.Kept.Summary.{LcNow, LcOwn}
use Rattle.lc_model.specs.Kept.Next.{by_counts}
use Rattle.lc_model.specs.Kept.Call.{lc_with, effort_after, sample_effort, telemetry_effort, telemetry_seen, sample_taken, next_lc_packet}
use Rattle.lc_model.proofs.Facts.{test_unequal}
use Rattle.app_host.specs.declared.services.Services.{Services}
use Rattle.app_host.specs.Shared.{on_board, shared}
use Rattle.app_host.specs.Sending.{NothingIsTold}
use Rattle.app_host.specs.Statements.{TellingAnswers, TellingLeaves, TellingSettles}
use Rattle.app_host.specs.Telling.{Tells}
use Rattle.limit_checker.specs.Application.{IsHome, MayHave, Answers}
use Rattle.limit_checker.proofs.Answering.{answers, little_after}

module _ (packet : List ℕ) (own : LcOwn) (lc : LcNow (List ℕ)) (command : message_id packet ≢ lc_command_mid) (request : message_id packet ≢ lc_housekeeping_request_mid)
    (sample : message_id packet ≢ sample_mid) (other : is_telemetry_mid (message_id packet) ≡ false) where
  other_effort : effort_after packet own ≡ own.effort
  other_effort = λ i. if test_unequal (message_id packet) sample_mid sample i then sample_effort own (sample_request (function_code packet) (payload packet))
      else if other i then telemetry_effort own (message_id packet) else own.effort

  other_step : next_lc_packet on_board packet own lc ≡ (lc, [])
  other_step = λ i. if test_unequal (message_id packet) lc_command_mid command i then unless_refused lc (lc_commanded packet lc)
      else if test_unequal (message_id packet) lc_housekeeping_request_mid request i then unless_refused lc (lc_housekeeping by_counts on_board packet lc)
      else if test_unequal (message_id packet) sample_mid sample i then unless_refused lc (sample_taken on_board own packet lc)
      else if other i then telemetry_seen on_board own packet lc
      else (lc, [])

silent : NothingIsTold → (place : Option ℕ) (s : Services) → IfSome place (λ seat. Tells (Some seat) lc_name [] s s)
silent nothing None s = tt
silent nothing (Some seat) s = nothing (Some seat) lc_name s

pub not_answered : (place : Option ℕ) (own : LcOwn) (packet : List ℕ) (s : Services) (mid : ℕ) → TellingAnswers → TellingLeaves → TellingSettles → NothingIsTold → IsHome place own s → MayHave place packet s →
    mid ≡ message_id packet → mid ≢ lc_command_mid → mid ≢ lc_housekeeping_request_mid → mid ≢ sample_mid → false ≡ is_telemetry_mid mid → Answers place own own packet s s
not_answered place own packet s mid by_rules leaves settles nothing home given is command request sample other =
    let command_too = λ (e : message_id packet ≡ lc_command_mid). command (is ∙ e) in
    let request_too = λ (e : message_id packet ≡ lc_housekeeping_request_mid). request (is ∙ e) in
    let sample_too = λ (e : message_id packet ≡ sample_mid). sample (is ∙ e) in
    let other_too : is_telemetry_mid (message_id packet) ≡ false = ap is_telemetry_mid (sym is) ∙ sym other in
    answers place own own packet [] s s own.mode own.watch own.points by_rules leaves settles home given
    (λ i. record own { effort = sym (other_effort packet own (lc_with own (shared s)) command_too request_too sample_too other_too) i })
    (other_step packet own (lc_with own (shared s)) command_too request_too sample_too other_too)
    (silent nothing place s) (let one = little_after place own packet s s 0 home given (omega arith) in omega (arith, one))
