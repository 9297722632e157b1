-- Commands and telemetry, as the application answers them.
use Rattle.std.proofs.Common.{◌≡◌, refl, ap, sym, ◌∙◌, subst, ℕ, ◌+◌, ◌≤◌, Bool, true, false, not, ◌&&◌, ◌==◌, List, [], ◌∷◌, length, arith, Option, Some, None, Result, Ok, Err, if◌then◌else◌}
use Rattle.std.specs.Prelude.{IfSome, IfOk, nat_le}
use Rattle.lc_model.specs.declared.mode.LcMode.{LcMode}
use Rattle.lc_model.specs.Name.{lc_name}
use Rattle.lc_model.specs.Packet.{message_id, function_code, payload, lc_command_mid, lc_housekeeping_request_mid, sample_mid, is_telemetry_mid}
use Rattle.lc_model.specs.Refusal.{Refusal, ◌>>=◌, found}
use Rattle.lc_model.specs.Command.{LcCommand, NoOperation, SetMode, SetState, TurnPermanentlyOff, lc_command, mode_numbered, sample_request}
use Rattle.lc_model.specs.Events.Request.{Request, lc_command_done, lc_command_refused, short_packet}
use Rattle.lc_model.specs.LimitChecker.Steps as steps
use Rattle.lc_model.specs.LimitChecker.Steps.{Point, lc_obeyed, lc_commanded, lc_housekeeping, one_set, states_set, turned_permanently_off, is_disabled, is_short}
use Rattle.lc_model.specs.Kept.Summary.{LcNow, LcOwn, Tally, WatchResult}
use Rattle.lc_model.specs.Kept.Next.{by_counts}
use Rattle.lc_model.specs.Kept.Call.{ServicesNow, lc_with, effort_after, sample_effort, telemetry_effort, telemetry_seen, sample_taken, next_lc_packet}
use Rattle.lc_model.proofs.Facts.{tested_equal, tested_at_most, and_second}
use Rattle.app_host.specs.declared.services.Services.{Services}
use Rattle.app_host.specs.Shared.{on_board, shared}
use Rattle.app_host.specs.Telling.{Tells}
use Rattle.app_host.specs.Statements.{TellingAnswers, TellingLeaves, TellingSettles}
use Rattle.app_host.specs.Sending.{NothingIsTold}
use Rattle.limit_checker.specs.Application.{IsHome, MayHave, Answers}
use Rattle.limit_checker.specs.Commands.{own_obeyed, own_commanded}
use Rattle.limit_engine.specs.Engine.{after_telemetry, tells_short}
use Rattle.limit_engine.specs.States.{outcome, unless_refused}
use Rattle.limit_checker.proofs.Answering.{now_with, answers, little_after}

-- ---- a command

abbrev Answer : Type 0
Answer = Result (LcNow (List ℕ) × List Request) Refusal

module _ (own : LcOwn) (services : ServicesNow (List ℕ)) (asked : List Request) where
  abbrev with_request : Result LcOwn Refusal → Answer
  with_request r = r >>= (λ new. Ok (lc_with new services, asked))

  step_of : (command : LcCommand) → (lc_obeyed command (lc_with own services) >>= (λ after. Ok (after, asked))) ≡ with_request (own_obeyed command own)
  step_of NoOperation = refl
  step_of (SetMode number) = by_answer (found (mode_numbered number) 154)
    where
      by_answer : (r : Result LcMode Refusal) →
          ((r >>= (λ mode. Ok (record (lc_with own services) { mode = mode }))) >>= (λ after. Ok (after, asked))) ≡ with_request (r >>= (λ mode. Ok (record own { mode = mode })))
      by_answer (Ok mode) = refl
      by_answer (Err refusal) = refl
  step_of (SetState index number) = with_points (states_set index number own.points)
    where
      with_points : (r : Result (List (Point Tally)) Refusal) →
          ((r >>= (λ points. Ok (record (lc_with own services) { points = points }))) >>= (λ after. Ok (after, asked))) ≡ with_request (r >>= (λ points. Ok (record own { points = points })))
      with_points (Ok points) = refl
      with_points (Err refusal) = refl
  step_of (TurnPermanentlyOff index) = with_points (one_set index turned_permanently_off own.points)
    where
      with_points : (r : Result (List (Point Tally)) Refusal) →
          ((r >>= (λ points. Ok (record (lc_with own services) { points = points }))) >>= (λ after. Ok (after, asked))) ≡ with_request (r >>= (λ points. Ok (record own { points = points })))
      with_points (Ok points) = refl
      with_points (Err refusal) = refl

commanded_is : (packet : List ℕ) (own : LcOwn) (services : ServicesNow (List ℕ)) →
    lc_commanded packet (lc_with own services) ≡ with_request own services (lc_command_done (function_code packet) ∷ []) (own_commanded packet own)
commanded_is packet own services = by_command (lc_command (function_code packet) (payload packet))
  where
    by_command : (r : Result LcCommand Refusal) →
        (r >>= (λ command. lc_obeyed command (lc_with own services) >>= (λ after. Ok (after, lc_command_done (function_code packet) ∷ []))))
        ≡ with_request own services (lc_command_done (function_code packet) ∷ []) (r >>= (λ command. own_obeyed command own))
    by_command (Ok command) = step_of own services (lc_command_done (function_code packet) ∷ []) command
    by_command (Err refusal) = refl

-- the mode and the points alone change
obeyed_keeps : (command : LcCommand) (own : LcOwn) → IfOk (own_obeyed command own) (λ new. new ≡ record own { mode = new.mode; points = new.points })
obeyed_keeps NoOperation own = refl
obeyed_keeps (SetMode number) own = by_answer (found (mode_numbered number) 154)
  where
    by_answer : (r : Result LcMode Refusal) → IfOk (r >>= (λ mode. Ok (record own { mode = mode }))) (λ new. new ≡ record own { mode = new.mode; points = new.points })
    by_answer (Ok mode) = refl
    by_answer (Err refusal) = tt
obeyed_keeps (SetState index number) own = with_points (states_set index number own.points)
  where
    with_points : (r : Result (List (Point Tally)) Refusal) → IfOk (r >>= (λ points. Ok (record own { points = points }))) (λ new. new ≡ record own { mode = new.mode; points = new.points })
    with_points (Ok points) = refl
    with_points (Err refusal) = tt
obeyed_keeps (TurnPermanentlyOff index) own = with_points (one_set index turned_permanently_off own.points)
  where
    with_points : (r : Result (List (Point Tally)) Refusal) → IfOk (r >>= (λ points. Ok (record own { points = points }))) (λ new. new ≡ record own { mode = new.mode; points = new.points })
    with_points (Ok points) = refl
    with_points (Err refusal) = tt

commanded_keeps : (packet : List ℕ) (own : LcOwn) → IfOk (own_commanded packet own) (λ new. new ≡ record own { mode = new.mode; points = new.points })
commanded_keeps packet own = by_command (lc_command (function_code packet) (payload packet))
  where
    by_command : (r : Result LcCommand Refusal) → IfOk (r >>= (λ command. own_obeyed command own)) (λ new. new ≡ record own { mode = new.mode; points = new.points })
    by_command (Ok command) = obeyed_keeps command own
    by_command (Err refusal) = tt

-- a command is no sample request and no telemetry
command_effort : (packet : List ℕ) (own : LcOwn) → message_id packet ≡ lc_command_mid → effort_after packet own ≡ own.effort
command_effort packet own kind =
    ap (λ mid. if mid == sample_mid then sample_effort own (sample_request (function_code packet) (payload packet)) else if is_telemetry_mid mid then telemetry_effort own mid else own.effort) kind

module _ (packet : List ℕ) (own : LcOwn) (services : ServicesNow (List ℕ)) (kind : message_id packet ≡ lc_command_mid) where
  command_step : next_lc_packet on_board packet own (lc_with own services)
      ≡ steps.unless_refused (lc_with own services) (with_request own services (lc_command_done (function_code packet) ∷ []) (own_commanded packet own))
  command_step =
      let lc : LcNow (List ℕ) = lc_with own services in
      ap (λ mid. if mid == lc_command_mid then steps.unless_refused lc (lc_commanded packet lc)
      else if mid == lc_housekeeping_request_mid then steps.unless_refused lc (lc_housekeeping by_counts on_board packet lc)
      else if mid == sample_mid then steps.unless_refused lc (sample_taken on_board own packet lc)
      else if is_telemetry_mid mid then telemetry_seen on_board own packet lc
      else (lc, [])) kind
      ∙ ap (steps.unless_refused lc) (commanded_is packet own services)

abbrev refusal_in : Result (Unit {0}) Refusal → Refusal
refusal_in (Ok done) = []
refusal_in (Err refusal) = refusal

-- what an answer to a command is, by the event that is told
module _ (place : Option ℕ) (own new : LcOwn) (packet : List ℕ) (before after : Services) (request : Request)
    (by_rules : TellingAnswers) (leaves : TellingLeaves) (settles : TellingSettles)
    (home : IsHome place own before) (given : MayHave place packet before) (kind : message_id packet ≡ lc_command_mid)
    (is : new ≡ unless_refused (own_commanded packet own) own)
    (told : IfSome place (λ seat. Tells (Some seat) lc_name (request ∷ []) before after))
    (little : length after.outgoing ≤ length before.outgoing + 168) where
  few : length after.outgoing ≤ 65536
  few = let one = little_after place own packet before after 168 home given little in omega (arith, one)

  pub command_done : Ok tt ≡ outcome (own_commanded packet own) → request ≡ lc_command_done (function_code packet) → Answers place own new packet before after
  command_done ok says = by_answer (own_commanded packet own) refl ok
    where
      by_answer : (r : Result LcOwn Refusal) → own_commanded packet own ≡ r → Ok tt ≡ outcome r → Answers place own new packet before after
      by_answer (Ok x) e ok =
          answers place own new packet (request ∷ []) before after x.mode own.watch x.points by_rules leaves settles home given
          (is ∙ ap (λ r. unless_refused r own) e ∙ subst (λ r. IfOk r (λ y. y ≡ record own { mode = y.mode; points = y.points })) e (commanded_keeps packet own)
          ∙ (λ i. record own { mode = x.mode; points = x.points; effort = sym (command_effort packet own kind) i }))
          (command_step packet own (shared before) kind
          ∙ ap (λ r. steps.unless_refused (lc_with own (shared before)) (with_request own (shared before) (lc_command_done (function_code packet) ∷ []) r)) e
          ∙ (λ i. (record (lc_with own (shared before)) { mode = x.mode; watch = watch_stays x e i; points = x.points }, sym says i ∷ [])))
          told few
        where
          watch_stays : (x : LcOwn) → own_commanded packet own ≡ Ok x → x.watch ≡ own.watch
          watch_stays x e = ap (λ (o : LcOwn). o.watch) (subst (λ r. IfOk r (λ y. y ≡ record own { mode = y.mode; points = y.points })) e (commanded_keeps packet own))
      by_answer (Err refusal) e ok = cc

  pub command_refused : (numbers : Refusal) → Err numbers ≡ outcome (own_commanded packet own) → request ≡ lc_command_refused numbers → Answers place own new packet before after
  command_refused numbers refused says = by_answer (own_commanded packet own) refl refused
    where
      by_answer : (r : Result LcOwn Refusal) → own_commanded packet own ≡ r → Err numbers ≡ outcome r → Answers place own new packet before after
      by_answer (Ok x) e refused = cc
      by_answer (Err refusal) e refused =
          answers place own new packet (request ∷ []) before after own.mode own.watch own.points by_rules leaves settles home given
          (is ∙ ap (λ r. unless_refused r own) e ∙ (λ i. record own { effort = sym (command_effort packet own kind) i }))
          (command_step packet own (shared before) kind
          ∙ ap (λ r. steps.unless_refused (lc_with own (shared before)) (with_request own (shared before) (lc_command_done (function_code packet) ∷ []) r)) e
          ∙ (λ i. (lc_with own (shared before), lc_command_refused (sym (ap refusal_in refused) i) ∷ []))
          ∙ (λ i. (lc_with own (shared before), sym says i ∷ [])))
          told few

-- ---- telemetry

another : (mid n : ℕ) → is_telemetry_mid mid ≡ true → 4095 + 1 ≤ n → (mid == n) ≡ false
another mid n kind above = by_test (mid == n) refl
  where
    by_test : (test : Bool) → (mid == n) ≡ test → test ≡ false
    by_test true e =
        let same : mid ≡ n = tested_equal mid n e in
        let most : mid ≤ 4095 = tested_at_most mid 4095 (and_second (nat_le 2048 mid) (nat_le mid 4095) kind) in
        absurd (omega (arith, same, most, above))
    by_test false e = refl

module _ (packet : List ℕ) (own : LcOwn) (kind : is_telemetry_mid (message_id packet) ≡ true) where
  seen_effort : effort_after packet own ≡ telemetry_effort own (message_id packet)
  seen_effort = (λ i. if another (message_id packet) 6310 kind (omega arith) i then sample_effort own (sample_request (function_code packet) (payload packet))
      else if kind i then telemetry_effort own (message_id packet) else own.effort)

  seen_step : (services : ServicesNow (List ℕ)) → next_lc_packet on_board packet own (lc_with own services) ≡ telemetry_seen on_board own packet (lc_with own services)
  seen_step services =
      let lc : LcNow (List ℕ) = lc_with own services in
      (λ i. if another (message_id packet) 6308 kind (omega arith) i then steps.unless_refused lc (lc_commanded packet lc)
      else if another (message_id packet) 6309 kind (omega arith) i then steps.unless_refused lc (lc_housekeeping by_counts on_board packet lc)
      else if another (message_id packet) 6310 kind (omega arith) i then steps.unless_refused lc (sample_taken on_board own packet lc)
      else if kind i then telemetry_seen on_board own packet lc
      else (lc, []))

  abbrev seen_watch : List WatchResult
  seen_watch = if is_disabled own.mode then own.watch else by_counts.seen own.terms packet own.watch

  seen_by : (services : ServicesNow (List ℕ)) (short : Bool) → short ≡ tells_short packet own →
      telemetry_seen on_board own packet (lc_with own services) ≡ (now_with own own.mode seen_watch own.points services, if short then short_packet (message_id packet) ∷ [] else [])
  seen_by services short is =
      by_test (is_disabled own.mode) ∙ (λ i. (now_with own own.mode seen_watch own.points services, if sym is i then short_packet (message_id packet) ∷ [] else []))
    where
      by_test : (off : Bool) → ◌≡◌ {A = LcNow (List ℕ) × List Request}
          (if off then (lc_with own services, []) else (record (lc_with own services) { watch = by_counts.seen own.terms packet own.watch }, if is_short own.terms packet then short_packet (message_id packet) ∷ [] else []))
          (now_with own own.mode (if off then own.watch else by_counts.seen own.terms packet own.watch) own.points services, if not off && is_short own.terms packet then short_packet (message_id packet) ∷ [] else [])
      by_test true = refl
      by_test false = refl

module _ (place : Option ℕ) (own new : LcOwn) (packet : List ℕ) (before after : Services)
    (by_rules : TellingAnswers) (leaves : TellingLeaves) (settles : TellingSettles)
    (home : IsHome place own before) (given : MayHave place packet before) (kind : is_telemetry_mid (message_id packet) ≡ true)
    (is : new ≡ after_telemetry packet own) where
  seen_answers : (short : Bool) → short ≡ tells_short packet own → (requests : List Request) → requests ≡ (if short then short_packet (message_id packet) ∷ [] else []) →
      IfSome place (λ seat. Tells (Some seat) lc_name requests before after) → length after.outgoing ≤ length before.outgoing + 168 → Answers place own new packet before after
  seen_answers short tests requests are told little =
      answers place own new packet requests before after own.mode (seen_watch packet own kind) own.points by_rules leaves settles home given
      (is ∙ (λ i. record own { watch = seen_watch packet own kind; effort = sym (seen_effort packet own kind) i }))
      (seen_step packet own kind (shared before) ∙ seen_by packet own kind (shared before) short tests ∙ (λ i. (now_with own own.mode (seen_watch packet own kind) own.points (shared before), sym are i)))
      told (let one = little_after place own packet before after 168 home given little in omega (arith, one))

  pub telemetry_short : true ≡ tells_short packet own → (request : Request) → request ≡ short_packet (message_id packet) →
      IfSome place (λ seat. Tells (Some seat) lc_name (request ∷ []) before after) → length after.outgoing ≤ length before.outgoing + 168 → Answers place own new packet before after
  telemetry_short tests request says told little = seen_answers true tests (request ∷ []) (λ i. says i ∷ []) told little

pub telemetry_long : (place : Option ℕ) (own new : LcOwn) (packet : List ℕ) (s : Services) → TellingAnswers → TellingLeaves → TellingSettles → NothingIsTold →
    IsHome place own s → MayHave place packet s → is_telemetry_mid (message_id packet) ≡ true → new ≡ after_telemetry packet own → false ≡ tells_short packet own → Answers place own new packet s s
telemetry_long place own new packet s by_rules leaves settles nothing home given kind is tests =
    seen_answers place own new packet s s by_rules leaves settles home given kind is false tests [] refl (silent place) (omega arith)
  where
    silent : (place : Option ℕ) → IfSome place (λ seat. Tells (Some seat) lc_name [] s s)
    silent None = tt
    silent (Some seat) = nothing (Some seat) lc_name s
