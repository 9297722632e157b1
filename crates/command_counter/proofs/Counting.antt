-- What the counter does at its seat, by the rules of the interface and by the definitions.
use Rattle.std.proofs.Common.{◌≡◌, refl, ap, sym, ◌∙◌, subst, ℕ, ◌+◌, Bool, true, false, ◌==◌, List, [], ◌∷◌, arith, Option, Some, None, Ok, Err, min, if◌then◌else◌}
use Rattle.std.specs.Prelude.{IfSome, IsSomeAnd, codes}
use Rattle.lc_model.specs.declared.rule.EventKind.{EventKind}
use Rattle.lc_model.specs.declared.rule.EventKind.TheVariants.{Information}
use Rattle.lc_model.specs.Name.{counter_name}
use Rattle.lc_model.specs.Packet.{message_id, counter_mid, function_code, payload}
use Rattle.lc_model.specs.Refusal.{Refusal}
use Rattle.lc_model.specs.Command.{bare_request}
use Rattle.lc_model.specs.Events.Request.{Request, Event, numbered, counted, counter_refused}
use Rattle.lc_model.specs.Kept.Summary.{CounterState}
use Rattle.lc_model.specs.Kept.Next.{next_answer, next_count}
use Rattle.lc_model.specs.Kept.Call.{with_mids, counter_subscriptions, counter_told, silent, registered, next_start, next_on_packet, next_retire}
use Rattle.lc_model.specs.Services.Events.{Sender, sender_at}
use Rattle.lc_model.specs.Services.Tables.{tables_at}
use Rattle.lc_model.specs.Services.Interface.{MayBeStarted, MayBeGiven, IsRetired}
use Rattle.lc_model.proofs.Facts.{tested_equal, map_none}
use Rattle.lc_model.specs.Services.Settled.{form_of}
use Rattle.app_host.specs.declared.services.Services.{Services}
use Rattle.app_host.specs.Shared.{on_board, held_by, shared}
use Rattle.app_host.specs.Telling.{Tells}
use Rattle.app_host.specs.Seating.{IsOpened, IsClosed}
use Rattle.app_host.specs.Calls.{IsAtHome, Leaves, LeavesEmpty}
use Rattle.app_host.specs.Statements.{OpeningLeaves, TellingIsByName, TellingLeaves, SilenceLeaves, ClosingRetires, ClosingLeaves, NoTablesGo}

-- ---- the start

pub own_id : with_mids (counter_mid ∷ []) [] ≡ counter_subscriptions
unfolding with_mids
own_id = refl

pub starts : OpeningLeaves → (seat : ℕ) (before after : Services) → IsOpened seat counter_name (with_mids (counter_mid ∷ []) []) before after →
    MayBeStarted seat counter_name (held_by before) → (count : ℕ) →
    IfSome (next_start on_board before.moment (CounterState count) (shared before)) (Leaves seat (CounterState 0) before after)
starts law seat before after o may count =
    law seat counter_name (with_mids (counter_mid ∷ []) []) before after o may (CounterState 0) (silent (CounterState 0) counter_subscriptions [] (registered counter_name (shared before)))
    refl (sym own_id) refl refl refl

-- ---- a packet

pub another_id : (mid : ℕ) (n : ℕ) → n ≡ mid → (n ≡ 6337 → ⊥) → (mid == 6337) ≡ false
another_id mid n is two = by_test (mid == 6337) refl
  where
    by_test : (test : Bool) → (mid == 6337) ≡ test → test ≡ false
    by_test true e = absurd (two (is ∙ tested_equal mid 6337 e))
    by_test false e = refl

abbrev pub IsHome : Option ℕ → ℕ → Services → Type 0
IsHome place count s = IsSomeAnd place (λ seat. IsAtHome (CounterState count) counter_name seat s)

abbrev pub LeavesThere : Option ℕ → (old new : ℕ) → List ℕ → Services → Services → Type 0
LeavesThere place old new packet before after = IfSome place (λ seat. IfSome (next_on_packet on_board before.moment (CounterState old) packet (shared before))
    (Leaves seat (CounterState new) before after))

pub silent_exact : SilenceLeaves → (place : Option ℕ) (count : ℕ) (s : Services) (packet : List ℕ) → (message_id packet == counter_mid) ≡ false → IsHome place count s →
    IfSome place (λ seat. MayBeGiven seat counter_name packet (held_by s)) → LeavesThere place count count packet s s
silent_exact law None count s packet other home given = tt
silent_exact law (Some seat) count s packet other home given =
    subst (Leaves seat (CounterState count) s s)
    (sym (ap (λ b. if b then counter_told s.moment (next_count packet count) (shared s) else silent (CounterState count) counter_subscriptions [] (shared s)) other))
    (law seat s (CounterState count) counter_subscriptions given.idle home.settled.pipe)

-- ---- an answer

module _ (place : Option ℕ) (old new : ℕ) (packet : List ℕ) (id : ℕ) (kind : EventKind) (text : List ℕ) (before after : Services)
    (home : IsHome place old before) (given : IfSome place (λ seat. MayBeGiven seat counter_name packet (held_by before)))
    (told : IfSome (sender_at place before.events) (λ (sender : Sender). Tells place sender.name (Event sender.name id kind text ∷ []) before after))
    (by_name : TellingIsByName) where
  tells : (seat : ℕ) → place ≡ Some seat → IsAtHome (CounterState old) counter_name seat before → Tells (Some seat) counter_name (Event counter_name id kind text ∷ []) before after
  tells seat e home = by_name (Some seat) counter_name (λ name. Event name id kind text ∷ []) before after home.settled.sender
      (subst (λ p. IfSome (sender_at p before.events) (λ (sender : Sender). Tells p sender.name (Event sender.name id kind text ∷ []) before after)) e told)

  pub answer_exact : TellingLeaves → (message_id packet == counter_mid) ≡ true → next_count packet old ≡ (new, Event counter_name id kind text ∷ []) → LeavesThere place old new packet before after
  answer_exact law own counts = by_place place refl home given
    where
      by_place : (p : Option ℕ) → place ≡ p → IsHome p old before → IfSome p (λ seat. MayBeGiven seat counter_name packet (held_by before)) → LeavesThere p old new packet before after
      by_place None e home given = tt
      by_place (Some seat) e home given =
          subst (Leaves seat (CounterState new) before after)
          (sym (ap (λ b. if b then counter_told before.moment (next_count packet old) (shared before) else silent (CounterState old) counter_subscriptions [] (shared before)) own
          ∙ ap (λ answer. counter_told before.moment answer (shared before)) counts))
          (law seat counter_name (Event counter_name id kind text ∷ []) before after (tells seat e home) (CounterState new) counter_subscriptions given.idle home.settled.pipe)

-- the count and its event
pub is_counted : (packet : List ℕ) (old new : ℕ) (event : Request) → Ok tt ≡ bare_request 1 (function_code packet) (payload packet) →
    new ≡ min (old + 1) 4294967295 → event ≡ counted new → next_count packet old ≡ (new, event ∷ [])
is_counted packet old new event accepted is told =
    ap (next_answer old) (sym accepted) ∙ (λ i. (sym is i, counted (old + 1) ∷ []))
    ∙ (λ i. (new, (ap (λ n. Event counter_name 1 Information (numbered (codes "count") (n ∷ []))) (capped_again old) ∙ sym (ap counted is) ∙ sym told) i ∷ []))
  where
    capped_again : (n : ℕ) → min (n + 1) 4294967295 ≡ min (min (n + 1) 4294967295) 4294967295
    capped_again n = omega arith

pub is_refused : (packet : List ℕ) (old : ℕ) (refusal : Refusal) (event : Request) → Err refusal ≡ bare_request 1 (function_code packet) (payload packet) →
    event ≡ counter_refused refusal → next_count packet old ≡ (old, event ∷ [])
is_refused packet old refusal event refused told = ap (next_answer old) (sym refused) ∙ (λ i. (old, sym told i ∷ []))

-- ---- the retirement

pub retires : ClosingRetires → (place : Option ℕ) (before after : Services) → IfSome place (λ seat. IsClosed seat before after) → before.outgoing ≡ [] →
    IfSome place (λ seat. IsRetired seat counter_name (held_by before) (held_by after))
retires law None before after closed idle = tt
retires law (Some seat) before after closed idle = law seat counter_name before after closed idle

pub leaves_empty : ClosingLeaves → NoTablesGo → (place : Option ℕ) (count : ℕ) (before after : Services) → IsHome place count before →
    IfSome place (λ seat. IsClosed seat before after) → before.outgoing ≡ [] →
    IfSome place (λ seat. IfSome (next_retire (CounterState count) (shared before)) (LeavesEmpty seat before after))
leaves_empty law none None count before after home closed idle = tt
leaves_empty law none (Some seat) count before after home closed idle =
    law seat counter_name before after closed idle home.settled.sender (shared before).slots (none seat before (map_none form_of (tables_at seat before.tables.places) home.settled.tables))
