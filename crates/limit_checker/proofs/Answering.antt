-- A packet that leaves the tables alone is answered by the rules of the interface and as the definitions say.
use Rattle.std.proofs.Common.{◌≡◌, refl, ap, sym, ◌∙◌, subst, ℕ, ◌+◌, ◌≤◌, List, [], ◌∷◌, length, map, arith, Option, Some, None, true≢false}
use Rattle.std.specs.Prelude.{IfSome, IsTrue, is_some, unwrap_or}
use Rattle.lc_model.specs.declared.kind.Kind.TheVariants.{Wdt, Adt}
use Rattle.lc_model.specs.declared.field.Term.{Term}
use Rattle.lc_model.specs.declared.mode.LcMode.{LcMode}
use Rattle.lc_model.specs.Name.{Name, lc_name}
use Rattle.lc_model.specs.Packet.{lc_command_mid, lc_housekeeping_request_mid, sample_mid}
use Rattle.lc_model.specs.Events.Request.{Request}
use Rattle.lc_model.specs.LimitChecker.Steps.{Point}
use Rattle.lc_model.specs.Tables.File.{table_name}
use Rattle.lc_model.specs.Tables.Slot.{no_images}
use Rattle.lc_model.specs.Kept.Summary.{LcState, LcNow, LcOwn, Tally, WatchResult, lc_own}
use Rattle.lc_model.specs.Kept.Call.{ServicesNow, with_at, with_mids, with_tables, lc_with, lc_told, lc_subscriptions, slot_named, told, effort_after, next_lc_packet, next_on_packet}
use Rattle.lc_model.specs.Kept.GoesWith.{LcGoesWith, subscriptions_of}
use Rattle.lc_model.specs.Services.Interface.{MayBeGiven}
use Rattle.lc_model.specs.Services.Settled.{IsSettled}
use Rattle.lc_model.specs.Services.Events.{Sender, sender_at}
use Rattle.lc_model.proofs.Services.SenderNames.{with_at_own}
use Rattle.app_host.specs.declared.services.Services.{Services}
use Rattle.app_host.specs.Shared.{on_board, held_by, shared}
use Rattle.app_host.specs.Telling.{Tells}
use Rattle.app_host.specs.Calls.{IsAtHome, Leaves}
use Rattle.app_host.specs.Statements.{TellingIsByName, TellingAnswers, TellingLeaves, TellingSettles}
use Rattle.limit_checker.specs.Application.{IsHome, MayHave, Answers}

-- ---- what is held under a name

there : {X : Type 0} (place : Option X) (d : X) → IsTrue (is_some place) → place ≡ Some (unwrap_or place d)
there None d some = absurd (true≢false (sym some))
there (Some x) d some = refl

tables_stay : (own : LcOwn) (services : ServicesNow (List ℕ)) → LcGoesWith on_board own services → with_tables (lc_with own services) services ≡ services
tables_stay own services goes =
    (λ i. record services {
      slots = with_at (table_name Wdt) (Some (slot_named (table_name Wdt) services)) (with_at_own (table_name Adt) (Some (slot_named (table_name Adt) services)) services.slots (there (services.slots (table_name Adt)) no_images goes.adt) i);
    })
    ∙ (λ i. record services { slots = with_at_own (table_name Wdt) (Some (slot_named (table_name Wdt) services)) services.slots (there (services.slots (table_name Wdt)) no_images goes.wdt) i })

-- ---- one call

-- what the object is, and what it asks for, where the tables stay
abbrev pub own_with : LcOwn → LcMode → List WatchResult → List (Point Tally) → List ℕ → LcOwn
own_with own mode watch points packet = record own { mode = mode; watch = watch; points = points; effort = effort_after packet own }

abbrev pub now_with : LcOwn → LcMode → List WatchResult → List (Point Tally) → ServicesNow (List ℕ) → LcNow (List ℕ)
now_with own mode watch points services = record (lc_with own services) { mode = mode; watch = watch; points = points }

module _ (seat : ℕ) (own new : LcOwn) (packet : List ℕ) (requests : List Request) (before after : Services)
    (mode : LcMode) (watch : List WatchResult) (points : List (Point Tally))
    (home : IsAtHome (LcState own) lc_name seat before) (given : MayBeGiven seat lc_name packet (held_by before))
    (is : new ≡ own_with own mode watch points packet)
    (step : next_lc_packet on_board packet own (lc_with own (shared before)) ≡ (now_with own mode watch points (shared before), requests))
    (tells : Tells (Some seat) lc_name requests before after) where
  state_is : LcState new ≡ LcState (lc_own on_board (effort_after packet own) (now_with own mode watch points (shared before)))
  state_is = ap LcState is ∙ (λ i. LcState (record {
    mode = mode;
    terms = home.goes.terms i;
    rules = home.goes.rules i;
    watch = watch;
    points = points;
    effort = effort_after packet own;
  }))

  mids_are : subscriptions_of (LcState own) ≡ lc_subscriptions on_board (now_with own mode watch points (shared before))
  mids_are = λ i. with_mids (lc_command_mid ∷ lc_housekeeping_request_mid ∷ sample_mid ∷ map (λ (t : Term). t.mid) (home.goes.terms i)) []

  call_is : told before.moment lc_name requests (LcState new) (subscriptions_of (LcState own)) (shared before)
      ≡ lc_told on_board before.moment (effort_after packet own) (next_lc_packet on_board packet own (lc_with own (shared before))) (shared before)
  call_is =
      (λ i. told before.moment lc_name requests (state_is i) (mids_are i) (sym (tables_stay own (shared before) home.goes) i))
      ∙ sym (ap (λ (s : LcNow (List ℕ) × List Request). lc_told on_board before.moment (effort_after packet own) s (shared before)) step)

  exact_there : TellingLeaves → IfSome (next_on_packet on_board before.moment (LcState own) packet (shared before)) (Leaves seat (LcState new) before after)
  exact_there law = subst (Leaves seat (LcState new) before after) call_is
      (law seat lc_name requests before after tells (LcState new) (subscriptions_of (LcState own)) given.idle home.settled.pipe)

  settled_there : TellingSettles → IsSettled (LcState new) seat (held_by after)
  settled_there law = law seat lc_name requests before after tells (LcState own) (LcState new) refl refl (ap (λ o. subscriptions_of (LcState o)) is) home.settled

-- on the seat that it holds, if any
pub answers : (place : Option ℕ) (own new : LcOwn) (packet : List ℕ) (requests : List Request) (before after : Services)
    (mode : LcMode) (watch : List WatchResult) (points : List (Point Tally)) →
    TellingAnswers → TellingLeaves → TellingSettles →
    IsHome place own before → MayHave place packet before → new ≡ own_with own mode watch points packet →
    next_lc_packet on_board packet own (lc_with own (shared before)) ≡ (now_with own mode watch points (shared before), requests) →
    IfSome place (λ seat. Tells (Some seat) lc_name requests before after) → length after.outgoing ≤ 65536 → Answers place own new packet before after
answers None own new packet requests before after mode watch points by_rules leaves settles home given is step tells little = absurd home
answers (Some seat) own new packet requests before after mode watch points by_rules leaves settles home given is step tells little = record {
  rules = by_rules seat lc_name requests before after tells packet home.belongs little;
  exact = exact_there seat own new packet requests before after mode watch points home given is step tells leaves;
  settled = settled_there seat own new packet requests before after mode watch points home given is step tells settles;
}

-- an event is told by the name of the seat
pub told_by_name : TellingIsByName → (place : Option ℕ) (own : LcOwn) (requests : Name → List Request) (before after : Services) → IsHome place own before →
    IfSome (sender_at place before.events) (λ (sender : Sender). Tells place sender.name (requests sender.name) before after) →
    IfSome place (λ seat. Tells (Some seat) lc_name (requests lc_name) before after)
told_by_name law None own requests before after home told = tt
told_by_name law (Some seat) own requests before after home told = law (Some seat) lc_name requests before after home.settled.sender told

pub little_after : (place : Option ℕ) (own : LcOwn) (packet : List ℕ) (before after : Services) (more : ℕ) → IsHome place own before → MayHave place packet before →
    length after.outgoing ≤ length before.outgoing + more → length after.outgoing ≤ more
little_after None own packet before after more home given little = absurd home
little_after (Some seat) own packet before after more home given little = let none : length before.outgoing ≡ 0 = ap length given.idle in omega (arith, none, little)
