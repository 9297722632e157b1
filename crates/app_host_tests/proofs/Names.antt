-- Names of one letter, and what their applications do at their seats.
use Rattle.std.proofs.Common.{◌≡◌, ◌∙◌, refl, sym, ap, subst, ℕ, ◌+◌, ◌≤◌, List, [], ◌∷◌, ◌++◌, length, replicate, slice_set, Option, Some, None, Result, Ok, Err, arith, if◌then◌else◌}
use Rattle.std.specs.Prelude.{IsSomeAnd, IfSome, OnErr, is_some}
use Rattle.std.proofs.lemmas.List.{set-get_or, replicate_more, length-append}
use Rattle.lc_model.specs.Name.{Name}
use Rattle.lc_model.specs.Packet.{message_id, tick_mid}
use Rattle.lc_model.specs.Refusal.{refused}
use Rattle.lc_model.specs.Kept.Summary.{Other}
use Rattle.lc_model.specs.Laws.Senders.{UnregisteringByName}
use Rattle.lc_model.specs.Services.Bus.{Bus, Queue, after, pipe_at, pipe_removed}
use Rattle.lc_model.specs.Services.Events.{EventService, IsEventService, Sender, sender_at, sender_named, unregistered_at}
use Rattle.lc_model.specs.Services.Tables.{tables_unregistered}
use Rattle.lc_model.specs.Services.Interface.{Held, MayBeGiven, MayPublish, IsGiven, IsRetired}
use Rattle.lc_model.specs.Kept.Call.{with_at}
use Rattle.event_service.specs.Error.{answered}
use Rattle.event_service.specs.declared.error.EventError.{EventError}
use Rattle.lc_model.proofs.Services.SenderLaws.{without_sender, name_is_gone}
use Rattle.app_host.specs.declared.services.Services.{Services}
use Rattle.app_host.specs.Shared.{held_by}
use Rattle.app_host.specs.Calls.{IsAtHome}
use Rattle.app_host.specs.Seating.{IsClosed}
use Rattle.app_host.specs.Publishing.{AreShort, Publishes, PublishingGoesOn, PublishingAnswers, TicksHaveRoom}
use Rattle.app_host.specs.Statements.{ClosingRetires}
use Rattle.app_host_tests.specs.Naming.{heard}

-- ---- publishing

pub one_more : PublishingGoesOn → (k : ℕ) (before between after : Services) → Publishes (replicate k heard) before between → Publishes (heard ∷ []) between after →
    Publishes (replicate (k + 1) heard) before after
one_more law k before between after far next =
    subst (λ packets. Publishes packets before after) (replicate_more k heard) (law (replicate k heard) heard before between after far next)

pub one_more_waits : (k : ℕ) (bus : Bus) → AreShort (64 + k + 1) bus → AreShort (64 + (k + 1)) bus
one_more_waits k bus short = subst (λ n. AreShort n bus) (let same : 64 + k + 1 ≡ 64 + (k + 1) = omega arith in same) short

-- ---- a packet

-- what waits to be written is the object's own choice
pub may_write : (seat : ℕ) (name : Name) (packet : List ℕ) (before : Held) (after : Services) (bytes : List ℕ) → IsGiven seat name packet before (held_by after) →
    length bytes ≤ 65536 → IsGiven seat name packet before (held_by (record after { outgoing = bytes }))
may_write seat name packet before after bytes given few = record {
  published = given.published;
  may = given.may;
  call = record {
    others = record {
      host = given.call.others.host;
      senders = given.call.others.senders;
      tables = given.call.others.tables;
      files = given.call.others.files;
      moment = given.call.others.moment;
    };
    pipes = given.call.pipes;
    outgoing = few;
  };
  own = given.own;
  belongs = record { sender = given.belongs.sender; tables = given.belongs.tables };
}

pub has_room : TicksHaveRoom → (place : Option ℕ) (name : Name) (packet : List ℕ) (s : Services) → IsSomeAnd place (λ seat. IsAtHome Other name seat s) →
    IfSome place (λ seat. MayBeGiven seat name packet (held_by s)) → message_id packet ≡ tick_mid → AreShort 64 s.bus
has_room law None name packet s home given tick = absurd home
has_room law (Some seat) name packet s home given tick = law seat name packet (held_by s) given tick

pub answers : PublishingAnswers → (place : Option ℕ) (name : Name) (packet : List ℕ) (count : ℕ) (before between : Services) (bytes : List ℕ) →
    IsSomeAnd place (λ seat. IsAtHome Other name seat before) → IfSome place (λ seat. MayBeGiven seat name packet (held_by before)) →
    Publishes (replicate count heard) before between → MayPublish packet (replicate count heard) → length name ≡ 1 → bytes ≡ between.outgoing ++ name →
    IfSome place (λ seat. IsGiven seat name packet (held_by before) (held_by (record between { outgoing = bytes })))
answers law None name packet count before between bytes home given published may one written = absurd home
answers law (Some seat) name packet count before between bytes home given published may one written =
    may_write seat name packet (held_by before) between bytes (law seat name (replicate count heard) before between published packet may home.belongs given.idle)
    (let sum : length bytes ≡ length between.outgoing + length name = ap length written ∙ length-append between.outgoing name in
    let none : length between.outgoing ≡ 0 = ap length (published.outgoing ∙ given.idle) in
    omega (arith, sum, none, one))

-- ---- the retirement

pub retires : ClosingRetires → (place : Option ℕ) (name : Name) (before after : Services) → IfSome place (λ seat. IsClosed seat before after) → before.outgoing ≡ [] →
    IfSome place (λ seat. IsRetired seat name (held_by before) (held_by after))
retires law None name before after closed idle = tt
retires law (Some seat) name before after closed idle = law seat name before after closed idle

pub closes : (seat : ℕ) (before after : Services) → (r : Result (Unit {0}) EventError) → UnregisteringByName → IsEventService before.events →
    after.bus ≡ Rattle.lc_model.specs.Services.Bus.after before.bus (pipe_removed seat before.bus) →
    answered r after.events ≡ unregistered_at seat before.events → OnErr r (after.events ≡ before.events) →
    after.tables ≡ tables_unregistered seat before.tables → after.counts ≡ before.counts → after.moment ≡ before.moment → after.outgoing ≡ before.outgoing →
    IsClosed seat before after
closes seat before now r law sound bus answer kept tables counts moment outgoing = record {
  bus = bus ∙ no_pipe (pipe_at seat before.bus) refl;
  events = no_sender (sender_at (Some seat) before.events) refl;
  names = no_name (sender_at (Some seat) before.events) refl;
  tables = tables;
  counts = counts;
  moment = moment;
  outgoing = outgoing;
}
  where
    no_pipe : (place : Option Queue) → pipe_at seat before.bus ≡ place → after before.bus (pipe_removed seat before.bus) ≡ slice_set before.bus seat None
    no_pipe None e =
        let stays : after before.bus (pipe_removed seat before.bus) ≡ before.bus = cc in
        stays ∙ sym (ap (slice_set before.bus seat) (sym e) ∙ set-get_or before.bus seat None)
    no_pipe (Some queue) e = cc

    goes : (sender : Sender) → sender_at (Some seat) before.events ≡ Some sender → unregistered_at seat before.events ≡ Ok (without_sender seat before.events)
    goes sender e = ap (λ (place : Option Sender). if is_some place then Ok (without_sender seat before.events) else refused 101) e

    stays_in : (r : Result (Unit {0}) EventError) → answered r now.events ≡ refused 101 → OnErr r (now.events ≡ before.events) → now.events ≡ before.events
    stays_in (Ok done) e same = cc
    stays_in (Err error) e same = same

    answered_by : (r : Result (Unit {0}) EventError) (now x : EventService) → answered r now ≡ Ok x → now ≡ x
    answered_by (Ok done) now x e = cc
    answered_by (Err error) now x e = cc

    no_sender : (place : Option Sender) → sender_at (Some seat) before.events ≡ place → now.events ≡ without_sender seat before.events
    no_sender None e =
        stays_in r (answer ∙ ap (λ (place : Option Sender). if is_some place then Ok (without_sender seat before.events) else refused 101) e) kept
        ∙ ap (λ (places : List (Option Sender)). record before.events { places = places })
        (sym (ap (slice_set before.events.places seat) (sym e) ∙ set-get_or before.events.places seat None))
    no_sender (Some sender) e = answered_by r now.events (without_sender seat before.events) (answer ∙ goes sender e)

    no_name : (place : Option Sender) → sender_at (Some seat) before.events ≡ place →
        IfSome place (λ (sender : Sender). sender_named now.events ≡ with_at sender.name None (sender_named before.events))
    no_name None e = tt
    no_name (Some sender) e =
        subst (λ place. IfSome place (λ (sender : Sender). sender_named now.events ≡ with_at sender.name None (sender_named before.events))) e
        (name_is_gone seat before.events now.events law sound (no_sender (Some sender) e) (goes sender e))
