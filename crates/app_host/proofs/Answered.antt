-- What there is when the object of a seat had its packet.
use Rattle.std.proofs.Common.{◌≡◌, ◌≢◌, refl, ap, ap₂, sym, ◌∙◌, subst, ℕ, ◌+◌, ◌<◌, ◌≤◌, ◌==◌, Bool, true, false, List, [], ◌∷◌, ◌++◌, length, map, filter, arith, if◌then◌else◌, Option, Some, None}
use Rattle.std.specs.Prelude.{IfSome, option_map, unwrap_or, slice_index_or, slice_set}
use Rattle.std.specs.Option.{option_map_or}
use Rattle.std.specs.List.{AllByRecursion}
use Rattle.std.proofs.lemmas.List.{get_or-set_same, get_or-set_other, length-map, map-set, set-set}
use Rattle.lc_model.specs.declared.record.Moment.{Moment}
use Rattle.lc_model.specs.Packet.{message_id, tick_mid, sample_mid, lc_housekeeping_request_mid, counter_mid}
use Rattle.lc_model.specs.Host.Schedule.{entries_at}
use Rattle.lc_model.specs.Kept.Summary.{AppState, LcState, SchState, CounterState, Other}
use Rattle.lc_model.specs.Kept.Next.{next_tick, next_count}
use Rattle.lc_model.specs.Kept.Call.{ServicesNow, Called, silent, sch_told, counter_told, sch_subscriptions, counter_subscriptions, next_on_packet}
use Rattle.lc_model.specs.Kept.Executive.{Pipe, Member, Executive, no_member, seated, hears, all_published_to, after_call, after_taking, handed, delivered_at}
use Rattle.lc_model.specs.Laws.TablesByName.{TablesAreFound}
use Rattle.lc_model.specs.Services.Bus.{seen, seen_pipe, received, after}
use Rattle.lc_model.specs.Services.Events.{EventService}
use Rattle.lc_model.specs.Services.Tables.{TableService, IsTableService}
use Rattle.lc_model.specs.Services.Interface.{MayPublish, IsOwnPipe, seen_at, waiting_in}
use Rattle.app_host.specs.declared.services.Services.{Services}
use Rattle.app_host.specs.Shared.{on_board, held_by, shared}
use Rattle.app_host.specs.Calls.{Leaves}
use Rattle.app_host.specs.Hosted.{Object, Hosted, object_at, member_of}
use Rattle.app_host.specs.Objects.{HasAnswered}
use Rattle.app_host.specs.Whole.{IsRunning, AreSeated, IsKnown, AreKnown}
use Rattle.app_host.specs.Party.{AreKnownHearers, IsDetermined}
use Rattle.app_host.specs.Load.{is_tick, packets_in, load, IsLight}
use Rattle.app_host.specs.Delivered.{with_bus, executive_in, Becomes, HasDelivered}
use Rattle.app_host.proofs.Found.{shown_in}
use Rattle.app_host.proofs.Rosters.{same_roster, names_still}
use Rattle.app_host.proofs.Frames.{fact_at_set, others_stay, seated_still, seated_with, alone_still}
use Rattle.app_host.proofs.Loads.{waits_here, tick_waits, falls, still_light, no_new_ticks, no_more}
use Rattle.app_host.proofs.Rules as model
use Rattle.app_host.proofs.Published.{heard_at}
use Rattle.app_host.proofs.Heard.{IsScheduled, IfHeard, entries_scheduled, heard_anyway, heard_behind, heard_then}
use Rattle.app_host.proofs.Delivery.{oldest_is, HasFirst, first_packet, behind, pipe_is, waits, bus_then, shared_still, stays_taken}

-- ---- an object of this profile answers

record Answers (call : Option (Called (List ℕ))) : Type 0 where
  called : Called (List ℕ)
  is : call ≡ Some called
  known : called.state ≢ Other
  scheduled : AllByRecursion IsScheduled called.published

answers : (moment : Moment) (state : AppState) (packet : List ℕ) (services : ServicesNow (List ℕ)) → state ≢ Other → Answers (next_on_packet on_board moment state packet services)
answers moment (LcState own) packet services known = record { called = _; is = refl; known = λ e. cc; scheduled = tt }
answers moment (SchState schedule slot) packet services known = by_test (message_id packet == tick_mid)
  where
    by_test : (b : Bool) → Answers (Some (if b then sch_told (next_tick schedule slot) schedule services else silent (SchState schedule slot) sch_subscriptions [] services))
    by_test true = record { called = _; is = refl; known = λ e. cc; scheduled = entries_scheduled (entries_at schedule slot) }
    by_test false = record { called = _; is = refl; known = λ e. cc; scheduled = tt }
answers moment (CounterState count) packet services known = by_test (message_id packet == counter_mid)
  where
    by_test : (b : Bool) → Answers (Some (if b then counter_told moment (next_count packet count) services else silent (CounterState count) counter_subscriptions [] services))
    by_test true = record { called = _; is = refl; known = λ e. cc; scheduled = tt }
    by_test false = record { called = _; is = refl; known = λ e. cc; scheduled = tt }
answers moment Other packet services known = absurd (known refl)

-- the member of a seat
pub seated_is : (seats : List (Option Object)) (seat : ℕ) (o : Object) → seat < length seats → object_at seat seats ≡ Some o → seated (map (option_map member_of) seats) seat ≡ member_of o
seated_is seats seat o inside at =
    ap (λ (m : Option Member). unwrap_or m no_member) (shown_in (option_map member_of) seats seat None None inside ∙ ap (option_map member_of) at)

module _ (law : TablesAreFound) (h new : Hosted) (now : Services) (seat : ℕ) (o o' : Object) (whole : AreSeated h.seats h.services) (light : IsLight (seen h.services.bus))
    (sound : IsTableService h.services.tables) (sound' : IsTableService new.services.tables)
    (events : now.events ≡ h.services.events) (tables : now.tables ≡ h.services.tables) (counts : now.counts ≡ h.services.counts) (moment : now.moment ≡ h.services.moment)
    (outgoing : now.outgoing ≡ h.services.outgoing) (has : HasFirst h.services.bus seat) (bus : now.bus ≡ after h.services.bus (received seat h.services.bus)) (below : seat < 8)
    (at : object_at seat h.seats ≡ Some o) (packet : List ℕ) (is : packet ≡ first_packet h.services.bus seat has) (answered : HasAnswered seat packet now new.services o o')
    (seats : new.seats ≡ slice_set h.seats seat (Some o')) (stock : new.stock ≡ h.stock) (eight : length new.services.bus ≡ 8) where
  abbrev before : Services
  before = h.services

  now_is : now ≡ with_bus (after before.bus (received seat before.bus)) before
  now_is = λ i. record { bus = bus i; events = events i; tables = tables i; counts = counts i; moment = moment i; outgoing = outgoing i }

  sound_now : IsTableService now.tables
  sound_now = subst IsTableService (sym tables) sound

  seated_now : AreSeated h.seats now
  seated_now =
      seated_still law h.seats before now sound sound_now (stays_taken law before now sound events tables counts moment outgoing seat has bus) whole

  running_here : IsRunning before seat o
  running_here = subst (λ (x : Option Object). IfSome x (IsRunning before seat)) at (whole.running seat)

  running_then : IsRunning new.services seat o'
  running_then = record {
    holds = answered.holds;
    named = rw answered.name running_here.named;
    home = rw answered.name answered.home;
  }

  seated_then : AreSeated new.seats new.services
  seated_then =
      rw seats
      (seated_with law h.seats now new.services sound_now sound' seat below
      (others_stay seat answered.rules.published now new.services answered.rules.call.others answered.rules.call.pipes) seated_now o' running_then
      (alone_still h.seats now seat o o' seated_now at answered.name))

  -- ---- what waits

  pipes_now : seen now.bus ≡ slice_set (seen before.bus) seat (Some (record { subscriptions = has.queue.subscriptions; waiting = behind before.bus seat has }))
  pipes_now = bus_then before.bus seat has now.bus bus

  -- a pipe that hears what was published
  abbrev hearing : Pipe → Pipe
  hearing pipe = record pipe { waiting = pipe.waiting ++ filter (λ packet. hears packet pipe) answered.rules.published }

  may : MayPublish (first_packet before.bus seat has) answered.rules.published
  may = subst (λ p. MayPublish p answered.rules.published) is answered.rules.may

  as_eight : length (seen new.services.bus) ≡ 8
  as_eight = length-map new.services.bus (option_map seen_pipe) ∙ eight

  abbrev pipes_taken : List (Option Pipe)
  pipes_taken = slice_set (seen before.bus) seat (Some (record { subscriptions = has.queue.subscriptions; waiting = behind before.bus seat has }))

  heard : (other : ℕ) → other ≢ seat → slice_index_or (seen new.services.bus) other None ≡ option_map hearing (slice_index_or pipes_taken other None)
  heard other another = answered.rules.call.pipes other another ∙ ap (λ (pipes : List (Option Pipe)). option_map hearing (slice_index_or pipes other None)) pipes_now

  own : IfSome (slice_index_or (seen new.services.bus) seat None) (IsOwnPipe (slice_index_or pipes_taken seat None) answered.rules.published)
  own = subst (λ (pipes : List (Option Pipe)). IfSome (slice_index_or (seen new.services.bus) seat None) (IsOwnPipe (slice_index_or pipes seat None) answered.rules.published)) pipes_now answered.rules.own

  light_then : IsLight (seen new.services.bus)
  light_then =
      still_light (seen before.bus) seat light (seen_pipe has.queue) (first_packet before.bus seat has) (behind before.bus seat has) (pipe_is before.bus seat has) (waits before.bus seat has) below
      (seen new.services.bus) answered.rules.published as_eight may heard own

  falls_then : load (seen new.services.bus) < load (seen before.bus)
  falls_then =
      falls (seen before.bus) seat light (seen_pipe has.queue) (first_packet before.bus seat has) (behind before.bus seat has) (pipe_is before.bus seat has) (waits before.bus seat has) below
      (seen new.services.bus) answered.rules.published as_eight may heard own

  -- ---- exactness

  abbrev e : Executive (List ℕ)
  e = executive_in h

  abbrev IsHereKnown : Option Object → Type 0
  IsHereKnown place = IfSome place IsKnown

  -- it is known, where it is determined what the deliveries lead to
  known_here : IsDetermined h → o.state ≢ Other
  known_here determined =
      subst IsHereKnown at
      (determined.waiting seat (waits_here (seen before.bus) seat light (seen_pipe has.queue) (first_packet before.bus seat has) (behind before.bus seat has) (pipe_is before.bus seat has) (waits before.bus seat has) below))

  module _ (known : o.state ≢ Other) where
    answer : Answers (next_on_packet on_board before.moment o.state packet (shared before))
    answer = answers before.moment o.state packet (shared before) known

    leaves : Leaves seat o'.state now new.services answer.called
    leaves =
        subst (λ (call : Option (Called (List ℕ))). IfSome call (Leaves seat o'.state now new.services))
        (ap₂ (λ (m : Moment) (s : ServicesNow (List ℕ)). next_on_packet on_board m o.state packet s) moment (shared_still law before now sound events tables counts moment outgoing) ∙ answer.is) answered.exact

    -- the step is this call
    step_is : delivered_at on_board before.moment seat e ≡ after_call seat o.called (behind before.bus seat has) e answer.called
    step_is =
        ap (λ (pipe : Option Pipe). option_map_or (λ (p : Pipe). handed on_board before.moment seat (seated e.seats seat) p p.waiting e) pipe (e, [])) (pipe_is before.bus seat has)
        ∙ ap (λ waiting. handed on_board before.moment seat (seated e.seats seat) (seen_pipe has.queue) waiting e) (waits before.bus seat has)
        ∙ ap (λ (m : Member). handed on_board before.moment seat m (seen_pipe has.queue) (first_packet before.bus seat has ∷ behind before.bus seat has) e)
        (seated_is h.seats seat o (omega (arith, below, whole.eight)) at)
        ∙ ap (λ p. handed on_board before.moment seat (member_of o) (seen_pipe has.queue) (p ∷ behind before.bus seat has) e) (sym is)
        ∙ ap (λ (call : Option (Called (List ℕ))). option_map_or (after_call seat o.called (behind before.bus seat has) e) call (after_taking seat (seen_pipe has.queue) (behind before.bus seat has) e)) answer.is

    own_waiting : waiting_in (seen_at seat (held_by now)) ≡ behind before.bus seat has
    own_waiting =
        ap (λ (pipes : List (Option Pipe)). waiting_in (slice_index_or pipes seat None)) pipes_now
        ∙ ap waiting_in (get_or-set_same (seen before.bus) seat (Some (record { subscriptions = has.queue.subscriptions; waiting = behind before.bus seat has })) None (rw (length-map before.bus (option_map seen_pipe)) has.below))

    abbrev own_place : Option Pipe
    own_place = Some (record { subscriptions = answer.called.mids; waiting = behind before.bus seat has })

    pipes_are : seen new.services.bus ≡ all_published_to (slice_set (seen before.bus) seat own_place) answer.called.published
    pipes_are =
        leaves.pipes
        ∙ ap₂ (λ (pipes : List (Option Pipe)) waiting. all_published_to (slice_set pipes seat (Some (record { subscriptions = answer.called.mids; waiting = waiting }))) answer.called.published) pipes_now own_waiting
        ∙ ap (λ (pipes : List (Option Pipe)). all_published_to pipes answer.called.published)
        (set-set (seen before.bus) seat (Some (record { subscriptions = has.queue.subscriptions; waiting = behind before.bus seat has })) (Some (record { subscriptions = answer.called.mids; waiting = behind before.bus seat has })))

    seats_are : map (option_map member_of) new.seats ≡ slice_set e.seats seat (Some (record { called = o.called; state = answer.called.state }))
    seats_are =
        ap (map (option_map member_of)) seats
        ∙ map-set (option_map member_of) h.seats seat (Some o')
        ∙ (λ i. slice_set e.seats seat (Some (record { called = answered.name i; state = leaves.becomes i })))

    becomes_so : Becomes new (after_call seat o.called (behind before.bus seat has) e answer.called)
    becomes_so = record {
      executive = λ i. record { stock = map member_of (stock i); seats = seats_are i; pipes = pipes_are i; services = leaves.services i };
      outgoing = leaves.outgoing;
    }

    still_here : o'.state ≢ Other
    still_here = λ other_kind. answer.known (sym leaves.becomes ∙ other_kind)

    exact_then : Becomes new (delivered_at on_board before.moment seat e)
    exact_then = subst (Becomes new) (sym step_is) becomes_so

    -- the pipe of another seat
    heard_elsewhere : (other : ℕ) → other ≢ seat → slice_index_or (seen new.services.bus) other None ≡ option_map (model.hearing answer.called.published) (slice_index_or (seen before.bus) other None)
    heard_elsewhere other another =
        ap (λ (pipes : List (Option Pipe)). slice_index_or pipes other None) pipes_are
        ∙ heard_at (slice_set (seen before.bus) seat own_place) answer.called.published other
        ∙ ap (option_map (model.hearing answer.called.published)) (get_or-set_other (seen before.bus) seat other own_place None another)

    module _ (determined : IsDetermined h) where
      -- where something waits for another one
      known_elsewhere : (other : ℕ) → other ≢ seat → 1 ≤ packets_in (slice_index_or (seen new.services.bus) other None) → IsHereKnown (object_at other h.seats)
      known_elsewhere other another some = by_tick (is_tick (first_packet before.bus seat has)) refl
        where
          by_tick : (b : Bool) → is_tick (first_packet before.bus seat has) ≡ b → IsHereKnown (object_at other h.seats)
          by_tick true tick =
              heard_then (IsHereKnown (object_at other h.seats)) answer.called.published answer.scheduled (slice_index_or (seen before.bus) other None) (determined.waiting other)
              (let both = determined.scheduled (tick_waits (seen before.bus) seat light (seen_pipe has.queue) (first_packet before.bus seat has) (behind before.bus seat has) (pipe_is before.bus seat has) (waits before.bus seat has) below tick) in
              (both.0 other, (both.1.0 other, tt)))
              (subst (λ place. 1 ≤ packets_in place) (heard_elsewhere other another) some)
          by_tick false none =
              determined.waiting other
              (let fewer = no_more (seen before.bus) seat light (seen_pipe has.queue) (first_packet before.bus seat has) (behind before.bus seat has) (pipe_is before.bus seat has) (waits before.bus seat has) below
              (seen new.services.bus) answered.rules.published as_eight may heard own none other in omega (arith, some, fewer))

      -- who hears a message id is known still
      hearers_then : (mid : ℕ) → AreKnownHearers h mid → AreKnownHearers new mid
      hearers_then mid hearers = λ other. rw seats
          (fact_at_set (λ i (x : Option Object). IfHeard (IsHereKnown x) mid (slice_index_or (seen new.services.bus) i None)) h.seats seat other (Some o') None (omega (arith, below, whole.eight))
          (heard_anyway (IsHereKnown (Some o')) mid (slice_index_or (seen new.services.bus) seat None) still_here)
          (λ i another. rw (heard_elsewhere i another) (heard_behind (IsHereKnown (object_at i h.seats)) mid answer.called.published (slice_index_or (seen before.bus) i None) (hearers i))))

      determined_so : IsDetermined new
      determined_so = record {
        waiting = λ other. rw seats
            (fact_at_set (λ i (x : Option Object). 1 ≤ packets_in (slice_index_or (seen new.services.bus) i None) → IsHereKnown x) h.seats seat other (Some o') None (omega (arith, below, whole.eight))
            (λ some. still_here) known_elsewhere);
        scheduled = λ some.
            let fewer = no_new_ticks (seen before.bus) seat light (seen_pipe has.queue) (first_packet before.bus seat has) (behind before.bus seat has) (pipe_is before.bus seat has) (waits before.bus seat has) below
            (seen new.services.bus) answered.rules.published as_eight may heard own in
            let both = determined.scheduled (omega (arith, some, fewer)) in
            (hearers_then sample_mid both.0, (hearers_then lc_housekeeping_request_mid both.1.0, tt));
      }

  known_then : AreKnown h → AreKnown new
  known_then known = λ other. rw seats
      (fact_at_set (λ i (x : Option Object). IsHereKnown x) h.seats seat other (Some o') None (omega (arith, below, whole.eight)) (still_here (subst IsHereKnown at (known seat))) (λ i another. known i))

  pub has_delivered : new.is_closed ≡ h.is_closed → new.calls ≡ h.calls + 1 → HasDelivered seat h new
  has_delivered closed calls = record {
    seated = seated_then;
    stock = stock;
    is_closed = closed;
    moment = answered.rules.call.others.moment ∙ moment;
    calls = calls;
    light = light_then;
    falls = falls_then;
    fits = answered.rules.call.outgoing;
    own = record {
      host = answered.rules.call.others.host ∙ ap (λ (e : EventService). e.host) events;
      files = answered.rules.call.others.files ∙ ap (λ (t : TableService). t.files) tables;
      roster = same_roster h new stock (names_still h new seat o o' at answered.name seats);
    };
    packet = packet;
    had = record {
      oldest = oldest_is before.bus seat has ∙ ap Some (sym is);
      object = o;
      there = at;
      now = o';
      answered = subst (λ (s : Services). HasAnswered seat packet s new.services o o') now_is answered;
      seats = seats;
    };
    known = known_then;
    determined = λ determined. determined_so (known_here determined) determined;
    exact = λ determined. exact_then (known_here determined);
  }
