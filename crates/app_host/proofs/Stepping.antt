-- A step, by what is handled in it.
use Rattle.std.proofs.Common.{◌≡◌, ◌≢◌, refl, ap, sym, ◌∙◌, subst, ℕ, ◌≤◌, true, false, List, ◌∷◌, [], length, map, if◌then◌else◌, Option, Some, None, Result, Ok, Err}
use Rattle.std.specs.Prelude.{option_map, All, Contains}
use Rattle.std.specs.Option.{option_map_or}
use Rattle.std.specs.List.{AllByRecursion, concat}
use Rattle.lc_model.proofs.Facts.{test_unequal}
use Rattle.lc_model.specs.declared.record.Moment.{Moment}
use Rattle.lc_model.specs.Device.{Sink, NoWriteRetried}
use Rattle.lc_model.specs.Name.{Name}
use Rattle.lc_model.specs.Services.Seen.{meaning_of}
use Rattle.lc_model.specs.Packet.{stream_fault, message_id, event_services_mid, table_services_mid, executive_services_mid, by_service}
use Rattle.lc_model.specs.Command.{order_in}
use Rattle.lc_model.specs.Refusal.{Refusal}
use Rattle.lc_model.specs.Events.Request.{event_services, table_services, executive_services, bad_packet}
use Rattle.lc_model.specs.Host.React.{Input, Packet, File, stored}
use Rattle.lc_model.specs.Laws.TablesByName.{TablesAreFound}
use Rattle.lc_model.specs.Services.Bus.{seen}
use Rattle.lc_model.specs.Services.Tables.{IsTableService, tables_at}
use Rattle.lc_model.specs.Kept.Executive.{Pipe, Executive, Written, told_by_host, filed_now, step_by, routed_now, answered_now, with_services, event_service_now, table_service_now, executive_service_now, passed_on}
use Rattle.lc_model.specs.Kept.Stations.{Station, Host, stop_at, written_once, order_stations, routed_stations, passing_stations, stations_of, last_calls, host_after, host_step}
use Rattle.app_host.specs.declared.services.Services.{Services}
use Rattle.app_host.specs.declared.error.WriteFault.{WriteFault}
use Rattle.app_host.specs.Shared.{on_board, shared, at_moment}
use Rattle.app_host.specs.Hosted.{Object, Hosted, member_of, in_numbers}
use Rattle.app_host.specs.Whole.{AreKnown, IsWhole}
use Rattle.app_host.specs.Load.{all_ticks}
use Rattle.app_host.specs.Party.{Party, Hearers, Waiting, Holders, Only, nobody, scheduled_mids, passing, party_by, AreKnownHearers, IsKnownOnSeat, IsKnownSpare, AreKnownIn}
use Rattle.app_host.specs.Delivered.{executive_in}
use Rattle.app_host.specs.Writing.{IsDone, IsCut, Handles, PassesOn}
use Rattle.app_host.specs.Told.{TellsAlone, Files, ObeysEvents, ObeysTables}
use Rattle.app_host.specs.Ordered.{ObeysOrders}
use Rattle.app_host.specs.Step.{party_of, routed_party, StepHasBegun, HandlesInput, StepsSo, StopsSo, Steps, without_count, Counts}
use Rattle.app_host.proofs.Flushed.{same_shared, same_seated}

-- ---- it begins

pub whole_begun : TablesAreFound → (moment : Moment) (old begun : Hosted) → IsTableService old.services.tables → IsWhole old → begun.stock ≡ old.stock → begun.seats ≡ old.seats → begun.services ≡ at_moment moment old.services → IsWhole begun
whole_begun law moment old begun sound whole stock seats services = record {
  seated = rw (seats, services) (same_seated law old.seats old.services (at_moment moment old.services) sound (record { bus = refl; events = refl; tables = refl; counts = refl }) whole.seated);
  spares = rw stock whole.spares;
  idle = ap (λ (s : Services). s.outgoing) services ∙ whole.idle;
}

-- ---- it is done

-- no write came after a failed one
pub handled_once : (party : Party) (stations : List (Station (List ℕ))) (step : Written (List ℕ)) (last : ℕ) (old new : Hosted) (before now : Sink) (result : Result ℕ WriteFault) →
    Handles party stations step last old new before now result → NoWriteRetried before now
handled_once party stations step last old new before now (Ok total) all = all.not_retried
handled_once party stations step last old new before now (Err fault) part = part.not_retried

-- a step of an is_open host, by the write that fails, if any
open_step : (moment : Moment) (room : ℕ) (host : Host (List ℕ)) (input : Input (List ℕ)) (stop : Option (Station (List ℕ))) → host.is_closed ≡ false → stop_at room (stations_of on_board moment host.executive input) ≡ stop →
    host_step on_board moment room host input
    ≡ option_map_or (λ (station : Station (List ℕ)). (record { executive = station.executive; is_closed = true; calls = station.calls }, Some room)) stop (host_after on_board moment host input, None)
open_step moment room host input stop is_open is =
    ap (λ b. if b then (host, Some 0)
    else option_map_or (λ (station : Station (List ℕ)). (record { executive = station.executive; is_closed = true; calls = station.calls }, Some room))
    (stop_at room (stations_of on_board moment host.executive input)) (host_after on_board moment host input, None)) is_open
    ∙ ap (λ o. option_map_or (λ (station : Station (List ℕ)). (record { executive = station.executive; is_closed = true; calls = station.calls }, Some room)) o (host_after on_board moment host input, None)) is

module _ (moment : Moment) (input : Input (List ℕ)) (old begun : Hosted) (began : StepHasBegun moment old begun) where
  executive_begun : executive_in begun ≡ executive_in old
  executive_begun = λ i. record {
    stock = map member_of (began.stock i);
    seats = map (option_map member_of) (began.seats i);
    pipes = seen (began.services i).bus;
    services = (ap shared began.services ∙ same_shared old.services (at_moment moment old.services) (record { bus = refl; events = refl; tables = refl; counts = refl })) i;
  }

  moment_begun : begun.services.moment ≡ moment
  moment_begun = ap (λ (s : Services). s.moment) began.services

  known_begun : AreKnown old → AreKnown begun
  known_begun known = λ seat. rw began.seats (known seat)

  pipes_begun : seen begun.services.bus ≡ seen old.services.bus
  pipes_begun = ap (λ (s : Services). seen s.bus) began.services

  hearers_begun : (mids : List ℕ) → AllByRecursion (AreKnownHearers old) mids → AllByRecursion (AreKnownHearers begun) mids
  hearers_begun [] known = tt
  hearers_begun (mid ∷ mids) known = ((λ seat. rw (pipes_begun, began.seats) (known.0 seat)), hearers_begun mids known.1)

  asked_begun : (party : Party) → AreKnownIn party old → AreKnownIn party begun
  asked_begun (Hearers mids) known = hearers_begun mids known
  asked_begun Waiting determined = record {
    waiting = λ seat. rw (pipes_begun, began.seats) (determined.waiting seat);
    scheduled = λ some. hearers_begun scheduled_mids (determined.scheduled (subst (λ (pipes : List (Option Pipe)). 1 ≤ all_ticks pipes) pipes_begun some));
  }
  asked_begun Holders known = λ seat some. rw began.seats
      (known seat (subst (λ (s : Services). tables_at seat s.tables.places ≢ []) began.services some))
  asked_begun (Only leaving coming) known = (
    subst (λ (seats : List (Option Object)). IsKnownOnSeat leaving seats) (sym began.seats) known.0,
    subst (λ (stock : List Object). IsKnownSpare coming stock) (sym began.stock) known.1,
  )

  among_begun : (new : Hosted) → All (Contains begun.stock) new.stock → All (Contains old.stock) new.stock
  among_begun new among = subst (λ (stock : List Object). All (Contains stock) new.stock) began.stock among

  abbrev stations_by : Moment × Executive (List ℕ) → List (Station (List ℕ))
  stations_by from = stations_of on_board from.0 from.1 input

  steps_so : (new : Hosted) (before now : Option (List ℕ)) → new.is_closed ≡ false → old.is_closed ≡ false →
      IsDone (stations_by (begun.services.moment, executive_in begun)) (step_by on_board begun.services.moment (executive_in begun) input) (last_calls on_board begun.services.moment (stations_by (begun.services.moment, executive_in begun))) new before now →
      StepsSo moment input old new before now
  steps_so new before now is_open was_open begun_done = record {
    host = after;
    gains = done.gains;
    room = λ room enough. open_step moment room (in_numbers old) input None was_open (done.fits room enough) ∙ ap (λ (h : Host (List ℕ)). (h, None)) (sym after);
  }
    where
      done : IsDone (stations_by (moment, executive_in old)) (step_by on_board moment (executive_in old) input) (last_calls on_board moment (stations_by (moment, executive_in old))) new before now
      done = subst (λ (from : Moment × Executive (List ℕ)). IsDone (stations_by from) (step_by on_board from.0 from.1 input) (last_calls on_board from.0 (stations_by from)) new before now)
          (λ i. (moment_begun i, executive_begun i)) begun_done

      after : in_numbers new ≡ host_after on_board moment (in_numbers old) input
      after = λ i. record { executive = done.executive i; is_closed = is_open i; calls = done.calls i }

  stops_so : (new : Hosted) (sent : ℕ) (before now : Option (List ℕ)) → new.is_closed ≡ true → old.is_closed ≡ false →
      IsCut (stations_by (begun.services.moment, executive_in begun)) (step_by on_board begun.services.moment (executive_in begun) input) sent new before now →
      StopsSo moment input sent old new before now
  stops_so new sent before now is_closed was_open begun_cut = record {
    host = open_step moment sent (in_numbers old) input (Some cut.station) was_open cut.stops ∙ ap (λ (h : Host (List ℕ)). (h, Some sent)) (sym after);
    gains = cut.gains;
  }
    where
      cut : IsCut (stations_by (moment, executive_in old)) (step_by on_board moment (executive_in old) input) sent new before now
      cut = subst (λ (from : Moment × Executive (List ℕ)). IsCut (stations_by from) (step_by on_board from.0 from.1 input) sent new before now)
          (λ i. (moment_begun i, executive_begun i)) begun_cut

      after : in_numbers new ≡ record { executive = cut.station.executive; is_closed = true; calls = cut.station.calls }
      after = λ i. record { executive = cut.executive i; is_closed = is_closed i; calls = cut.calls i }

  pub steps : (new : Hosted) (before now : Sink) (result : Result ℕ WriteFault) → old.is_closed ≡ false → HandlesInput input begun new before now result → Steps moment input old new before now (without_count result)
  steps new before now (Ok total) is_open all = record {
    is_open = all.is_closed ∙ began.is_closed ∙ is_open;
    stock = among_begun new all.stock;
    few = all.calls;
    fine = all.fine;
    known = λ known asked. all.known (known_begun known) (asked_begun (party_of input) asked);
    exact = λ asked. steps_so new before.gained now.gained (all.is_closed ∙ began.is_closed ∙ is_open) is_open (all.exact (asked_begun (party_of input) asked));
  }
  steps new before now (Err fault) is_open part = record {
    is_closed = part.is_closed;
    stock = among_begun new part.stock;
    few = part.calls;
    failed = part.failed;
    known = λ known asked. part.known (known_begun known) (asked_begun (party_of input) asked);
    exact = λ asked. stops_so new fault.sent before.gained now.gained part.is_closed is_open (part.exact (asked_begun (party_of input) asked));
  }

  pub counts_then : (new : Hosted) (before now : Sink) (result : Result ℕ WriteFault) → HandlesInput input begun new before now result → Counts moment input old result
  counts_then new before now (Ok total) all = λ asked. all.count (asked_begun (party_of input) asked)
      ∙ ap (λ (from : Moment × Executive (List ℕ)). length (concat (step_by on_board from.0 from.1 input).1)) (λ i. (moment_begun i, executive_begun i))
  counts_then new before now (Err fault) part = tt

-- ---- what is handled

-- one write behind all is no call
no_call : (moment : Moment) (step : Written (List ℕ)) → last_calls on_board moment (written_once step) ≡ 0
unfolding last_calls
no_call moment step = refl

no_call_for_orders : (moment : Moment) (packet : List ℕ) (e : Executive (List ℕ)) (answer : Result (Written (List ℕ)) Refusal) → last_calls on_board moment (order_stations on_board moment packet e answer) ≡ 0
unfolding last_calls
no_call_for_orders moment packet e (Ok step) = refl
no_call_for_orders moment packet e (Err refusal) = refl

module _ (old new : Hosted) (before now : Sink) (result : Result ℕ WriteFault) where
  abbrev moment : Moment
  moment = old.services.moment

  abbrev e : Executive (List ℕ)
  e = executive_in old

  -- a write behind all, as what a record leads to
  once : (party : Party) (step : Written (List ℕ)) → Handles party (written_once step) step 0 old new before now result → Handles party (written_once step) step (last_calls on_board moment (written_once step)) old new before now result
  once party step handles = subst (λ last. Handles party (written_once step) step last old new before now result) (sym (no_call moment step)) handles

  -- a file
  pub filed_so : (name : Name) (bytes : List ℕ) (input : Input (List ℕ)) → input ≡ File name (length bytes) (meaning_of bytes) → Files name bytes old new before now result → HandlesInput input old new before now result
  filed_so name bytes input is files =
      subst (λ given. HandlesInput given old new before now result) (sym is)
      (once nobody (filed_now moment e (stored name (length bytes) (meaning_of bytes) e.services.files)) files)

  module _ (packet : List ℕ) where
    -- who takes part in an order
    abbrev party : Party
    party = party_by (order_in packet)

    -- by the fault of the packet
    abbrev ByFault : Option ℕ → Type 0
    ByFault fault =
        let stations : List (Station (List ℕ)) = option_map_or (λ reason. written_once (told_by_host moment (bad_packet reason ∷ []) e)) fault (routed_stations on_board moment packet e) in
        Handles (option_map_or (λ reason. nobody) fault (routed_party packet)) stations (option_map_or (λ reason. told_by_host moment (bad_packet reason ∷ []) e) fault (routed_now on_board moment packet e)) (last_calls on_board moment stations) old new before now result

    pub refused_so : (reason : ℕ) → stream_fault packet ≡ Some reason → TellsAlone (bad_packet reason) old new before now result → HandlesInput (Packet packet) old new before now result
    refused_so reason is tells = subst ByFault (sym is) (once nobody (told_by_host moment (bad_packet reason ∷ []) e) tells)

    -- by its message id
    abbrev events_step : Written (List ℕ)
    events_step = answered_now on_board moment event_services packet e (with_services e (event_service_now packet e.services))

    abbrev tables_step : Written (List ℕ)
    tables_step = answered_now on_board moment table_services packet e (with_services e (table_service_now on_board packet e.services))

    abbrev orders_step : Written (List ℕ)
    orders_step = answered_now on_board moment executive_services packet e (executive_service_now on_board moment packet e)

    abbrev ByMid : ℕ → Type 0
    ByMid mid =
        let stations : List (Station (List ℕ)) =
        by_service mid (written_once events_step) (written_once tables_step) (order_stations on_board moment packet e (executive_service_now on_board moment packet e))
        (passing_stations on_board moment packet e) in
        Handles (by_service mid nobody Holders party (passing packet)) stations
        (by_service mid events_step tables_step orders_step (passed_on on_board moment packet e)) (last_calls on_board moment stations) old new before now result

    module _ (good : stream_fault packet ≡ None) where
      routed_so : ByMid (message_id packet) → HandlesInput (Packet packet) old new before now result
      routed_so routes = subst ByFault (sym good) routes

      pub for_events : message_id packet ≡ event_services_mid → ObeysEvents packet old new before now result → HandlesInput (Packet packet) old new before now result
      for_events is obeys = routed_so (subst ByMid (sym is) (once nobody events_step obeys))

      pub for_tables : message_id packet ≡ table_services_mid → ObeysTables packet old new before now result → HandlesInput (Packet packet) old new before now result
      for_tables is obeys = routed_so (subst ByMid (sym is) (once Holders tables_step obeys))

      pub for_others : message_id packet ≢ event_services_mid → message_id packet ≢ table_services_mid → message_id packet ≢ executive_services_mid → PassesOn packet old new before now result → HandlesInput (Packet packet) old new before now result
      for_others no_events no_tables no_orders passes = routed_so (rw (test_unequal _ _ no_events, test_unequal _ _ no_tables, test_unequal _ _ no_orders) passes)

      pub for_orders : message_id packet ≡ executive_services_mid → ObeysOrders packet old new before now result → HandlesInput (Packet packet) old new before now result
      for_orders is obeys = routed_so (subst ByMid (sym is)
          (subst (λ last. Handles party (order_stations on_board moment packet e (executive_service_now on_board moment packet e)) orders_step last old new before now result)
          (sym (no_call_for_orders moment packet e (executive_service_now on_board moment packet e))) obeys))
