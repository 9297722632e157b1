-- All deliveries behind a publication.
use Rattle.std.proofs.Common.{◌≡◌, true, false, refl, ap, sym, ◌∙◌, subst, inl, ℕ, ◌+◌, ◌<◌, ◌≤◌, Bool, List, [], ◌∷◌, ◌++◌, length, take, map, arith, if◌then◌else◌, Option, Some, None, Result, Ok, Err}
use Rattle.std.specs.List.{AllByRecursion, concat}
use Rattle.std.specs.Prelude.{IfSome, IsOk, OnOk, option_map, slice_index_or, All, Contains}
use Rattle.std.proofs.lemmas.List.{length-map, append-nil}
use Rattle.lc_model.specs.declared.record.Moment.{Moment}
use Rattle.lc_model.specs.Device.{Sink}
use Rattle.lc_model.specs.Packet.{message_id, tick_mid, sample_mid, lc_housekeeping_request_mid}
use Rattle.lc_model.specs.Kept.Executive.{Pipe, Executive, ready_seat, published_to, drained}
use Rattle.lc_model.specs.Kept.Stations.{delivery_stations, last_calls}
use Rattle.lc_model.specs.Laws.TablesByName.{TablesAreFound}
use Rattle.lc_model.specs.Services.Bus.{Bus, seen, seen_pipe, published_as, IsPublished}
use Rattle.lc_model.specs.Services.Events.{EventService, sender_at}
use Rattle.lc_model.specs.Services.Tables.{TableService, IsTableService, tables_at}
use Rattle.lc_model.proofs.Services.BusLaws.{published_is_seen}
use Rattle.packet_bus.specs.declared.error.BusError.{BusError}
use Rattle.app_host.specs.declared.error.WriteFault.{WriteFault}
use Rattle.app_host.specs.Shared.{on_board}
use Rattle.app_host.specs.Telling.{name_of}
use Rattle.app_host.specs.Hosted.{Object, Hosted, object_at, member_of}
use Rattle.app_host.specs.Whole.{IsKnown, AreKnown, IsWhole, IsQuiet}
use Rattle.app_host.specs.Load.{is_tick, packets_in, all_ticks, IsLight, load}
use Rattle.app_host.specs.Party.{scheduled_mids, passing, AreKnownHearers, AreKnownIn, IsDetermined}
use Rattle.app_host.specs.Delivered.{executive_in, HasDelivered}
use Rattle.std.specs.Io.KnownBytes.{Appends}
use Rattle.lc_model.proofs.Facts.{test_less}
use Rattle.app_host.specs.Writing.{IsFlushed, IsPartSent, IsDone, IsCut, Drains, PassesOn}
use Rattle.app_host.specs.Roster as roster
use Rattle.app_host.specs.Roster.{roster_of}
use Rattle.app_host.specs.Heard.{IsOffered}
use Rattle.app_host.specs.Response.{passing_on, HasCalled, RespondsPart, RespondsWithCount}
use Rattle.app_host.proofs.Delivery.{shared_still}
use Rattle.app_host.proofs.Frames.{StaysAt, seated_still}
use Rattle.app_host.proofs.FirstPublished.{unheard, offered_at, offered_keeps, light_first, load_first, none_is_tick, who_waits_hears}
use Rattle.app_host.proofs.Heard.{heard_offered}
use Rattle.app_host.proofs.Rosters.{same_roster}
use Rattle.app_host.proofs.Responding.{IsStill}
use Rattle.app_host.proofs.Draining.{Draining, Listening, given_then, cut_inside, cut_gains, listening_then, some_calls}

module _ (packet : List ℕ) (old new : Bus) (published : IsPublished packet old new) (eight : length old ≡ 8) (quiet : ready_seat (seen old) ≡ None) where
  pipes_after : seen new ≡ published_to (seen old) packet
  pipes_after = ap seen published.published ∙ published_is_seen published.number packet old

  size : length (seen old) ≡ 8
  size = length-map old (option_map seen_pipe) ∙ eight

  pub light_after : IsLight (seen new)
  light_after = rw pipes_after (light_first packet (seen old) size quiet)

  pub load_after : load (seen new) ≤ 520
  load_after = rw pipes_after (load_first packet (seen old) size quiet)

module _ (law : TablesAreFound) (old mid : Hosted) (packet : List ℕ) (whole : IsWhole old) (quiet : IsQuiet old) (sound : IsTableService old.services.tables)
    (stock : mid.stock ≡ old.stock) (seats : mid.seats ≡ old.seats) (closed : mid.is_closed ≡ old.is_closed)
    (events : mid.services.events ≡ old.services.events) (tables : mid.services.tables ≡ old.services.tables) (counts : mid.services.counts ≡ old.services.counts)
    (moment : mid.services.moment ≡ old.services.moment) (outgoing : mid.services.outgoing ≡ old.services.outgoing)
    (published : IsPublished packet old.services.bus mid.services.bus) where
  pipes_then : seen mid.services.bus ≡ published_to (seen old.services.bus) packet
  pipes_then = ap seen published.published ∙ published_is_seen published.number packet old.services.bus

  stays : (seat : ℕ) → StaysAt seat old.services mid.services
  stays seat = record {
    sender = ap (λ (e : EventService). option_map name_of (sender_at (Some seat) e)) events;
    tables = ap (λ (t : TableService). tables_at seat t.places) tables;
    subscriptions =
        ap (λ (pipes : List (Option Pipe)). option_map (λ (pipe : Pipe). pipe.subscriptions) (slice_index_or pipes seat None)) pipes_then
        ∙ ap (option_map (λ (pipe : Pipe). pipe.subscriptions)) (offered_at packet (seen old.services.bus) seat)
        ∙ offered_keeps packet (slice_index_or (seen old.services.bus) seat None);
  }

  pub whole_mid : IsWhole mid
  whole_mid = record {
    seated = rw seats (seated_still law old.seats old.services mid.services sound (subst IsTableService (sym tables) sound) stays whole.seated);
    spares = rw stock whole.spares;
    idle = outgoing ∙ whole.idle;
  }

  -- the drain of what there is then is that of the definitions
  abbrev first : Executive (List ℕ)
  first = record (executive_in old) { pipes = published_to (seen old.services.bus) packet }

  executive_mid : executive_in mid ≡ first
  executive_mid = λ i. record {
    stock = map member_of (stock i);
    seats = map (option_map member_of) (seats i);
    pipes = pipes_then i;
    services = shared_still law old.services mid.services sound events tables counts moment outgoing i;
  }

  known_mid : AreKnown old → AreKnown mid
  known_mid known = λ seat. rw seats (known seat)

  among_mid : (new : Hosted) → All (Contains mid.stock) new.stock → All (Contains old.stock) new.stock
  among_mid new among = subst (λ (spares : List Object). All (Contains spares) new.stock) stock among

  -- the deliveries are determined where those who take part are known
  own_hearers : (b : Bool) → is_tick packet ≡ b → AllByRecursion (AreKnownHearers old) (if b then tick_mid ∷ scheduled_mids else message_id packet ∷ []) → AreKnownHearers old (message_id packet)
  own_hearers true is asked = let same : tick_mid ≡ message_id packet = grind (arith, is) in subst (AreKnownHearers old) same asked.0
  own_hearers false is asked = asked.0

  hearers_mid : (mid_heard : ℕ) → AreKnownHearers old mid_heard → AreKnownHearers mid mid_heard
  hearers_mid mid_heard known = λ seat. rw (pipes_then, offered_at packet (seen old.services.bus) seat, seats) (heard_offered (IfSome (object_at seat old.seats) IsKnown) mid_heard packet (slice_index_or (seen old.services.bus) seat None) (known seat))

  scheduled_mid : (b : Bool) → is_tick packet ≡ b → AllByRecursion (AreKnownHearers old) (if b then tick_mid ∷ scheduled_mids else message_id packet ∷ []) → 1 ≤ all_ticks (seen mid.services.bus) →
      AllByRecursion (AreKnownHearers mid) scheduled_mids
  scheduled_mid true is asked some = (hearers_mid sample_mid asked.1.0, (hearers_mid lc_housekeeping_request_mid asked.1.1.0, tt))
  scheduled_mid false is asked some = absurd (let none : all_ticks (seen mid.services.bus) ≡ 0 = ap all_ticks pipes_then ∙ none_is_tick packet (seen old.services.bus) quiet is in omega (arith, some, none))

  determined_mid : AreKnownIn (passing packet) old → IsDetermined mid
  determined_mid asked = record {
    waiting = λ seat some. rw seats
        (who_waits_hears packet (seen old.services.bus) quiet seat (own_hearers (is_tick packet) refl asked seat) (subst (λ (pipes : List (Option Pipe)). 1 ≤ packets_in (slice_index_or pipes seat None)) pipes_then some));
    scheduled = scheduled_mid (is_tick packet) refl asked;
  }

  pub passes_on : (new : Hosted) (before now : Sink) (result : Result ℕ WriteFault) → Drains mid new before now result → PassesOn packet old new before now result
  passes_on new before now (Ok total) all = record {
    whole = all.whole;
    quiet = all.quiet;
    stock = among_mid new all.stock;
    is_closed = all.is_closed ∙ closed;
    calls = all.calls;
    fine = all.fine;
    not_retried = all.not_retried;
    known = λ known asked. all.known (known_mid known) (determined_mid asked);
    exact = λ asked. subst (λ (p : Moment × Executive (List ℕ)). IsDone (delivery_stations on_board p.0 0 520 p.1) (drained on_board p.0 520 p.1) (last_calls on_board p.0 (delivery_stations on_board p.0 0 520 p.1)) new before.gained now.gained)
        (λ i. (moment i, executive_mid i)) (all.exact (determined_mid asked));
    count = λ asked. all.count (determined_mid asked) ∙ ap (λ (p : Moment × Executive (List ℕ)). length (concat (drained on_board p.0 520 p.1).1)) (λ i. (moment i, executive_mid i));
  }
  passes_on new before now (Err fault) part = record {
    whole = part.whole;
    stock = among_mid new part.stock;
    is_closed = part.is_closed;
    calls = part.calls;
    failed = part.failed;
    not_retried = part.not_retried;
    known = λ known asked. part.known (known_mid known) (determined_mid asked);
    exact = λ asked. subst (λ (p : Moment × Executive (List ℕ)). IsCut (delivery_stations on_board p.0 0 520 p.1) (drained on_board p.0 520 p.1) fault.sent new before.gained now.gained)
        (λ i. (moment i, executive_mid i)) (part.exact (determined_mid asked));
  }

-- what was answered, where it is not refused
pub published_so : (packet : List ℕ) (old new : Bus) (result : Result (Unit {0}) BusError) → IsOk result → OnOk result (IsPublished packet old new) → IsPublished packet old new
published_so packet old new (Ok done) is published = published
published_so packet old new (Err e) is published = cc

pub ok_holds : {P : Type 0} (result : Result (Unit {0}) BusError) → IsOk result → OnOk result P → P
ok_holds (Ok done) is holds = holds
ok_holds (Err e) is holds = cc

-- ---- a host with the packet on its bus

module _ (old first : Hosted) (packet : List ℕ) (offered : IsOffered packet old first) where
  pub offered_passes : TablesAreFound → IsWhole old → IsQuiet old → IsTableService old.services.tables → (new : Hosted) (before now : Sink) (result : Result ℕ WriteFault) →
      Drains first new before now result → PassesOn packet old new before now result
  offered_passes law whole quiet sound =
      passes_on law old first packet whole quiet sound offered.stock offered.seats offered.is_closed offered.events offered.tables offered.counts offered.moment offered.outgoing offered.published

  roster_same : roster_of first ≡ roster_of old
  roster_same = same_roster old first offered.stock (ap (map (option_map roster.name_of)) offered.seats)

  -- where no call was made and no packet waits, nobody has heard it
  still_so : (new : Hosted) → (new.calls ≡ 0 → IsQuiet new) → new.calls + 0 ≡ 0 → new.services.bus ≡ first.services.bus → IsStill first old
  still_so new quiet none same =
      let so = offered.published in
      let none_waits : ready_seat (seen (published_as so.number packet old.services.bus)) ≡ None =
      ap (λ (bus : Bus). ready_seat (seen bus)) (sym so.published ∙ sym same) ∙ quiet (omega (arith, none)) in
      record { bus = so.published ∙ unheard so.number packet old.services.bus 0 none_waits; counts = offered.counts }

  -- ---- what the applications sent

  called_by : (new : Hosted) (theirs : List ℕ) → Listening first new theirs → (new.calls ≡ 0 → IsQuiet new) → HasCalled old.services.moment (passing_on packet old) old new
  called_by new theirs listening quiet = record {
    theirs = theirs;
    behind = new.services.events;
    own = listening.own.host ∙ ap (λ (e : EventService). e.host) offered.events;
    few = omega (arith, listening.small);
    none_given = given_then new.calls;
    alone = λ none.
        let calls : new.calls ≡ 0 = omega (arith, none) in
        let alone = listening.alone calls in
        let still = still_so new quiet none alone.bus in
        record {
          nothing = alone.nothing;
          events = alone.events ∙ offered.events;
          tables = alone.tables ∙ offered.tables;
          bus = alone.bus ∙ still.bus;
          counts = alone.counts ∙ still.counts;
          seats = alone.seats ∙ offered.seats;
        };
    heard = record { first = first; offered = offered; deliveries = listening.deliveries; are = listening.are; sent = listening.sent; calls = listening.calls };
    gone = tt;
  }

  -- where all was written HOST adds nothing
  pub responds_end : (now : Hosted) (sent : ℕ) (before after : Sink) → Draining first now sent before after → ready_seat (seen now.services.bus) ≡ None →
      RespondsWithCount old.services.moment (passing_on packet old) sent old now before.gained after.gained
  unfolding called_by
  responds_end now sent before after far none = record {
    responds = record {
      called = called_by now far.own.theirs far.own.listening (λ calls. none);
      gains = subst (Appends before.gained after.gained) (sym (append-nil far.own.theirs)) far.own.gains;
      events = refl;
      files = far.own.listening.own.files ∙ ap (λ (t : TableService). t.files) offered.tables;
      roster = far.own.listening.own.roster ∙ roster_same;
      turned = tt;
    };
    count = far.own.count ∙ ap length (sym (append-nil far.own.theirs));
  }

  -- nor where a write failed
  pub responds_cut : (now given later : Hosted) (sent seat : ℕ) (before mid after : Sink) (far : Draining first now sent before mid) (ready : ready_seat (seen now.services.bus) ≡ Some seat)
      (delivered : HasDelivered seat now given) (flushed : IsFlushed given later) (total : ℕ) → IsPartSent sent given later mid after total →
      RespondsPart old.services.moment (passing_on packet old) total old later before.gained after.gained
  unfolding called_by
  responds_cut now given later sent seat before mid after far ready delivered flushed total part =
      let theirs = far.own.theirs ++ given.services.outgoing in
      let inside = cut_inside first now given later sent seat before mid after far ready delivered flushed total part in
      let listening = listening_then first now given later sent seat before mid after far ready delivered flushed in
      record {
        called = called_by later theirs listening (some_calls first now given later sent seat before mid after far ready delivered flushed);
        fewer = subst (λ (bs : List ℕ). total < length bs) (sym (append-nil theirs)) inside;
        gains = subst (λ (bs : List ℕ). Appends before.gained after.gained (take total bs)) (sym (append-nil theirs)) (cut_gains first now given later sent seat before mid after far ready delivered flushed total part);
        events = sym (ap (λ b. if b then later.services.events else later.services.events) (test_less total (length theirs) inside));
        files = listening.own.files ∙ ap (λ (t : TableService). t.files) offered.tables;
        roster = inl (listening.own.roster ∙ roster_same);
        turned = tt;
      }
