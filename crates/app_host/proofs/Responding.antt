-- What HOST sends of its own, where it calls nobody.
use Rattle.std.proofs.Common.{◌≡◌, false, refl, ap, sym, ◌∙◌, subst, inl, inr, ◌⊎◌, ℕ, ◌+◌, ◌<◌, ◌≤◌, nat_lt, List, [], length, take, map, arith, if◌then◌else◌, Option, Some, None, Result, Ok, Err}
use Rattle.std.specs.Prelude.{IfSome, option_map}
use Rattle.std.specs.Io.KnownBytes.{Appends}
use Rattle.lc_model.specs.declared.record.Moment.{Moment}
use Rattle.lc_model.specs.Device.{Sink}
use Rattle.lc_model.specs.Packet.{function_code}
use Rattle.lc_model.specs.Refusal.{Refusal}
use Rattle.lc_model.specs.Events.Request.{Request, file_stored, file_refused, event_services, table_services, executive_services, command_done, command_refused}
use Rattle.lc_model.specs.Services.Events.{EventService}
use Rattle.lc_model.specs.Services.Tables.{TableService}
use Rattle.lc_model.proofs.Facts.{test_not_less}
use Rattle.app_host.specs.declared.services.Services.{Services}
use Rattle.app_host.specs.Shared.{at_moment}
use Rattle.app_host.specs.Left.{HasGone}
use Rattle.app_host.specs.declared.error.WriteFault.{WriteFault}
use Rattle.app_host.specs.Hosted.{Hosted}
use Rattle.app_host.specs.Writing.{IsFlushed, IsAllSent, IsPartSent, IsSent}
use Rattle.app_host.specs.Told.{HasTold}
use Rattle.app_host.specs.Roster.{name_of, roster_of, Succession}
use Rattle.app_host.specs.Heard.{HasHeard}
use Rattle.app_host.specs.Turn.{Turn, without_comer, HasTurned}
use Rattle.app_host.specs.Response.{Response, only_telling, filing, obeying_events, obeying_tables, obeying_orders, asked_by_host, HasCalled, RespondsPart, RespondsWithCount, RespondsCounted}
use Rattle.app_host.proofs.Rosters.{same_roster, roster_still}

-- which event services there are, by what was taken
pub by_less : (sent size : ℕ) (behind after : EventService) → size ≤ sent → (if nat_lt sent size then behind else after) ≡ after
by_less sent size behind after past = ap (λ b. if b then behind else after) (test_not_less sent size past)

-- ---- HOST tells, and that is all

module _ (request : Request) (old mid new : Hosted) (before after : Sink) (none_yet : old.calls ≡ 0) (told : HasTold request old mid) (flushed : IsFlushed mid new) where
  abbrev moment : Moment
  moment = old.services.moment

  abbrev response : Response
  response = only_telling request old

  tables_then : new.services.tables ≡ old.services.tables
  tables_then = ap (λ (s : Services). s.tables) flushed.services ∙ told.tables

  events_then : new.services.events ≡ (asked_by_host moment (Some request) old.services.events).0
  events_then = ap (λ (s : Services). s.events) flushed.services ∙ told.events

  bus_then : new.services.bus ≡ old.services.bus
  bus_then = ap (λ (s : Services). s.bus) flushed.services ∙ told.bus

  counts_then : new.services.counts ≡ old.services.counts
  counts_then = ap (λ (s : Services). s.counts) flushed.services ∙ told.counts

  roster_then : roster_of new ≡ roster_of old
  roster_then = roster_still mid new flushed ∙ same_roster old mid told.stock (ap (map (option_map name_of)) told.seats)

  abbrev called_nobody : HasCalled moment response old new
  called_nobody = record {
    theirs = [];
    behind = old.services.events;
    own = refl;
    few = omega arith;
    none_given = λ given. flushed.calls ∙ told.calls ∙ none_yet;
    alone = λ none. record { nothing = refl; events = refl; tables = tables_then; bus = bus_then; counts = counts_then; seats = flushed.seats ∙ told.seats };
    heard = tt;
    gone = tt;
  }

  whole : (total : ℕ) → IsAllSent 0 mid new before after total → RespondsWithCount moment response total old new before.gained after.gained
  whole total all = record {
    responds = record {
      called = called_nobody;
      gains = subst (Appends before.gained after.gained) told.sends all.gains;
      events = events_then;
      files = ap (λ (t : TableService). t.files) tables_then;
      roster = roster_then;
      turned = tt;
    };
    count = omega (arith, all.count, ap length told.sends);
  }

  part : (total : ℕ) → IsPartSent 0 mid new before after total → RespondsPart moment response total old new before.gained after.gained
  part total some = record {
    called = called_nobody;
    fewer = omega (arith, some.fewer, some.count, ap length told.sends);
    gains = subst (λ n. Appends before.gained after.gained (take n (asked_by_host moment (Some request) old.services.events).1)) (let same : some.taken ≡ total = omega (arith, some.count) in same)
        (subst (λ bytes. Appends before.gained after.gained (take some.taken bytes)) told.sends some.gains);
    events = events_then ∙ sym (by_less total 0 old.services.events (asked_by_host moment (Some request) old.services.events).0 (omega arith));
    files = ap (λ (t : TableService). t.files) tables_then;
    roster = inl roster_then;
    turned = tt;
  }

  pub responds_alone : (result : Result ℕ WriteFault) → IsSent 0 mid new before after result → RespondsCounted moment response old new before.gained after.gained result
  responds_alone (Ok total) all = whole total all
  responds_alone (Err fault) some = part fault.sent some

-- ---- what was begun elsewhere

-- bus and sequence counts are the same
pub record IsStill (mid old : Hosted) : Type 0 where
  pub bus : mid.services.bus ≡ old.services.bus
  pub counts : mid.services.counts ≡ old.services.counts

-- the same response to a host with the same seats
module _ (moment : Moment) (response : Response) (old mid new : Hosted) (seats : mid.seats ≡ old.seats)
    (still : new.calls + response.changes ≡ 0 → new.services.bus ≡ mid.services.bus → IsStill mid old)
    (gone : IfSome response.leaves (λ seat. HasGone seat mid.seats (at_moment moment mid.services)) → IfSome response.leaves (λ seat. HasGone seat old.seats (at_moment moment old.services)))
    (turns : (turn wanted : Turn) → response.turn ≡ Some turn → (theirs : List ℕ) (behind : EventService) → HasTurned wanted moment mid new theirs behind → HasTurned wanted moment old new theirs behind)
    (hears : (packet : List ℕ) → response.passes ≡ Some packet → (theirs : List ℕ) → HasHeard packet moment mid new theirs → HasHeard packet moment old new theirs) where
  heard_from : (place : Option (List ℕ)) → response.passes ≡ place → (theirs : List ℕ) → IfSome place (λ packet. HasHeard packet moment mid new theirs) → IfSome place (λ packet. HasHeard packet moment old new theirs)
  heard_from None is theirs heard = tt
  heard_from (Some packet) is theirs heard = hears packet is theirs heard

  abbrev called_from : HasCalled moment response mid new → HasCalled moment response old new
  called_from called = record {
    theirs = called.theirs;
    behind = called.behind;
    own = called.own;
    few = called.few;
    none_given = called.none_given;
    alone = λ none.
        let alone = called.alone none in
        let same = still none alone.bus in
        record {
          nothing = alone.nothing;
          events = alone.events;
          tables = alone.tables;
          bus = alone.bus ∙ same.bus;
          counts = alone.counts ∙ same.counts;
          seats = alone.seats ∙ seats;
        };
    heard = heard_from response.passes refl called.theirs called.heard;
    gone = gone called.gone;
  }

  turned_from : (place : Option Turn) → response.turn ≡ place → (theirs : List ℕ) (behind : EventService) → IfSome place (λ turn. HasTurned turn moment mid new theirs behind) →
      IfSome place (λ turn. HasTurned turn moment old new theirs behind)
  turned_from None is theirs behind turned = tt
  turned_from (Some turn) is theirs behind turned = turns turn turn is theirs behind turned

  -- of a part: who comes may not have
  partly_from : (place : Option Turn) → response.turn ≡ place → (sent : ℕ) (theirs : List ℕ) (behind : EventService) →
      IfSome place (λ turn. HasTurned turn moment mid new theirs behind ⊎ (HasTurned (without_comer turn) moment mid new theirs behind × (sent < length theirs))) →
      IfSome place (λ turn. HasTurned turn moment old new theirs behind ⊎ (HasTurned (without_comer turn) moment old new theirs behind × (sent < length theirs)))
  partly_from None is sent theirs behind turned = tt
  partly_from (Some turn) is sent theirs behind (inl turned) = inl (turns turn turn is theirs behind turned)
  partly_from (Some turn) is sent theirs behind (inr turned) = inr (turns turn (without_comer turn) is theirs behind turned.0, turned.1)

  pub responds_from : (before now : Option (List ℕ)) (result : Result ℕ WriteFault) → RespondsCounted moment response mid new before now result → RespondsCounted moment response old new before now result
  responds_from before now (Ok total) all =
      let r = all.responds in
      record {
        responds = record {
          called = called_from r.called;
          gains = r.gains;
          events = r.events;
          files = r.files;
          roster = r.roster;
          turned = turned_from response.turn refl r.called.theirs r.called.behind r.turned;
        };
        count = all.count;
      }
  responds_from before now (Err fault) part = record {
    called = called_from part.called;
    fewer = part.fewer;
    gains = part.gains;
    events = part.events;
    files = part.files;
    roster = part.roster;
    turned = partly_from response.turn refl fault.sent part.called.theirs part.called.behind part.turned;
  }

-- HOST tells of a change of its services
module _ (old mid new : Hosted) (stock : mid.stock ≡ old.stock) (seats : mid.seats ≡ old.seats) (now_is : mid.services.moment ≡ old.services.moment) (still : IsStill mid old) (asked request : Request)
    (is : asked ≡ request) (before now : Option (List ℕ)) (result : Result ℕ WriteFault) (responds : RespondsCounted mid.services.moment (only_telling asked mid) mid new before now result) where
  abbrev changed : Response
  changed = record (only_telling request old) { events = mid.services.events; tables = mid.services.tables }

  response_is : only_telling asked mid ≡ changed
  response_is = λ i. record {
    request = Some (is i);
    delivers = false;
    passes = None;
    leaves = None;
    changes = 0;
    turn = None;
    left = same_roster old mid stock (ap (map (option_map name_of)) seats) i;
    come = same_roster old mid stock (ap (map (option_map name_of)) seats) i;
    events = mid.services.events;
    tables = mid.services.tables;
  }

  pub responds_behind : RespondsCounted old.services.moment changed old new before now result
  responds_behind =
      responds_from old.services.moment changed old mid new seats (λ none same. still) (λ none. none) (λ turn wanted is. cc) (λ packet is. cc) before now result
      (subst (λ (p : Moment × Response). RespondsCounted p.0 p.1 mid new before now result) (λ i. (now_is i, response_is i)) responds)

  -- where it is this answer to what is wanted
  pub responds_as : (wanted : Response) → wanted ≡ changed → RespondsCounted old.services.moment wanted old new before now result
  responds_as wanted same = subst (λ r. RespondsCounted old.services.moment r old new before now result) (sym same) responds_behind

-- ---- files, and commands to services

module _ (old mid new : Hosted) (stock : mid.stock ≡ old.stock) (seats : mid.seats ≡ old.seats) (now_is : mid.services.moment ≡ old.services.moment) (still : IsStill mid old) (asked : Request)
    (before now : Option (List ℕ)) (result : Result ℕ WriteFault) (responds : RespondsCounted mid.services.moment (only_telling asked mid) mid new before now result) where
  abbrev By : Response → Type 0
  By wanted = RespondsCounted old.services.moment wanted old new before now result

  by_request : (request : Request) → asked ≡ request → (wanted : Response) → wanted ≡ record (only_telling request old) { events = mid.services.events; tables = mid.services.tables } → By wanted
  by_request request is = responds_as old mid new stock seats now_is still asked request is before now result responds

  -- the event services alone changed, or the table services alone
  module _ (tables : mid.services.tables ≡ old.services.tables) where
    pub events_obeyed : (packet : List ℕ) (answer : Result EventService Refusal) → Ok mid.services.events ≡ answer → asked ≡ command_done event_services (function_code packet) → By (obeying_events packet old answer)
    events_obeyed packet answer is done =
        by_request (command_done event_services (function_code packet)) done (obeying_events packet old answer)
        (ap (obeying_events packet old) (sym is) ∙ (λ i. record (only_telling (command_done event_services (function_code packet)) old) { events = mid.services.events; tables = sym tables i }))

    pub events_refused : mid.services.events ≡ old.services.events → (packet : List ℕ) (answer : Result EventService Refusal) (refusal : Refusal) → Err refusal ≡ answer → asked ≡ command_refused event_services refusal →
        By (obeying_events packet old answer)
    events_refused events packet answer refusal is told =
        by_request (command_refused event_services refusal) told (obeying_events packet old answer)
        (ap (obeying_events packet old) (sym is) ∙ (λ i. record (only_telling (command_refused event_services refusal) old) { events = sym events i; tables = sym tables i }))

    pub orders_refused : mid.services.events ≡ old.services.events → (packet : List ℕ) (answer : Result Succession Refusal) (refusal : Refusal) → answer ≡ Err refusal → asked ≡ command_refused executive_services refusal →
        By (obeying_orders packet old answer)
    orders_refused events packet answer refusal is told =
        by_request (command_refused executive_services refusal) told (obeying_orders packet old answer)
        (ap (obeying_orders packet old) is ∙ (λ i. record (only_telling (command_refused executive_services refusal) old) { events = sym events i; tables = sym tables i }))

  module _ (events : mid.services.events ≡ old.services.events) where
    pub tables_obeyed : (packet : List ℕ) (answer : Result TableService Refusal) → Ok mid.services.tables ≡ answer → asked ≡ command_done table_services (function_code packet) → By (obeying_tables packet old answer)
    tables_obeyed packet answer is done =
        by_request (command_done table_services (function_code packet)) done (obeying_tables packet old answer)
        (ap (obeying_tables packet old) (sym is) ∙ (λ i. record (only_telling (command_done table_services (function_code packet)) old) { events = sym events i; tables = mid.services.tables }))

    pub tables_refused : mid.services.tables ≡ old.services.tables → (packet : List ℕ) (answer : Result TableService Refusal) (refusal : Refusal) → Err refusal ≡ answer → asked ≡ command_refused table_services refusal →
        By (obeying_tables packet old answer)
    tables_refused tables packet answer refusal is told =
        by_request (command_refused table_services refusal) told (obeying_tables packet old answer)
        (ap (obeying_tables packet old) (sym is) ∙ (λ i. record (only_telling (command_refused table_services refusal) old) { events = sym events i; tables = sym tables i }))

    pub file_kept : (answer : Result TableService Refusal) → Ok mid.services.tables ≡ answer → asked ≡ file_stored → By (filing old answer)
    file_kept answer is told =
        by_request file_stored told (filing old answer)
        (ap (filing old) (sym is) ∙ (λ i. record (only_telling file_stored old) { events = sym events i; tables = mid.services.tables }))

    pub file_turned_away : mid.services.tables ≡ old.services.tables → (answer : Result TableService Refusal) (refusal : Refusal) → Err refusal ≡ answer → asked ≡ file_refused refusal → By (filing old answer)
    file_turned_away tables answer refusal is told =
        by_request (file_refused refusal) told (filing old answer)
        (ap (filing old) (sym is) ∙ (λ i. record (only_telling (file_refused refusal) old) { events = sym events i; tables = sym tables i }))

-- an order is refused, and nothing has changed
pub orders_turned_away : (packet : List ℕ) (old ready new : Hosted) (answer : Result Succession Refusal) → ready ≡ old → (refusal : Refusal) → answer ≡ Err refusal → (asked : Request) →
    asked ≡ command_refused executive_services refusal → (before now : Option (List ℕ)) (result : Result ℕ WriteFault) → RespondsCounted ready.services.moment (only_telling asked ready) ready new before now result →
    RespondsCounted old.services.moment (obeying_orders packet old answer) old new before now result
orders_turned_away packet old ready new answer same refusal is asked told before now result responds =
    orders_refused old ready new (ap (λ (h : Hosted). h.stock) same) (ap (λ (h : Hosted). h.seats) same) (ap (λ (h : Hosted). h.services.moment) same) (record { bus = ap (λ (h : Hosted). h.services.bus) same; counts = ap (λ (h : Hosted). h.services.counts) same }) asked before now result responds
    (ap (λ (h : Hosted). h.services.tables) same) (ap (λ (h : Hosted). h.services.events) same) packet answer refusal is told

-- the same request by another name
pub responds_same : (moment : Moment) (asked request : Request) (old new : Hosted) (before now : Option (List ℕ)) (result : Result ℕ WriteFault) → asked ≡ request →
    RespondsCounted moment (only_telling asked old) old new before now result → RespondsCounted moment (only_telling request old) old new before now result
responds_same moment asked request old new before now result is = subst (λ r. RespondsCounted moment (only_telling r old) old new before now result) is
