-- An event of HOST.
use Rattle.std.proofs.Common.{◌≡◌, ap, sym, ◌∙◌, subst, ℕ, ◌+◌, ◌-◌, ◌≤◌, List, [], ◌∷◌, ◌++◌, length, take, map, arith, Some, None, Result, Ok, Err}
use Rattle.std.specs.Prelude.{option_map, slice_index_or, All, Contains}
use Rattle.std.specs.List.{concat}
use Rattle.std.specs.Io.KnownBytes.{Appends}
use Rattle.lc_model.specs.Device.{Sink}
use Rattle.lc_model.specs.Name.{host_name}
use Rattle.lc_model.specs.Events.Request.{Request}
use Rattle.lc_model.specs.Kept.Executive.{Pipe, Written, ready_seat}
use Rattle.lc_model.specs.Kept.Stations.{Station, size_at, stop_at, written_once}
use Rattle.lc_model.specs.Laws.TablesByName.{TablesAreFound}
use Rattle.lc_model.specs.Services.Bus.{Bus, seen}
use Rattle.lc_model.specs.Services.Tables.{TableService, IsTableService, tables_at}
use Rattle.app_host.specs.declared.services.Services.{Services}
use Rattle.app_host.specs.declared.error.WriteFault.{WriteFault}
use Rattle.app_host.specs.Telling.{Tells, name_of}
use Rattle.app_host.specs.Hosted.{Hosted, member_of}
use Rattle.app_host.specs.Whole.{AreSeated, AreKnown, IsWhole, IsQuiet}
use Rattle.app_host.specs.Party.{nobody}
use Rattle.app_host.specs.Delivered.{executive_in}
use Rattle.app_host.specs.Writing.{IsFlushed, IsAllSent, IsPartSent, IsSent, HandlesAll, HandlesPart}
use Rattle.app_host.specs.Response.{asked_by_host}
use Rattle.app_host.specs.Told.{telling, HasTold, TellsAlone}
use Rattle.app_host.proofs.Frames.{StaysAt, seated_still}
use Rattle.app_host.proofs.Course.{passes, stops_here, none_stops}
use Rattle.app_host.proofs.Draining.{same_executive, still_known}
use Rattle.app_host.proofs.Rosters.{still_among}

module _ (law : TablesAreFound) (request : Request) (old new : Hosted) (told : Tells None host_name (request ∷ []) old.services new.services) (sound : IsTableService old.services.tables)
    (seated : AreSeated old.seats old.services) (idle : old.services.outgoing ≡ []) (stock : new.stock ≡ old.stock) (seats : new.seats ≡ old.seats) (closed : new.is_closed ≡ old.is_closed)
    (calls : new.calls ≡ old.calls)
    (events : new.services.events ≡ (asked_by_host old.services.moment (Some request) old.services.events).0)
    (sends : new.services.outgoing ≡ old.services.outgoing ++ (asked_by_host old.services.moment (Some request) old.services.events).1)
    (counts : new.services.counts ≡ old.services.counts) where
  stays : (seat : ℕ) → StaysAt seat old.services new.services
  stays seat = record {
    sender = ap (option_map name_of) (told.others (Some seat) (λ e. cc));
    tables = ap (λ (t : TableService). tables_at seat t.places) told.tables;
    subscriptions = ap (λ (b : Bus). option_map (λ (pipe : Pipe). pipe.subscriptions) (slice_index_or (seen b) seat None)) told.bus;
  }

  pub has_told : length new.services.outgoing ≤ length old.services.outgoing + 168 → HasTold request old new
  has_told size = record {
    stock = stock;
    seats = seats;
    is_closed = closed;
    calls = calls;
    seated = rw seats (seated_still law old.seats old.services new.services sound (subst IsTableService (sym told.tables) sound) stays seated);
    pipes = ap seen told.bus;
    bus = told.bus;
    counts = counts;
    fits = omega (arith, size, ap length idle);
    executive = λ i. record {
      stock = map member_of (stock i);
      seats = map (option_map member_of) (seats i);
      pipes = seen (told.bus i);
      services = told.services i;
    };
    outgoing = told.outgoing ∙ ap (λ bytes. bytes ++ concat (telling request old).1) idle;
    tables = told.tables;
    events = events;
    sends = sends ∙ ap (λ bytes. bytes ++ (asked_by_host old.services.moment (Some request) old.services.events).1) idle;
  }

-- ---- one write

module _ (request : Request) (old mid new : Hosted) (before after : Sink) (whole : IsWhole old) (quiet : IsQuiet old) (none_yet : old.calls ≡ 0) (told : HasTold request old mid)
    (flushed : IsFlushed mid new) where
  abbrev step : Written (List ℕ)
  step = telling request old

  abbrev station : Station (List ℕ)
  station = record { executive = step.0; calls = 0; packets = step.1 }

  whole_then : IsWhole new
  whole_then = record {
    seated = flushed.seated;
    spares = rw (flushed.stock, told.stock) whole.spares;
    idle = ap (λ (s : Services). s.outgoing) flushed.services;
  }

  calls_then : new.calls ≡ 0
  calls_then = flushed.calls ∙ told.calls ∙ none_yet

  known_then : AreKnown old → AreKnown new
  known_then known = still_known mid new flushed (λ seat. rw told.seats (known seat))

  among_then : All (Contains old.stock) new.stock
  among_then = still_among old new (flushed.stock ∙ told.stock)

  executive_then : executive_in new ≡ step.0
  executive_then = same_executive mid new flushed ∙ told.executive

  all_room : (room : ℕ) → length (concat step.1) ≤ room → stop_at room (written_once step) ≡ None
  all_room room enough =
      ap (λ n. stop_at n (written_once step)) (let rest : room ≡ size_at station + (room - size_at station) = omega (arith, enough) in rest)
      ∙ passes (room - size_at station) station []
      ∙ none_stops (room - size_at station)

  told_all : (total : ℕ) → IsAllSent 0 mid new before after total → HandlesAll nobody (written_once step) step 0 total old new before after
  told_all total all = record {
    whole = whole_then;
    quiet = ap (λ (s : Services). ready_seat (seen s.bus)) flushed.services ∙ ap ready_seat told.pipes ∙ quiet;
    stock = among_then;
    is_closed = all.is_closed ∙ told.is_closed;
    calls = omega (arith, calls_then);
    fine = all.fine;
    not_retried = all.not_retried;
    known = λ known those. known_then known;
    exact = λ those. record {
      executive = executive_then;
      calls = calls_then;
      gains = subst (Appends before.gained after.gained) told.outgoing all.gains;
      fits = all_room;
    };
    count = λ those. omega (arith, all.count, ap length told.outgoing);
  }

  told_part : (total : ℕ) → IsPartSent 0 mid new before after total → HandlesPart nobody (written_once step) step total old new before after
  told_part total part = record {
    whole = whole_then;
    stock = among_then;
    is_closed = part.is_closed;
    calls = omega (arith, calls_then);
    failed = part.failed;
    not_retried = part.not_retried;
    known = λ known those. known_then known;
    exact = λ those. record {
      station = station;
      stops = stops_here total station [] (omega (arith, part.fewer, ap length told.outgoing, part.count));
      executive = executive_then;
      calls = calls_then;
      gains = subst (λ n. Appends before.gained after.gained (take n (concat step.1))) (let same : part.taken ≡ total = omega (arith, part.count) in same)
          (subst (λ bytes. Appends before.gained after.gained (take part.taken bytes)) told.outgoing part.gains);
    };
  }

  pub told_so : (result : Result ℕ WriteFault) → IsSent 0 mid new before after result → TellsAlone request old new before after result
  told_so (Ok total) all = told_all total all
  told_so (Err fault) part = told_part fault.sent part

-- the same event by another name for its request
pub tells_same : (asked request : Request) (old new : Hosted) (before now : Sink) (result : Result ℕ WriteFault) → asked ≡ request →
    TellsAlone asked old new before now result → TellsAlone request old new before now result
tells_same asked request old new before now result is = subst (λ r. TellsAlone r old new before now result) is
