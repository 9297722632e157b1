-- A command to the executive services: what the application asks for is written, and then HOST's event.
use Rattle.std.proofs.Common.{◌≡◌, ap, ap₂, sym, ◌∙◌, subst, ℕ, ◌+◌, ◌-◌, ◌<◌, ◌≤◌, List, [], ◌∷◌, ◌++◌, length, take, arith, length-append, Option, None, Result, Err}
use Rattle.std.specs.Prelude.{All, Contains}
use Rattle.std.specs.List.{concat}
use Rattle.std.specs.Io.KnownBytes.{Appends}
use Rattle.std.proofs.lemmas.List.{take-append-le}
use Rattle.std.proofs.lemmas.List.Folds.{concat-append}
use Rattle.std.proofs.Math.Seq.{take-append-add}
use Rattle.lc_model.specs.Device.{Sink}
use Rattle.lc_model.specs.Packet.{function_code}
use Rattle.lc_model.specs.Command.{order_in}
use Rattle.lc_model.specs.Refusal.{Refusal}
use Rattle.lc_model.specs.Events.Request.{Request, executive_services, command_done, command_refused}
use Rattle.lc_model.specs.Kept.Executive.{Written, ready_seat, told_by_host, answered_now, executive_service_now}
use Rattle.lc_model.specs.Kept.Stations.{Station, size_at, stop_at, written_once, order_stations}
use Rattle.lc_model.specs.Services.Bus.{seen}
use Rattle.app_host.specs.declared.services.Services.{Services}
use Rattle.app_host.specs.declared.error.WriteFault.{WriteFault}
use Rattle.app_host.specs.Shared.{on_board}
use Rattle.app_host.specs.Hosted.{Object, Hosted}
use Rattle.app_host.specs.Whole.{AreKnown, IsWhole, IsQuiet}
use Rattle.app_host.specs.Party.{Party, nobody, party_by, AreKnownIn}
use Rattle.app_host.specs.Delivered.{executive_in}
use Rattle.app_host.specs.Writing.{IsFlushed, IsAllSent, IsPartSent, IsDone, IsCut, HandlesAll, HandlesPart, Handles}
use Rattle.app_host.specs.Told.{telling, HasTold, TellsAlone}
use Rattle.app_host.specs.Ordered.{Next, followed_by, IsPrepared, LeadsTo, IsWritten, IsBroken, HasComeIn, HasFailed, HasEntered, HasNotEntered, ObeysOrders}
use Rattle.app_host.proofs.Course.{taken_both, passes, stops_here, none_stops}
use Rattle.app_host.proofs.Draining.{same_executive, still_known, asking_more}
use Rattle.app_host.proofs.CameIn.{among_come, among_not_come}

-- ---- two writes

module _ (step told : Written (List ℕ)) where
  abbrev first_station : Station (List ℕ)
  first_station = record { executive = step.0; calls = 0; packets = step.1 }

  abbrev second_station : Station (List ℕ)
  second_station = record { executive = told.0; calls = 0; packets = told.1 }

  abbrev stations : List (Station (List ℕ))
  stations = first_station ∷ second_station ∷ []

  abbrev both : Written (List ℕ)
  both = (told.0, step.1 ++ told.1)

  all_bytes : concat both.1 ≡ concat step.1 ++ concat told.1
  all_bytes = concat-append step.1 told.1

  all_room : (room : ℕ) → length (concat both.1) ≤ room → stop_at room stations ≡ None
  all_room room enough =
      let size : length (concat both.1) ≡ size_at first_station + size_at second_station = ap length all_bytes ∙ length-append (concat step.1) (concat told.1) in
      let rest : room ≡ size_at first_station + (size_at second_station + (room - size_at first_station - size_at second_station)) = omega (arith, enough, size) in
      ap (λ n. stop_at n stations) rest
      ∙ passes (size_at second_station + (room - size_at first_station - size_at second_station)) first_station (second_station ∷ [])
      ∙ passes (room - size_at first_station - size_at second_station) second_station []
      ∙ none_stops (room - size_at first_station - size_at second_station)

  -- the first write failed
  cut_first : (sent : ℕ) (new : Hosted) (before now : Option (List ℕ)) → IsBroken step sent new before now → new.calls ≡ 0 → IsCut stations both sent new before now
  cut_first sent new before now broken calls = record {
    station = first_station;
    stops = stops_here sent first_station (second_station ∷ []) broken.fewer;
    executive = broken.executive;
    calls = calls;
    gains = subst (Appends before now)
        (sym (ap (take sent) all_bytes ∙ take-append-le sent (concat step.1) (concat told.1) (let less = broken.fewer in omega (arith, less)))) broken.gains;
  }

  module _ (sent : ℕ) (one new : Hosted) (before mid now : Option (List ℕ)) (written : IsWritten step sent one before mid) (executive : executive_in new ≡ told.0) (calls : new.calls ≡ 0) where
    done_both : Appends mid now (concat told.1) → IsDone stations both 0 new before now
    done_both gains = record {
      executive = executive;
      calls = calls;
      gains = subst (Appends before now) (sym all_bytes) (taken_both before mid now (concat step.1) (concat told.1) written.gains gains);
      fits = all_room;
    }

    -- the second one failed
    cut_second : (total taken : ℕ) → total ≡ sent + taken → taken < length (concat told.1) → Appends mid now (take taken (concat told.1)) → IsCut stations both total new before now
    cut_second total taken is fewer gains = record {
      station = second_station;
      stops = ap (λ n. stop_at n stations) so ∙ passes taken first_station (second_station ∷ []) ∙ stops_here taken second_station [] fewer;
      executive = executive;
      calls = calls;
      gains = subst (Appends before now) (sym cut_bytes) (taken_both before mid now (concat step.1) (take taken (concat told.1)) written.gains gains);
    }
      where
        so : total ≡ size_at first_station + taken
        so = is ∙ ap (λ n. n + taken) written.count

        cut_bytes : take total (concat both.1) ≡ concat step.1 ++ take taken (concat told.1)
        cut_bytes = ap₂ (λ n bytes. take n bytes) so all_bytes ∙ take-append-add (concat step.1) (concat told.1) taken

-- ---- an order that is obeyed

module _ (packet : List ℕ) (old ready : Hosted) (next : Next) (whole : IsWhole old) (quiet : IsQuiet old) (none_yet : old.calls ≡ 0)
    (prepared : IsPrepared (party_by (order_in packet)) (executive_service_now on_board old.services.moment packet (executive_in old)) old ready next) where
  -- who takes part
  abbrev party : Party
  party = party_by (order_in packet)

  among_then : (new : Hosted) → All (Contains ready.stock) new.stock → All (Contains old.stock) new.stock
  among_then new among = subst (λ (stock : List Object). All (Contains stock) new.stock) prepared.stock among

  abbrev Answer : Type 0
  Answer = Result (Written (List ℕ)) Refusal

  abbrev answer : Answer
  answer = executive_service_now on_board old.services.moment packet (executive_in old)

  abbrev request : Request
  request = command_done executive_services (function_code packet)

  abbrev step : Written (List ℕ)
  step = followed_by ready.services.moment next (executive_in ready)

  abbrev told : Written (List ℕ)
  told = told_by_host old.services.moment (request ∷ []) step.0

  -- one of this profile comes next
  done_as : (new : Hosted) (before now : Option (List ℕ)) → LeadsTo answer ready next → IsDone (stations step told) (both step told) 0 new before now →
      IsDone (order_stations on_board old.services.moment packet (executive_in old) answer) (answered_now on_board old.services.moment executive_services packet (executive_in old) answer) 0 new before now
  done_as new before now leads done =
      subst (λ (r : Answer). IsDone (order_stations on_board old.services.moment packet (executive_in old) r) (answered_now on_board old.services.moment executive_services packet (executive_in old) r) 0 new before now)
      (sym leads.step) done

  cut_as : (sent : ℕ) (new : Hosted) (before now : Option (List ℕ)) → LeadsTo answer ready next → IsCut (stations step told) (both step told) sent new before now →
      IsCut (order_stations on_board old.services.moment packet (executive_in old) answer) (answered_now on_board old.services.moment executive_services packet (executive_in old) answer) sent new before now
  cut_as sent new before now leads cut =
      subst (λ (r : Answer). IsCut (order_stations on_board old.services.moment packet (executive_in old) r) (answered_now on_board old.services.moment executive_services packet (executive_in old) r) sent new before now)
      (sym leads.step) cut

  -- what the application asks for could not be written
  pub order_broken : (sent : ℕ) (new : Hosted) (before now : Sink) → HasFailed next sent ready new before now → HasNotEntered next sent ready new before.gained now.gained →
      HandlesPart party (order_stations on_board old.services.moment packet (executive_in old) answer) (answered_now on_board old.services.moment executive_services packet (executive_in old) answer) sent old new before now
  order_broken sent new before now failed entered = record {
    whole = failed.whole;
    stock = among_then new (among_not_come next ready new entered.own);
    is_closed = failed.is_closed;
    calls = omega (arith, calls_then);
    failed = failed.failed;
    not_retried = failed.not_retried;
    known = λ known asked. failed.known (prepared.known known) (prepared.exact asked).next_known;
    exact = λ asked.
        let leads : LeadsTo answer ready next = prepared.exact asked in
        cut_as sent new before.gained now.gained leads (cut_first step told sent new before.gained now.gained (failed.exact leads.next_known leads.outgoing) calls_then);
  }
    where
      calls_then : new.calls ≡ 0
      calls_then = failed.calls ∙ prepared.whole.calls ∙ none_yet

  module _ (sent : ℕ) (one two new : Hosted) (before mid now : Sink) (came : HasComeIn next sent ready one before mid) (entered : HasEntered next sent ready one before.gained mid.gained) (asked : Request) (asked_is : asked ≡ request) (told_as : HasTold asked one two)
      (flushed : IsFlushed two new) where
    has_told : HasTold request one two
    has_told = subst (λ (r : Request). HasTold r one two) asked_is told_as

    calls_new : new.calls ≡ 0
    calls_new = flushed.calls ∙ has_told.calls ∙ came.whole.calls ∙ prepared.whole.calls ∙ none_yet

    whole_new : IsWhole new
    whole_new = record {
      seated = flushed.seated;
      spares = rw (flushed.stock, has_told.stock) came.spares;
      idle = ap (λ (s : Services). s.outgoing) flushed.services;
    }

    stock_new : All (Contains old.stock) new.stock
    stock_new = among_then new (rw (flushed.stock, has_told.stock) (among_come next ready one entered.own))

    known_new : AreKnown old → AreKnownIn party old → AreKnown new
    known_new known asked = let one_known = came.known (prepared.known known) (prepared.exact asked).next_known in still_known two new flushed (λ seat. rw has_told.seats (one_known seat))

    module _ (asked_known : AreKnownIn party old) where
      leads : LeadsTo answer ready next
      leads = prepared.exact asked_known

      written : IsWritten step sent one before.gained mid.gained
      written = came.exact leads.next_known leads.outgoing

      telling_is : telling request one ≡ told
      telling_is = λ i. told_by_host ((came.whole.moment ∙ prepared.whole.moment) i) (request ∷ []) (written.executive i)

      executive_new : executive_in new ≡ told.0
      executive_new = same_executive two new flushed ∙ has_told.executive ∙ ap (λ (w : Written (List ℕ)). w.0) telling_is

      outgoing_is : two.services.outgoing ≡ concat told.1
      outgoing_is = has_told.outgoing ∙ ap (λ (w : Written (List ℕ)). concat w.1) telling_is

    pub order_done : (total : ℕ) → IsAllSent sent two new mid now total →
        HandlesAll party (order_stations on_board old.services.moment packet (executive_in old) answer) (answered_now on_board old.services.moment executive_services packet (executive_in old) answer) 0 total old new before now
    order_done total all = record {
      whole = whole_new;
      quiet = ap (λ (s : Services). ready_seat (seen s.bus)) flushed.services ∙ ap ready_seat has_told.pipes ∙ came.whole.quiet (prepared.whole.quiet quiet);
      stock = stock_new;
      is_closed = all.is_closed ∙ has_told.is_closed ∙ came.whole.is_closed ∙ prepared.whole.is_closed;
      calls = omega (arith, calls_new);
      fine = all.fine ∙ came.fine;
      not_retried = λ fine. all.not_retried (came.fine ∙ fine) ∙ came.not_retried fine;
      known = known_new;
      exact = λ s.
          done_as new before.gained now.gained (leads s)
          (done_both step told sent one new before.gained mid.gained now.gained (written s) (executive_new s) calls_new
          (subst (Appends mid.gained now.gained) (outgoing_is s) all.gains));
      count = λ s.
          subst (λ (r : Answer). total ≡ length (concat (answered_now on_board old.services.moment executive_services packet (executive_in old) r).1)) (sym (leads s).step)
          (let size : length (concat (both step told).1) ≡ length (concat step.1) + length (concat told.1) = ap length (all_bytes step told) ∙ length-append (concat step.1) (concat told.1) in
          let first = (written s).count in let second = all.count in omega (arith, size, first, second, ap length (outgoing_is s)));
    }

    pub order_cut : (total : ℕ) → IsPartSent sent two new mid now total →
        HandlesPart party (order_stations on_board old.services.moment packet (executive_in old) answer) (answered_now on_board old.services.moment executive_services packet (executive_in old) answer) total old new before now
    order_cut total part = record {
      whole = whole_new;
      stock = stock_new;
      is_closed = part.is_closed;
      calls = omega (arith, calls_new);
      failed = part.failed;
      not_retried = λ fine. part.not_retried (came.fine ∙ fine) ∙ came.not_retried fine;
      known = known_new;
      exact = λ s.
          cut_as total new before.gained now.gained (leads s)
          (cut_second step told sent one new before.gained mid.gained now.gained (written s) (executive_new s) calls_new total part.taken part.count
          (let less = part.fewer in let size : length two.services.outgoing ≡ length (concat told.1) = ap length (outgoing_is s) in omega (arith, less, size))
          (subst (λ bytes. Appends mid.gained now.gained (take part.taken bytes)) (outgoing_is s) part.gains));
    }

-- ---- an order that is refused

pub order_refused : (packet : List ℕ) (old mid new : Hosted) (refusal : Refusal) → executive_service_now on_board old.services.moment packet (executive_in old) ≡ Err refusal → mid ≡ old → (request : Request) →
    request ≡ command_refused executive_services refusal → (before now : Sink) (result : Result ℕ WriteFault) → TellsAlone request mid new before now result → ObeysOrders packet old new before now result
order_refused packet old mid new refusal is same request asked before now result tells =
    asking_more (party_by (order_in packet)) _ _ _ _ _ _ _ result
    (subst (λ (r : Result (Written (List ℕ)) Refusal).
    Handles nobody (order_stations on_board old.services.moment packet (executive_in old) r) (answered_now on_board old.services.moment executive_services packet (executive_in old) r) 0 old new before now result)
    (sym is)
    (subst (λ (r : Request). Handles nobody (written_once (told_by_host old.services.moment (r ∷ []) (executive_in old))) (told_by_host old.services.moment (r ∷ []) (executive_in old)) 0 old new before now result)
    asked
    (subst (λ (h : Hosted). TellsAlone request h new before now result) same tells)))
