-- The loop of the deliveries.
use Rattle.std.proofs.Common.{◌≡◌, true, false, refl, ap, sym, ◌∙◌, subst, ℕ, ◌+◌, ◌*◌, ◌<◌, ◌≤◌, List, [], ◌∷◌, ◌++◌, length, take, map, arith, length-append, Option, Some, None, Result, Ok, Err}
use Rattle.std.specs.Prelude.{option_map, IsErrAnd}
use Rattle.std.specs.Io.KnownBytes.{Appends}
use Rattle.std.specs.List.{concat}
use Rattle.std.proofs.lemmas.List.{append-nil}
use Rattle.std.proofs.lemmas.List.Folds.{concat-append}
use Rattle.lc_model.specs.declared.record.Moment.{Moment}
use Rattle.lc_model.specs.Device.{Sink, NoWriteRetried}
use Rattle.lc_model.specs.Packet.{sample_mid, lc_housekeeping_request_mid}
use Rattle.lc_model.specs.Kept.Executive.{Pipe, Written, ready_seat, delivered_at, drained}
use Rattle.lc_model.specs.Kept.Stations.{Station, delivery_stations, last_calls}
use Rattle.lc_model.specs.Services.Bus.{seen}
use Rattle.app_host.specs.declared.services.Services.{Services}
use Rattle.app_host.specs.declared.error.WriteFault.{WriteFault}
use Rattle.app_host.specs.Shared.{on_board, shared}
use Rattle.app_host.specs.Hosted.{Hosted, member_of}
use Rattle.app_host.specs.Whole.{IsWhole, AreKnown}
use Rattle.app_host.specs.Party.{Party, Waiting, nobody, AreKnownHearers, IsDetermined}
use Rattle.app_host.specs.Load.{all_ticks, IsLight, load}
use Rattle.app_host.specs.Delivered.{executive_in, Becomes, HasDelivered}
use Rattle.app_host.specs.Writing.{written_off, IsFlushed, IsAllSent, IsPartSent, IsCut, HandlesAll, HandlesPart, Handles}
use Rattle.app_host.specs.Roster.{Roster, roster_of, ComesTo}
use Rattle.app_host.specs.Heard.{IsDelivery, AreDeliveries}
use Rattle.app_host.specs.Response.{Response, handing_on, IsAlone, RespondsPart, RespondsCounted}
use Rattle.app_host.proofs.Flushed.{same_shared}
use Rattle.app_host.proofs.Rosters.{roster_still, still_among}
use Rattle.app_host.proofs.Course.{nothing_taken, taken_both, cut_behind, SoFar, so_far_first, so_far_more, cut_here, all_done, all_counted}

-- what the applications have sent so far, and that what is HOST's own stays
pub record Listening (first now : Hosted) (theirs : List ℕ) : Type 0 where
  pub own : ComesTo (roster_of first) first now
  pub alone : now.calls ≡ 0 → IsAlone (handing_on first) first now theirs now.services.events
  pub small : length theirs ≤ 65536 * now.calls
  pub deliveries : List (List ℕ)
  pub are : AreDeliveries deliveries first now
  pub sent : theirs ≡ concat deliveries
  pub calls : now.calls ≡ length deliveries

pub record Hearing (first now : Hosted) (sent : ℕ) (before after : Option (List ℕ)) : Type 0 where
  pub theirs : List ℕ
  pub count : sent ≡ length theirs
  pub gains : Appends before after theirs
  pub listening : Listening first now theirs

no_deliveries : (first : Hosted) → AreDeliveries [] first first
unfolding AreDeliveries
no_deliveries first = refl

one_delivery_more : (deliveries : List (List ℕ)) (first mid now : Hosted) (bytes : List ℕ) → AreDeliveries deliveries first mid → IsDelivery mid now bytes → AreDeliveries (deliveries ++ bytes ∷ []) first now
unfolding AreDeliveries
one_delivery_more [] first mid now bytes same delivery = (now, subst (λ (h : Hosted). IsDelivery h now bytes) same delivery, refl)
one_delivery_more (other ∷ deliveries) first mid now bytes are delivery = (are.0, are.1, one_delivery_more deliveries are.0 mid now bytes are.2 delivery)

sent_behind : (deliveries : List (List ℕ)) (bytes : List ℕ) → concat (deliveries ++ bytes ∷ []) ≡ concat deliveries ++ bytes
sent_behind deliveries bytes = concat-append deliveries (bytes ∷ []) ∙ ap (λ bs. concat deliveries ++ bs) (append-nil bytes)

pub record Draining (first now : Hosted) (sent : ℕ) (before after : Sink) : Type 0 where
  pub whole : IsWhole now
  pub light : IsLight (seen now.services.bus)
  pub few : now.calls + load (seen now.services.bus) ≤ 520
  pub small : sent ≤ 65536 * now.calls
  pub is_closed : now.is_closed ≡ first.is_closed
  pub moment : now.services.moment ≡ first.services.moment
  pub fine : after.failed ≡ before.failed
  pub not_retried : NoWriteRetried before after
  pub own : Hearing first now sent before.gained after.gained
  pub known : AreKnown first → AreKnown now
  pub exact : IsDetermined first → SoFar first.services.moment (executive_in first) now sent before.gained after.gained

pub draining_first : (h : Hosted) (sink : Sink) → IsWhole h → IsLight (seen h.services.bus) → load (seen h.services.bus) ≤ 520 → h.calls ≡ 0 → Draining h h 0 sink sink
draining_first h sink whole light few none = record {
  whole = whole;
  light = light;
  few = omega (arith, few, none);
  small = omega arith;
  is_closed = refl;
  moment = refl;
  fine = refl;
  not_retried = λ fine. refl;
  own = record {
    theirs = [];
    count = refl;
    gains = nothing_taken sink.gained;
    listening = record {
      own = record { host = refl; files = refl; roster = refl };
      alone = λ none. record { nothing = refl; events = refl; tables = refl; bus = refl; counts = refl; seats = refl };
      small = omega arith;
      deliveries = [];
      are = no_deliveries h;
      sent = refl;
      calls = none;
    };
  };
  known = λ known. known;
  exact = λ determined. so_far_first h.services.moment h sink.gained determined few none;
}

-- packets are given
pub given_then : (calls : ℕ) → true ≡ false → calls ≡ 0
given_then calls never = cc

-- nothing waits to be written any more
module _ (given later : Hosted) (flushed : IsFlushed given later) where
  pub same_executive : executive_in later ≡ executive_in given
  same_executive = λ i. record {
    stock = map member_of (flushed.stock i);
    seats = map (option_map member_of) (flushed.seats i);
    pipes = seen (flushed.services i).bus;
    services = (ap shared flushed.services ∙ same_shared given.services (written_off given.services) (record { bus = refl; events = refl; tables = refl; counts = refl })) i;
  }

  pub still_known : AreKnown given → AreKnown later
  still_known known = λ seat. rw flushed.seats (known seat)

  pipes_later : seen later.services.bus ≡ seen given.services.bus
  pipes_later = ap (λ (s : Services). seen s.bus) flushed.services

  still_hearers : (mid : ℕ) → AreKnownHearers given mid → AreKnownHearers later mid
  still_hearers mid known = λ seat. rw (pipes_later, flushed.seats) (known seat)

  pub still_determined : IsDetermined given → IsDetermined later
  still_determined determined = record {
    waiting = λ seat. rw (pipes_later, flushed.seats) (determined.waiting seat);
    scheduled = λ some.
        let both = determined.scheduled (subst (λ (pipes : List (Option Pipe)). 1 ≤ all_ticks pipes) pipes_later some) in
        (still_hearers sample_mid both.0, (still_hearers lc_housekeeping_request_mid both.1.0, tt));
  }

module _ (first now given later : Hosted) (sent seat : ℕ) (before mid after : Sink) (far : Draining first now sent before mid) (ready : ready_seat (seen now.services.bus) ≡ Some seat)
    (delivered : HasDelivered seat now given) (flushed : IsFlushed given later) where
  whole_then : IsWhole later
  whole_then = record {
    seated = flushed.seated;
    spares = rw (flushed.stock, delivered.stock) far.whole.spares;
    idle = ap (λ (s : Services). s.outgoing) flushed.services;
  }

  bus_then : seen later.services.bus ≡ seen given.services.bus
  bus_then = ap (λ (s : Services). seen s.bus) flushed.services

  calls_then : later.calls ≡ now.calls + 1
  calls_then = flushed.calls ∙ delivered.calls

  few_then : later.calls + load (seen later.services.bus) ≤ 520
  few_then = omega (arith, calls_then, ap load bus_then, delivered.falls, far.few)

  own_then : ComesTo (roster_of first) first later
  own_then = record {
    host = ap (λ (s : Services). s.events.host) flushed.services ∙ delivered.own.host ∙ far.own.listening.own.host;
    files = ap (λ (s : Services). s.tables.files) flushed.services ∙ delivered.own.files ∙ far.own.listening.own.files;
    roster = roster_still given later flushed ∙ delivered.own.roster ∙ far.own.listening.own.roster;
  }

  delivery : IsDelivery now later given.services.outgoing
  delivery = record {
    seat = seat;
    packet = delivered.packet;
    least = ready;
    room = λ other. let short = far.light.short other in omega (arith, short);
    answered = given;
    had = delivered.had;
    bytes_are = refl;
    services = flushed.services;
    seats = flushed.seats;
    stock = flushed.stock ∙ delivered.stock;
  }

  abbrev pub theirs_then : List ℕ
  theirs_then = far.own.theirs ++ given.services.outgoing

  pub listening_then : Listening first later theirs_then
  listening_then = record {
    own = own_then;
    alone = λ none. absurd (omega (arith, none, calls_then));
    small = omega (arith, delivered.fits, far.own.listening.small, calls_then, length-append far.own.theirs given.services.outgoing);
    deliveries = far.own.listening.deliveries ++ given.services.outgoing ∷ [];
    are = one_delivery_more far.own.listening.deliveries first now later given.services.outgoing far.own.listening.are delivery;
    sent = ap (λ bs. bs ++ given.services.outgoing) far.own.listening.sent ∙ sym (sent_behind far.own.listening.deliveries given.services.outgoing);
    calls = omega (arith, calls_then, far.own.listening.calls, length-append far.own.listening.deliveries (given.services.outgoing ∷ []));
  }

  known_later : AreKnown first → AreKnown later
  known_later known = still_known given later flushed (delivered.known (far.known known))

  module _ (determined : IsDetermined first) where
    so_far : SoFar first.services.moment (executive_in first) now sent before.gained mid.gained
    so_far = far.exact determined

    becomes : Becomes given (delivered_at on_board first.services.moment seat (executive_in now))
    becomes = subst (λ m. Becomes given (delivered_at on_board m seat (executive_in now))) far.moment (delivered.exact so_far.determined)

    determined_later : IsDetermined later
    determined_later = still_determined given later flushed (delivered.determined so_far.determined)

    more : Appends mid.gained after.gained given.services.outgoing → SoFar first.services.moment (executive_in first) later (sent + length given.services.outgoing) before.gained after.gained
    more gains =
        so_far_more first.services.moment (executive_in first) now given sent before.gained mid.gained so_far seat ready becomes delivered.falls
        later after.gained determined_later (same_executive given later flushed) calls_then (ap load bus_then) gains

    cut : (taken : ℕ) → taken < length given.services.outgoing → Appends mid.gained after.gained (take taken given.services.outgoing) →
        IsCut (delivery_stations on_board first.services.moment 0 520 (executive_in first)) (drained on_board first.services.moment 520 (executive_in first)) (sent + taken) later before.gained after.gained
    cut taken fewer gains =
        cut_here first.services.moment (executive_in first) now given sent before.gained mid.gained so_far seat ready becomes delivered.falls
        later after.gained determined_later (same_executive given later flushed) calls_then (ap load bus_then) taken fewer gains

  pub draining_next : (total : ℕ) → IsAllSent sent given later mid after total → Draining first later total before after
  draining_next total all = record {
    whole = whole_then;
    light = rw bus_then delivered.light;
    few = few_then;
    small = omega (arith, all.count, delivered.fits, far.small, calls_then);
    is_closed = all.is_closed ∙ delivered.is_closed ∙ far.is_closed;
    moment = ap (λ (s : Services). s.moment) flushed.services ∙ delivered.moment ∙ far.moment;
    fine = all.fine ∙ far.fine;
    not_retried = λ fine. all.not_retried (far.fine ∙ fine) ∙ far.not_retried fine;
    own = record {
      theirs = far.own.theirs ++ given.services.outgoing;
      count = omega (arith, all.count, far.own.count, length-append far.own.theirs given.services.outgoing);
      gains = taken_both before.gained mid.gained after.gained far.own.theirs given.services.outgoing far.own.gains all.gains;
      listening = listening_then;
    };
    known = known_later;
    exact = λ determined. subst (λ n. SoFar first.services.moment (executive_in first) later n before.gained after.gained) (sym all.count) (more determined all.gains);
  }

  pub draining_cut : (total : ℕ) → IsPartSent sent given later mid after total →
      HandlesPart Waiting (delivery_stations on_board first.services.moment 0 520 (executive_in first)) (drained on_board first.services.moment 520 (executive_in first)) total first later before after
  draining_cut total part = record {
    whole = whole_then;
    stock = still_among first later (ap (λ (r : Roster). r.stock) own_then.roster);
    is_closed = part.is_closed;
    calls = omega (arith, few_then);
    failed = part.failed;
    not_retried = λ fine. part.not_retried (far.fine ∙ fine) ∙ far.not_retried fine;
    known = λ known determined. known_later known;
    exact = λ determined.
        subst (λ n. IsCut (delivery_stations on_board first.services.moment 0 520 (executive_in first)) (drained on_board first.services.moment 520 (executive_in first)) n later before.gained after.gained)
        (sym part.count) (cut determined part.taken part.fewer part.gains);
  }

  -- a write failed inside what this call sent
  pub cut_inside : (total : ℕ) → IsPartSent sent given later mid after total → total < length theirs_then
  cut_inside total part = omega (arith, part.count, part.fewer, far.own.count, length-append far.own.theirs given.services.outgoing)

  pub cut_gains : (total : ℕ) → IsPartSent sent given later mid after total → Appends before.gained after.gained (take total theirs_then)
  cut_gains total part = subst (Appends before.gained after.gained)
      (sym (cut_behind sent part.taken total far.own.theirs given.services.outgoing part.count far.own.count))
      (taken_both before.gained mid.gained after.gained far.own.theirs (take part.taken given.services.outgoing) far.own.gains part.gains)

  pub some_calls : {P : Type 0} → later.calls ≡ 0 → P
  some_calls none = absurd (omega (arith, none, calls_then))

pub draining_end : (first now : Hosted) (sent : ℕ) (before after : Sink) → Draining first now sent before after → ready_seat (seen now.services.bus) ≡ None →
    HandlesAll Waiting (delivery_stations on_board first.services.moment 0 520 (executive_in first)) (drained on_board first.services.moment 520 (executive_in first))
    (last_calls on_board first.services.moment (delivery_stations on_board first.services.moment 0 520 (executive_in first))) sent first now before after
draining_end first now sent before after far none = record {
  whole = far.whole;
  quiet = none;
  stock = still_among first now (ap (λ (r : Roster). r.stock) far.own.listening.own.roster);
  is_closed = far.is_closed;
  calls = omega (arith, far.few);
  fine = far.fine;
  not_retried = far.not_retried;
  known = λ known determined. far.known known;
  exact = λ determined. all_done first.services.moment (executive_in first) now sent before.gained after.gained (far.exact determined) none;
  count = λ determined. all_counted first.services.moment (executive_in first) now sent before.gained after.gained (far.exact determined) none;
}

-- an error that is passed on
pub responds_short : (moment : Moment) (response : Response) (old new : Hosted) (before now : Option (List ℕ)) (result : Result ℕ WriteFault) (fault : WriteFault) → IsErrAnd result (λ e. e ≡ fault) →
    RespondsPart moment response fault.sent old new before now → RespondsCounted moment response old new before now result
responds_short moment response old new before now (Ok done) fault is part = absurd is
responds_short moment response old new before now (Err e) fault is part = subst (λ (f : WriteFault). RespondsPart moment response f.sent old new before now) (sym is) part

pub cut_short : (party : Party) (stations : List (Station (List ℕ))) (step : Written (List ℕ)) (last : ℕ) (old new : Hosted) (before now : Sink) (result : Result ℕ WriteFault) (fault : WriteFault) →
    IsErrAnd result (λ e. e ≡ fault) → HandlesPart party stations step fault.sent old new before now → Handles party stations step last old new before now result
cut_short party stations step last old new before now (Ok done) fault is part = absurd is
cut_short party stations step last old new before now (Err e) fault is part = subst (λ f. HandlesPart party stations step f.sent old new before now) (sym is) part

-- where nothing is asked, all the more where something is
pub asking_more : (party : Party) (stations : List (Station (List ℕ))) (step : Written (List ℕ)) (last : ℕ) (old new : Hosted) (before now : Sink) (result : Result ℕ WriteFault) →
    Handles nobody stations step last old new before now result → Handles party stations step last old new before now result
asking_more party stations step last old new before now (Ok total) all = record {
  whole = all.whole;
  quiet = all.quiet;
  stock = all.stock;
  is_closed = all.is_closed;
  calls = all.calls;
  fine = all.fine;
  not_retried = all.not_retried;
  known = λ known asked. all.known known (tt, tt);
  exact = λ asked. all.exact (tt, tt);
  count = λ asked. all.count (tt, tt);
}
asking_more party stations step last old new before now (Err fault) part = record {
  whole = part.whole;
  stock = part.stock;
  is_closed = part.is_closed;
  calls = part.calls;
  failed = part.failed;
  not_retried = part.not_retried;
  known = λ known asked. part.known known (tt, tt);
  exact = λ asked. part.exact (tt, tt);
}
