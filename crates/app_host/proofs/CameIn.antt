-- The next one took its seat, and what it asked for is written.
use Rattle.std.proofs.Common.{◌≡◌, ap, ap₂, sym, ◌∙◌, subst, inl, inr, ℕ, ◌+◌, ◌≤◌, List, [], ◌++◌, length, take, arith, length-append, refl, Option, Result, Ok, Err}
use Rattle.std.specs.Prelude.{IsErrAnd, All, Contains, ◌⊎◌}
use Rattle.std.specs.List.{concat, remove}
use Rattle.std.specs.Io.KnownBytes.{Appends}
use Rattle.std.proofs.lemmas.List.Elements.{All-contains_itself}
use Rattle.lc_model.specs.declared.record.Moment.{Moment}
use Rattle.lc_model.specs.Device.{Sink}
use Rattle.lc_model.specs.Kept.Executive.{Executive, Written}
use Rattle.app_host.specs.declared.services.Services.{Services}
use Rattle.app_host.specs.declared.error.WriteFault.{WriteFault}
use Rattle.app_host.specs.Hosted.{Object, Hosted}
use Rattle.app_host.specs.Whole.{AreSpares, AreKnown}
use Rattle.app_host.specs.Delivered.{executive_in, Becomes}
use Rattle.app_host.specs.Writing.{IsFlushed, IsAllSent, IsPartSent}
use Rattle.app_host.specs.Ordered.{Next, Nobody, Spare, Same, IsKnownNext, followed_by, seated_next, comer_of, gone_in, HasCome, HasFollowed, HasComeIn, HasFailed, ComesIn, HasEntered, HasNotEntered, Enters}
use Rattle.app_host.specs.Roster.{Roster, roster_of, ComesTo}
use Rattle.app_host.specs.Turn.{ComesAs}
use Rattle.app_host.proofs.Rosters.{roster_still, still_among}
use Rattle.app_host.proofs.Course.{taken_both, cut_behind}
use Rattle.app_host.proofs.Draining.{same_executive, still_known}
use Rattle.app_host.proofs.Followed.{all_removed}

-- what a write leaves alone
pub spares_still : (old new : Hosted) → IsFlushed old new → AreSpares old.stock → AreSpares new.stock
spares_still old new flushed spares = rw flushed.stock spares

pub idle_then : (old new : Hosted) → IsFlushed old new → new.services.outgoing ≡ []
idle_then old new flushed = ap (λ (s : Services). s.outgoing) flushed.services

module _ (next : Next) (old one two new : Hosted) (sent : ℕ) (before mid now : Sink) (fits : length old.services.outgoing ≤ 65536) (first : IsFlushed old one)
    (all : IsAllSent 0 old one before mid sent) (followed : HasFollowed next one two) (second : IsFlushed two new) where
  moment_one : one.services.moment ≡ old.services.moment
  moment_one = ap (λ (s : Services). s.moment) first.services

  its_own_one : IsKnownNext old.stock next → IsKnownNext one.stock next
  its_own_one its_own = subst (λ (stock : List Object). IsKnownNext stock next) (sym first.stock) its_own

  known_new : AreKnown old → IsKnownNext old.stock next → AreKnown new
  known_new known its_own = still_known two new second (followed.known (still_known old one first known) (its_own_one its_own))

  module _ (its_own : IsKnownNext old.stock next) (none : old.services.outgoing ≡ []) where
    abbrev step : Written (List ℕ)
    step = followed_by old.services.moment next (executive_in old)

    becomes : Becomes two step
    becomes =
        subst (Becomes two) (ap₂ (λ (m : Moment) (x : Executive (List ℕ)). followed_by m next x) moment_one (same_executive old one first)) (followed.exact (its_own_one its_own))

    nothing_sent : sent ≡ 0
    nothing_sent = let count = all.count in let nothing : length old.services.outgoing ≡ 0 = ap length none in omega (arith, count, nothing)

    executive_then : executive_in new ≡ step.0
    executive_then = same_executive two new second ∙ becomes.executive

    gains_nothing : Appends before.gained mid.gained []
    gains_nothing = subst (Appends before.gained mid.gained) none all.gains

  pub came_in : (total : ℕ) → IsAllSent sent two new mid now total → HasComeIn next total old new before now
  came_in total rest = record {
    whole = record {
      is_closed = rest.is_closed ∙ followed.whole.is_closed ∙ all.is_closed;
      calls = second.calls ∙ followed.whole.calls ∙ first.calls;
      moment = ap (λ (s : Services). s.moment) second.services ∙ followed.whole.moment ∙ moment_one;
      seated = second.seated;
      quiet = λ quiet. rw second.services (followed.whole.quiet (rw first.services quiet));
      fits = let nothing : length new.services.outgoing ≡ 0 = ap length (idle_then two new second) in omega (arith, nothing);
    };
    spares = spares_still two new second followed.spares;
    idle = idle_then two new second;
    small = let a = all.count in let b = rest.count in let c = followed.whole.fits in omega (arith, a, b, c, fits);
    fine = rest.fine ∙ all.fine;
    not_retried = λ fine. rest.not_retried (all.fine ∙ fine) ∙ all.not_retried fine;
    known = known_new;
    exact = λ its_own none. record {
      executive = executive_then its_own none;
      count = let a = rest.count in let b = nothing_sent its_own none in let size : length two.services.outgoing ≡ length (concat (step its_own none).1) = ap length (becomes its_own none).outgoing in omega (arith, a, b, size);
      gains =
          taken_both before.gained mid.gained now.gained [] (concat (step its_own none).1) (gains_nothing its_own none)
          (subst (Appends mid.gained now.gained) (becomes its_own none).outgoing rest.gains);
    };
  }

  pub failed_then : (total : ℕ) → IsPartSent sent two new mid now total → HasFailed next total old new before now
  failed_then total part = record {
    whole = record { seated = second.seated; spares = spares_still two new second followed.spares; idle = idle_then two new second };
    is_closed = part.is_closed;
    calls = second.calls ∙ followed.whole.calls ∙ first.calls;
    failed = part.failed;
    not_retried = λ fine. part.not_retried (all.fine ∙ fine) ∙ all.not_retried fine;
    known = known_new;
    exact = λ its_own none. let so : total ≡ part.taken = (let a = part.count in let b = nothing_sent its_own none in omega (arith, a, b)) in record {
      executive = executive_then its_own none;
      fewer = let less = part.fewer in let size : length two.services.outgoing ≡ length (concat (step its_own none).1) = ap length (becomes its_own none).outgoing in omega (arith, so, less, size);
      gains =
          taken_both before.gained mid.gained now.gained [] (take total (concat (step its_own none).1)) (gains_nothing its_own none)
          (subst (λ n. Appends mid.gained now.gained (take n (concat (step its_own none).1))) (sym so)
          (subst (λ bytes. Appends mid.gained now.gained (take part.taken bytes)) (becomes its_own none).outgoing part.gains));
    };
  }

  -- ---- who is where

  abbrev bytes : List ℕ
  bytes = old.services.outgoing ++ two.services.outgoing

  size : length bytes ≡ length old.services.outgoing + length two.services.outgoing
  size = length-append old.services.outgoing two.services.outgoing

  comes_to : ComesTo (seated_next next (roster_of old)) old new
  comes_to = record {
    host = ap (λ (s : Services). s.events.host) second.services ∙ followed.own.host ∙ ap (λ (s : Services). s.events.host) first.services;
    files = ap (λ (s : Services). s.tables.files) second.services ∙ followed.own.files ∙ ap (λ (s : Services). s.tables.files) first.services;
    roster = roster_still two new second ∙ followed.own.roster ∙ ap (seated_next next) (roster_still old one first);
  }

  its_turn : HasCome next old new bytes
  its_turn = record {
    later = two.services;
    came = subst (λ (x : List Object × Services × List (Option Object) × List (Option Object)). ComesAs (comer_of next) x.0 (gone_in next) x.1 two.services x.2 x.3)
        (λ i. (first.stock i, first.services i, first.seats i, sym second.seats i)) followed.came;
    sent = refl;
    services = second.services;
  }

  pub entered : (total : ℕ) → IsAllSent sent two new mid now total → HasEntered next total old new before.gained now.gained
  entered total rest = record {
    theirs = bytes;
    count = omega (arith, all.count, rest.count, size);
    gains = taken_both before.gained mid.gained now.gained old.services.outgoing two.services.outgoing all.gains rest.gains;
    own = comes_to;
    come = its_turn;
  }

  pub not_entered : (total : ℕ) → IsPartSent sent two new mid now total → HasNotEntered next total old new before.gained now.gained
  not_entered total part = record {
    theirs = bytes;
    small = omega (arith, size, fits, followed.whole.fits);
    fewer = omega (arith, all.count, part.count, part.fewer, size);
    gains = subst (Appends before.gained now.gained) (sym (cut_behind sent part.taken total old.services.outgoing two.services.outgoing part.count (let same : sent ≡ length old.services.outgoing = omega (arith, all.count) in same)))
        (taken_both before.gained mid.gained now.gained old.services.outgoing (take part.taken two.services.outgoing) all.gains part.gains);
    own = inl comes_to;
    come = inl its_turn;
  }

-- what waited was cut, and nobody came
pub nobody_entered : (next : Next) (old one : Hosted) (before now : Sink) → length old.services.outgoing ≤ 65536 → IsFlushed old one → (total : ℕ) → IsPartSent 0 old one before now total →
    HasNotEntered next total old one before.gained now.gained
nobody_entered next old one before now fits flushed total part = record {
  theirs = old.services.outgoing;
  small = omega (arith, fits);
  fewer = omega (arith, part.count, part.fewer);
  gains = subst (λ n. Appends before.gained now.gained (take n old.services.outgoing)) (let same : part.taken ≡ total = omega (arith, part.count) in same) part.gains;
  own = inr (record { host = ap (λ (s : Services). s.events.host) flushed.services; files = ap (λ (s : Services). s.tables.files) flushed.services; roster = roster_still old one flushed });
  come = inr (record { seats = flushed.seats; sent = refl; services = flushed.services });
}

pub not_entered_so : (next : Next) (old new : Hosted) (before now : Option (List ℕ)) (result : Result ℕ WriteFault) (fault : WriteFault) → IsErrAnd result (λ e. e ≡ fault) →
    HasNotEntered next fault.sent old new before now → Enters next old new before now result
not_entered_so next old new before now (Ok total) fault is part = absurd is
not_entered_so next old new before now (Err e) fault is part = subst (λ (f : WriteFault). HasNotEntered next f.sent old new before now) (sym is) part

-- no spare is new where the next one has its seat
pub among_come : (next : Next) (old new : Hosted) → ComesTo (seated_next next (roster_of old)) old new → All (Contains old.stock) new.stock
among_come Nobody old new comes = still_among old new (ap (λ (r : Roster). r.stock) comes.roster)
among_come (Spare place seat) old new comes =
    let left : new.stock ≡ remove old.stock place = ap (λ (r : Roster). r.stock) comes.roster in
    rw left (all_removed (Contains old.stock) old.stock place (All-contains_itself old.stock))
among_come (Same o seat) old new comes = still_among old new (ap (λ (r : Roster). r.stock) comes.roster)

-- or nobody has it
pub among_not_come : (next : Next) (old new : Hosted) → ComesTo (seated_next next (roster_of old)) old new ⊎ ComesTo (roster_of old) old new → All (Contains old.stock) new.stock
among_not_come next old new (inl comes) = among_come next old new comes
among_not_come next old new (inr stays) = still_among old new (ap (λ (r : Roster). r.stock) stays.roster)

-- an error that is passed on
pub failed_so : (next : Next) (old new : Hosted) (before now : Sink) (result : Result ℕ WriteFault) (fault : WriteFault) → IsErrAnd result (λ e. e ≡ fault) → HasFailed next fault.sent old new before now →
    ComesIn next old new before now result
failed_so next old new before now (Ok total) fault is part = absurd is
failed_so next old new before now (Err e) fault is part = subst (λ (f : WriteFault). HasFailed next f.sent old new before now) (sym is) part

-- what waited could not be written, and nobody came
pub nobody_came : (next : Next) (old one : Hosted) (before now : Sink) → AreSpares old.stock → IsFlushed old one → (total : ℕ) → IsPartSent 0 old one before now total → HasFailed next total old one before now
nobody_came next old one before now spares flushed total part = record {
  whole = record { seated = flushed.seated; spares = spares_still old one flushed spares; idle = idle_then old one flushed };
  is_closed = part.is_closed;
  calls = flushed.calls;
  failed = part.failed;
  not_retried = part.not_retried;
  known = λ known its_own. still_known old one flushed known;
  exact = λ its_own none. absurd (omega (arith, part.fewer, ap length none));
}
