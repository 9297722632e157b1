-- The next record of those that are held, as it was found, brought to the host and handled.
use Rattle.std.proofs.Common.{◌≡◌, refl, sym, ◌∙◌, ap, subst, ℕ, ◌<◌, true, List, ◌++◌, length, Option, Some, None, Result, Ok, Err}
use Rattle.std.specs.Prelude.{IfSome}
use Rattle.lc_model.specs.declared.record.Body.{Body}
use Rattle.lc_model.specs.declared.record.Body.TheVariants as body
use Rattle.lc_model.specs.declared.record.Moment.{Moment}
use Rattle.lc_model.specs.declared.record.Record.{Record as Given}
use Rattle.lc_model.specs.Device.{Sink}
use Rattle.lc_model.specs.Host.React.{Input}
use Rattle.lc_model.specs.Host.Run.{input_of}
use Rattle.lc_model.specs.Host.Stream as stream
use Rattle.lc_model.specs.Host.Stream.{Contents, StreamEntry, Front, EndOfStream, Record, NoRecord, CutRecord}
use Rattle.rpn_compiler.specs.declared.files.TablePair.{TablePair}
use Rattle.app_host.specs.Hosted.{Object, Hosted}
use Rattle.app_host.specs.Party.{AreKnownIn}
use Rattle.lc_model.specs.Refusal.{Refusal}
use Rattle.lc_model.specs.Services.Tables.{TableService, file_put}
use Rattle.app_host.specs.Boxes.{BoxHasGone}
use Rattle.app_host.specs.Shared.{at_moment}
use Rattle.app_host.specs.Response.{response_to, response_to_packet, filing, asked_by_host, RespondsPart, RespondsWithCount}
use Rattle.app_host.specs.Step.{input_by, party_of, IsBetween, called_for, StepsWhole, StepsPart}
use Rattle.flight_core.specs.declared.found.Found.{Found}
use Rattle.flight_core.specs.declared.found.Found.TheVariants as found
use Rattle.flight_core.specs.Answer.{Entry, Bad}
use Rattle.flight_core.specs.Found.{answer_of}
use Rattle.flight_core.specs.Records.{Held, first_record, front_of, next_number, answer_by, after_by, next_answer, after_next, IsRecord}
use Rattle.flight_core.specs.Brought.{meanings_of, IsTaken, IsBrought}
use Rattle.flight_core.specs.Going.{IsNext, IsHandled, IsCutShort, MeetsNone}
use Rattle.flight_core.specs.Leaving.{seat_left_for, LeavesForFront}

-- ---- what was brought is a record

given_by : (pairs : List TablePair) (f : Found) (given : Given) → IsBrought pairs f (Some given) → IsTaken pairs (answer_of f) given
given_by pairs (found.Record entry) given is = is
given_by pairs (found.Half moment name kind text) given is = is
given_by pairs (found.Bad number) given is = absurd is

pub taken_by : (pairs : List TablePair) (f : Found) (given : Given) (result : Option Given) → result ≡ Some given → IsBrought pairs f result → IsTaken pairs (answer_of f) given
taken_by pairs f given result is brought = given_by pairs f given (subst (IsBrought pairs f) is brought)

-- ---- the seat that is left for it

stored : (h : Hosted) (answer : Result TableService Refusal) → (filing h answer).leaves ≡ None
stored h (Ok tables) = refl
stored h (Err refusal) = refl

seat_left : (pairs : List TablePair) (h : Hosted) (body : Body) (contents : Contents) → input_by body ≡ input_of (meanings_of pairs) contents → (response_to body h).leaves ≡ seat_left_for contents h
seat_left pairs h (body.Packet bytes) (stream.Packet bytes') is = let same : bytes.now ≡ bytes' = cc is in ap (λ packet. (response_to_packet packet h).leaves) same
seat_left pairs h (body.Packet bytes) stream.Tick is = cc is
seat_left pairs h (body.Packet bytes) (stream.File name' bytes') is = cc is
seat_left pairs h (body.Packet bytes) (stream.Half name' kind text) is = cc is
seat_left pairs h body.Tick (stream.Packet bytes') is = cc is
seat_left pairs h body.Tick stream.Tick is = refl
seat_left pairs h body.Tick (stream.File name' bytes') is = cc is
seat_left pairs h body.Tick (stream.Half name' kind text) is = cc is
seat_left pairs h (body.File name bytes) (stream.Packet bytes') is = cc is
seat_left pairs h (body.File name bytes) stream.Tick is = cc is
seat_left pairs h (body.File name bytes) (stream.File name' bytes') is = stored h (file_put name.now bytes.now h.services.tables)
seat_left pairs h (body.File name bytes) (stream.Half name' kind text) is = stored h (file_put name.now bytes.now h.services.tables)

-- ---- and the one that is in front

pub next_by : (held after : Held) (entry : StreamEntry) → Some (Entry entry) ≡ next_answer held → after ≡ after_next held →
    (IsRecord (next_answer held) → length (after_next held).bytes < length held.bytes) → (next : IsNext held after) × (next.entry ≡ entry)
next_by held after entry answer goes shorter = by_front (front_of held) refl
  where
    by_front : (f : Front) → front_of held ≡ f → (next : IsNext held after) × (next.entry ≡ entry)
    by_front (Record first rest) is =
        let then : after_next held ≡ record held { bytes = rest; last = first_record held.bytes; count = next_number held } = ap (after_by held) is in
        let same : Some (Entry entry) ≡ Some (Entry first) = answer ∙ ap (answer_by held) is in
        let comes : next_answer held ≡ Some (Entry first) = ap (answer_by held) is in (
          record {
            entry = first;
            rest = rest;
            front = is;
            shorter = subst (λ (h : Held). length h.bytes < length held.bytes) then (shorter (subst IsRecord (sym comes) tt));
            goes = goes ∙ then;
          },
          cc same,
        )
    by_front EndOfStream is = let none : Some (Entry entry) ≡ None = answer ∙ ap (answer_by held) is in absurd (cc none)
    by_front CutRecord is = let none : Some (Entry entry) ≡ None = answer ∙ ap (answer_by held) is in absurd (cc none)
    by_front NoRecord is = let none : Some (Entry entry) ≡ answer_by held NoRecord = answer ∙ ap (answer_by held) is in absurd (cc none)

module _ (pairs : List TablePair) (held after : Held) (f : Found) (given : Given) (result : Option Given) (brought : IsBrought pairs f result) (is : result ≡ Some given)
    (answer : Some (answer_of f) ≡ next_answer held) (goes : after ≡ after_next held) (shorter : IsRecord (next_answer held) → length (after_next held).bytes < length held.bytes)
    (old : Hosted) where
  taken : IsTaken pairs (answer_of f) given
  taken = taken_by pairs f given result is brought

  next : (next : IsNext held after) × (next.entry ≡ taken.entry)
  next = next_by held after taken.entry (ap Some (sym taken.is) ∙ answer) goes shorter

  moment_is : given.moment ≡ next.0.entry.moment
  moment_is = taken.moment ∙ ap (λ (e : StreamEntry). e.moment) (sym next.1)

  input_is : input_by given.body ≡ input_of (meanings_of pairs) next.0.entry.contents
  input_is = taken.input ∙ ap (λ (e : StreamEntry). input_of (meanings_of pairs) e.contents) (sym next.1)

  -- who leaves a seat for it
  pub leaves : {B : Type 0} (meaning : B → Object) (boxes : List (Option B)) → IfSome (response_to given.body old).leaves (BoxHasGone meaning boxes (at_moment given.moment old.services)) →
      LeavesForFront meaning boxes old (front_of held)
  leaves meaning boxes gone = subst (LeavesForFront meaning boxes old) (sym next.0.front)
      (subst (λ (x : Option ℕ × Moment). IfSome x.0 (BoxHasGone meaning boxes (at_moment x.1 old.services))) (λ i. (seat_left pairs old given.body next.0.entry.contents input_is i, moment_is i)) gone)

  module _ (new : Hosted) (before now : Sink) (between : IsBetween new) where
    pub handled : (total : ℕ) → StepsWhole given.moment (input_by given.body) old new before now → RespondsWithCount given.moment (response_to given.body old) total old new before.gained now.gained →
        (AreKnownIn (party_of (input_by given.body)) old → total ≡ length (called_for given.moment (input_by given.body) old)) →
        IsHandled (meanings_of pairs) held after old new before now total
    handled total steps counted count = record {
      next = next.0;
      between = between;
      steps = subst (λ (x : Moment × Input (List ℕ)). StepsWhole x.0 x.1 old new before now) (λ i. (moment_is i, input_is i)) steps;
      count = λ those. count (subst (λ (x : Input (List ℕ)). AreKnownIn (party_of x) old) (sym input_is) those) ∙ (λ i. length (called_for (moment_is i) (input_is i) old));
      part = counted.responds.called.theirs ++ (asked_by_host given.moment (response_to given.body old).request counted.responds.called.behind).1;
      step = record {
        given = given;
        moment = moment_is;
        brings = input_is;
        responds = record {
          called = counted.responds.called;
          gains = refl;
          events = counted.responds.events;
          files = counted.responds.files;
          roster = counted.responds.roster;
          turned = counted.responds.turned;
        };
        between = between;
        exact = λ those. (steps.exact those).host;
      };
      gains = counted.responds.gains;
      counted = counted.count;
    }

    pub cut_short : (sent : ℕ) → StepsPart given.moment (input_by given.body) sent old new before now → RespondsPart given.moment (response_to given.body old) sent old new before.gained now.gained → IsCutShort (meanings_of pairs) held after old new before now sent
    cut_short sent steps responds = record {
      next = next.0;
      between = between;
      steps = subst (λ (x : Moment × Input (List ℕ)). StepsPart x.0 x.1 sent old new before now) (λ i. (moment_is i, input_is i)) steps;
      part = responds.called.theirs ++ (asked_by_host given.moment (response_to given.body old).request responds.called.behind).1;
      step = record {
        given = given;
        moment = moment_is;
        brings = input_is;
        responds = record {
          called = responds.called;
          fewer = responds.fewer;
          gains = refl;
          events = responds.events;
          files = responds.files;
          roster = responds.roster;
          turned = responds.turned;
        };
        between = between;
        exact = λ those. (steps.exact those).host;
        all = refl;
      };
      gains = responds.gains;
    }

-- ---- what was brought is no record

number_by : (pairs : List TablePair) (f : Found) (result : Option Given) → result ≡ None → IsBrought pairs f result → (number : ℕ) × (answer_of f ≡ Bad number)
number_by pairs (found.Bad number) result is brought = (number, refl)
number_by pairs (found.Record entry) result is brought = absurd (subst (IsBrought pairs (found.Record entry)) is brought)
number_by pairs (found.Half moment name kind text) result is brought = absurd (subst (IsBrought pairs (found.Half moment name kind text)) is brought)

-- then none is in front, and what is held is marked as bad
none_by : (held after : Held) (number : ℕ) → Some (Bad number) ≡ next_answer held → after ≡ after_next held → (front_of held ≡ NoRecord) × (after ≡ record held { is_bad = true })
none_by held after number answer goes = by_front (front_of held) refl
  where
    by_front : (f : Front) → front_of held ≡ f → (front_of held ≡ NoRecord) × (after ≡ record held { is_bad = true })
    by_front NoRecord is = (is, goes ∙ ap (after_by held) is)
    by_front (Record entry rest) is = let none : Some (Bad number) ≡ Some (Entry entry) = answer ∙ ap (answer_by held) is in absurd (cc none)
    by_front EndOfStream is = let none : Some (Bad number) ≡ None = answer ∙ ap (answer_by held) is in absurd (cc none)
    by_front CutRecord is = let none : Some (Bad number) ≡ None = answer ∙ ap (answer_by held) is in absurd (cc none)

pub meets_none : (pairs : List TablePair) (held after : Held) (f : Found) (result : Option Given) → IsBrought pairs f result → result ≡ None → Some (answer_of f) ≡ next_answer held → after ≡ after_next held →
    (old : Hosted) (before : Sink) → MeetsNone (meanings_of pairs) held after old old before before
meets_none pairs held after f result brought is answer goes old before =
    let bad : (number : ℕ) × (answer_of f ≡ Bad number) = number_by pairs f result is brought in
    let none : (front_of held ≡ NoRecord) × (after ≡ record held { is_bad = true }) = none_by held after bad.0 (ap Some (sym bad.1) ∙ answer) goes in
    record { front = none.0; goes = none.1; host = refl; idle = refl }

-- whatever comes, as many texts stay as there were
texts_by : (held : Held) (there : Front) → (after_by held there).texts ≡ held.texts
texts_by held (Record entry rest) = refl
texts_by held NoRecord = refl
texts_by held EndOfStream = refl
texts_by held CutRecord = refl

pub texts_stay : (held after : Held) → after ≡ after_next held → after.texts ≡ held.texts
texts_stay held after goes = ap (λ (h : Held). h.texts) goes ∙ texts_by held (front_of held)
