-- What becomes of the bytes in front of what a host holds is what becomes of them alone.
use Rattle.std.proofs.Common.{◌≡◌, refl, sym, ◌∙◌, ap, ℕ, ◌+◌, ◌≤◌, Bool, true, true≢false, List, [], ◌++◌, length, length-append, drop, Option, Some, None, Result, Ok, Err, arith}
use Rattle.std.proofs.lemmas.List.{take_all}
use Rattle.lc_model.specs.Host.Stream.{StreamEntry, Record, all_kinds, body_size, front, records_by_front, records_numbered}
use Rattle.lc_model.proofs.Host.Streams.{front_decides}
use Rattle.flight_core.specs.declared.halt.Halt.{Halt}
use Rattle.flight_core.specs.declared.halt.Halt.TheVariants as halt
use Rattle.flight_core.specs.Brought.{meanings_of}
use Rattle.flight_core.specs.Feeding.{Feeding, HandlesOne, fed_with}
use Rattle.flight_core.specs.Front.{part_of}
use Rattle.flight_core.specs.Going.{IsHandled, IsNext, MeetsNone, NoneIsHeld}
use Rattle.flight_core.specs.Records.{Held, first_record, next_number}
use Rattle.run_stepper.specs.declared.handled.Handled.{Handled}
use Rattle.run_stepper.specs.declared.handled.Handled.TheVariants.{Whole, NoRecord, Part}
use Rattle.run_stepper.specs.Stepping.{GoesOn, HandlesAlone, HandlesRecord, HasHandled, MeetsNoRecord, Waits, holding_none, sink_with, told_of}
use Rattle.run_stepper.proofs.InFront.{all_of_it, as_long, by_itself, parted, rest_is}

module _ (old new : Feeding) (written : List ℕ) (goes : GoesOn old) (failed retried fails retries : Bool) where
  abbrev Handles : Feeding → Feeding → Result (Option ℕ) Halt → Type 0
  Handles before after = HandlesOne before after (sink_with [] failed retried) (sink_with written fails retries)

  abbrev texts : ℕ
  texts = old.held.texts

  abbrev taking : List ℕ → Feeding
  taking bytes = fed_with bytes (holding_none old)

  never : {A : Type 0} → old.host.is_closed ≡ true → A
  never closed = absurd (true≢false (sym closed ∙ goes.is_open))

  -- all of them are taken
  taken : (bytes : List ℕ) → length bytes ≤ 73739 → (taking bytes).held.bytes ≡ bytes
  taken bytes few = rw goes.good (take_all 73739 bytes few)

  module _ (total : ℕ) (one : Handles old new (Ok (Some total))) where
    is : IsHandled (meanings_of old.files) old.held new.held old.host new.host (sink_with [] failed retried) (sink_with written fails retries) total
    is = one.where_open goes.is_open

    abbrev entry : StreamEntry
    entry = is.next.entry

    abbrev lent : List ℕ
    lent = first_record old.held.bytes

    lent_is : new.held.last ≡ lent
    lent_is = ap (λ (h : Held). h.last) is.next.goes

    left_is : new.held.bytes ≡ is.next.rest
    left_is = ap (λ (h : Held). h.bytes) is.next.goes

    few : length lent ≤ 73739
    few = omega (arith, goes.few, ap length (parted texts old.held.bytes entry is.next.rest is.next.front), length-append lent (drop (11 + body_size old.held.bytes) old.held.bytes))

    own : front all_kinds texts lent ≡ Record entry []
    own = by_itself texts old.held.bytes entry is.next.rest is.next.front

    all : (taking new.held.last).held.bytes ≡ lent
    all = taken new.held.last (omega (arith, few, ap length lent_is)) ∙ lent_is

    next : IsNext (taking new.held.last).held (holding_none new).held
    next = record {
      entry = entry;
      rest = [];
      front = ap (front all_kinds texts) all ∙ own;
      shorter = omega (arith, ap length all, as_long texts old.held.bytes entry is.next.rest is.next.front);
      goes =
          ap (λ (h : Held). record h { bytes = [] }) is.next.goes
          ∙ (λ i. record old.held {
            bytes = [];
            last = (sym (ap first_record all ∙ all_of_it texts old.held.bytes entry is.next.rest is.next.front)) i;
            count = next_number old.held;
          });
    }

    handles : HandlesRecord old new written
    unfolding next is
    handles = record {
      entry = entry;
      front = is.next.front ∙ ap (Record entry) (sym left_is);
      parts =
          parted texts old.held.bytes entry is.next.rest is.next.front
          ∙ (λ i. sym lent_is i ++ sym (left_is ∙ rest_is texts old.held.bytes entry is.next.rest is.next.front) i);
      own =
          front_decides all_kinds texts 1 new.held.last
          ∙ ap (records_by_front (records_numbered all_kinds texts 2) 1) (ap (front all_kinds texts) lent_is ∙ own);
      alone = record {
        answer = Ok (Some total);
        failed = failed;
        retried = retried;
        fails = fails;
        retries = retries;
        one = record {
          files = one.files;
          where_open = λ still. record {
            next = next;
            between = is.between;
            steps = is.steps;
            count = is.count;
            part = is.part;
            step = is.step;
            gains = is.gains;
            counted = is.counted;
          };
          where_closed = λ closed. never closed;
        };
        told = refl;
      };
      files = one.files;
      texts = ap (λ (h : Held). h.texts) is.next.goes;
      goes_on = record {
        is_open = is.steps.is_open;
        good = ap (λ (h : Held). h.is_bad) is.next.goes ∙ goes.good;
        few = omega (arith, goes.few, is.next.shorter, ap length left_is);
      };
    }

  -- all that is held
  held_taken : (taking old.held.bytes).held.bytes ≡ old.held.bytes
  held_taken = taken old.held.bytes goes.few

  -- and found to begin with no record
  abbrev found_bad : Feeding
  found_bad = let it : Feeding = taking old.held.bytes in record it { held = record it.held { is_bad = true } }

  meets : Handles old new (Err halt.NoRecord) → MeetsNoRecord old written
  meets one =
      let none : MeetsNone (meanings_of old.files) old.held new.held old.host new.host (sink_with [] failed retried) (sink_with written fails retries) =
      one.where_open goes.is_open in
      record {
        front = none.front;
        now = found_bad;
        alone = record {
          answer = Err halt.NoRecord;
          failed = failed;
          retried = retried;
          fails = fails;
          retries = retries;
          one = record {
            files = refl;
            where_open = λ still. record {
              front = ap (front all_kinds texts) held_taken ∙ none.front;
              goes = refl;
              host = refl;
              idle = none.idle;
            };
            where_closed = λ closed. never closed;
          };
          told = refl;
        };
      }

  waits : Handles old new (Ok None) → Waits old new written
  waits one =
      let none : NoneIsHeld (meanings_of old.files) old.held new.held old.host new.host (sink_with [] failed retried) (sink_with written fails retries) =
      one.where_open goes.is_open in
      record {
        front = none.front;
        few = none.few;
        same = λ i. record { host = none.host i; held = none.same i; files = one.files i };
        now = taking old.held.bytes;
        alone = record {
          answer = Ok None;
          failed = failed;
          retried = retried;
          fails = fails;
          retries = retries;
          one = record {
            files = refl;
            where_open = λ still. record {
              front = ap (front all_kinds texts) held_taken ∙ none.front ∙ ap part_of (sym held_taken);
              few = omega (arith, none.few, ap length held_taken);
              same = refl;
              host = refl;
              idle = none.idle;
            };
            where_closed = λ closed. never closed;
          };
          told = refl;
        };
      }

  by_answer : (found : Handled) (answer : Result (Option ℕ) Halt) → Handles old new answer → Ok found ≡ told_of answer → HandlesAlone old new written found
  by_answer Whole (Ok (Some total)) one told = handles total one
  by_answer Whole (Ok None) one told = absurd (cc told)
  by_answer Whole (Err halt.NoRecord) one told = absurd (cc told)
  by_answer NoRecord (Ok (Some total)) one told = absurd (cc told)
  by_answer NoRecord (Ok None) one told = absurd (cc told)
  by_answer NoRecord (Err halt.NoRecord) one told = meets one
  by_answer Part (Ok (Some total)) one told = absurd (cc told)
  by_answer Part (Ok None) one told = waits one
  by_answer Part (Err halt.NoRecord) one told = absurd (cc told)
  by_answer found (Err (halt.Unsent sent)) one told = absurd (cc told)
  by_answer found (Err halt.Fault) one told = absurd (cc told)
  by_answer found (Err halt.Bound) one told = absurd (cc told)

pub handled_alone : (old new : Feeding) (written : List ℕ) (found : Handled) → GoesOn old → HasHandled old new written (Ok found) → HandlesAlone old new written found
handled_alone old new written found goes step = by_answer old new written goes step.failed step.retried step.fails step.retries found step.answer step.one step.told
