-- Each record was one step, and each answer is given for its reason, whatever is in stock.
use Rattle.std.proofs.Common.{◌≡◌, refl, sym, ◌∙◌, ap, subst, inl, inr, ℕ, ◌<◌, List, [], ◌∷◌, ◌++◌, length, Result, Ok, Err, false, arith, append_assoc, append-nil, length-append}
use Rattle.std.specs.List.{concat}
use Rattle.std.specs.Io.KnownBytes.{Consumes}
use Rattle.std.proofs.KnownBytes.{Consumes-trans}
use Rattle.lc_model.specs.Device.{Source, Sink}
use Rattle.lc_model.specs.Tables.Interpretation.{FileMeanings}
use Rattle.lc_model.specs.Host.Outcome.{Devices, devices, Ending, Complete, Uncompiled, MetNoRecord, MetTheEnd, FailedToRead, FailedToWrite, ReachedTheBound, NoMemory, IsOutcome}
use Rattle.lc_model.specs.Host.Promise.{Mission}
use Rattle.lc_model.specs.Host.Stream.{StreamEntry, records_of}
use Rattle.lc_model.specs.Kept.Executive.{Member}
use Rattle.lc_model.specs.Kept.Stations.{first_host}
use Rattle.rpn_compiler.specs.declared.files.TablePair.{TablePair}
use Rattle.app_host.specs.Hosted.{Hosted, in_numbers}
use Rattle.flight_core.specs.declared.error.Report.{Report}
use Rattle.flight_core.specs.declared.error.RunError.{RunError}
use Rattle.flight_core.specs.declared.error.RunError.TheVariants as error
use Rattle.flight_core.specs.declared.halt.Halt.{Halt}
use Rattle.flight_core.specs.declared.halt.Halt.TheVariants as halt
use Rattle.flight_core.specs.Brought.{meanings_of}
use Rattle.flight_core.specs.Compiled.{AreAllCompiled, IsNotCompiled}
use Rattle.flight_core.specs.Ending.{ending_of}
use Rattle.flight_core.specs.Flight.{stopped_by, ended_by}
use Rattle.flight_core.specs.Gathered.{with_held, MayHold}
use Rattle.flight_core.specs.Going.{IsCutShort, NoneIsHeld, EndsFor, HandlesNext, IsReadBehind, Refills}
use Rattle.flight_core.specs.Front.{part_of}
use Rattle.flight_core.specs.Records.{Held, front_of}
use Rattle.flight_core.specs.Steps.{AreNoneLeft, IsForItsReason, RunsForItsReason, AnswersForItsReason}
use Rattle.flight_core.proofs.Courses.{SoFar, idle}
use Rattle.flight_core.proofs.Endings.{IsWritten, IsCut, Laws, others_left, records_then, handed_out, handed_out_before}
use Rattle.flight_core.proofs.Exits.{stops_by, reads_by, ends_by}

none_left : (ending : Ending) → AreNoneLeft ending []
none_left (Complete entries count) = refl
none_left (Uncompiled text refusal) = refl
none_left (MetNoRecord number) = refl
none_left (MetTheEnd number) = refl
none_left FailedToRead = refl
none_left (FailedToWrite sent) = tt
none_left ReachedTheBound = refl
none_left NoMemory = refl

-- where all records that have come were handled
reason_of_all : (n : ℕ) (meanings : FileMeanings (List ℕ)) (first : Hosted) (most : ℕ) (source : Source) (sink : Sink) (now : Hosted) (source_now : Source) (sink_now : Sink) (held : Held) (count bytes : ℕ)
    (far : SoFar n meanings first source sink now source_now sink_now held count bytes) (source_after : Source) (device : Sink) → Consumes source.rest source_after.rest far.come →
    (records_of n far.come).0 ≡ far.entries → (ending : Ending) → IsOutcome (records_of n) (λ all. concat far.parts ++ []) most (devices source source_after sink device) ending →
    (end : Hosted) → end ≡ now → IsForItsReason n meanings first end most (devices source source_after sink device) ending
reason_of_all n meanings first most source sink now source_now sink_now held count bytes far source_after device took all ending outcome end same = record {
  come = far.come;
  took = took;
  entries = far.entries;
  others = [];
  records = all ∙ sym (append-nil far.entries);
  handled = none_left ending;
  parts = far.parts;
  now = now;
  steps = far.steps;
  part = [];
  last = inl (refl, same);
  outcome = outcome;
}

module _ (laws : Laws) (n : ℕ) (meanings : FileMeanings (List ℕ)) (first : Hosted) (most : ℕ) (source : Source) (sink : Sink)
    (now : Hosted) (source_now : Source) (sink_now : Sink) (held : Held) (count bytes : ℕ) (far : SoFar n meanings first source sink now source_now sink_now held count bytes)
    (after : Held) (new : Hosted) (sink_after before device : Sink) (gathered left : List ℕ) (shown : sink_after ≡ with_held before gathered) (may : MayHold sink.gained device.gained left) where
  abbrev output : List StreamEntry → List ℕ
  output all = concat far.parts ++ []

  abbrev tell : (now' : Hosted) (source' : Source) (sink' : Sink) (held' : Held) (f : SoFar n meanings first source sink now' source' sink' held' count bytes) → f.come ≡ far.come → f.entries ≡ far.entries → f.parts ≡ far.parts →
      IsWritten n output f.come f.entries sink.gained sink'.gained bytes
  tell now' source' sink' held' f come entries parts = record {
    written = concat f.parts;
    wrote = f.wrote;
    long = f.long;
    is = λ is. append-nil (concat far.parts) ∙ ap concat (sym parts);
  }

  -- ---- a record that is not written whole

  module _ (sent : ℕ) (cut : IsCutShort meanings held after now new sink_now sink_after sent) where
    abbrev output_cut : List StreamEntry → List ℕ
    output_cut all = concat far.parts ++ cut.part

    abbrev others : List StreamEntry
    others = others_left laws n meanings first source sink now source_now sink_now held count bytes far after cut.next

    then : (records_of n far.come).0 ≡ (far.entries ++ cut.next.entry ∷ []) ++ others
    then = records_then laws n meanings first source sink now source_now sink_now held count bytes far after cut.next

    -- there is a record more
    not_all : {P : Type 0} → (records_of n far.come).0 ≡ far.entries → P
    not_all is = absurd (omega (arith, ap length (sym is ∙ then), length-append (far.entries ++ cut.next.entry ∷ []) others, length-append far.entries (cut.next.entry ∷ [])))

    abbrev tell_cut : (now' : Hosted) (source' : Source) (sink' : Sink) (held' : Held) (f : SoFar n meanings first source sink now' source' sink' held' count bytes) → f.come ≡ far.come → f.entries ≡ far.entries → f.parts ≡ far.parts →
        IsWritten n output_cut f.come f.entries sink.gained sink'.gained bytes
    tell_cut now' source' sink' held' f come entries parts = record {
      written = concat f.parts;
      wrote = f.wrote;
      long = f.long;
      is = λ is. not_all (ap (λ bs. (records_of n bs).0) (sym come) ∙ is ∙ entries);
    }

    cut_so : IsCut (concat far.parts ++ cut.part) (concat far.parts) sink_now sink_after sent
    cut_so = record {
      called = cut.part;
      others = [];
      all = sym (append-nil (concat far.parts ++ cut.part));
      fewer = subst (λ (bs : List ℕ). sent < length bs) (sym cut.step.all) cut.step.responds.fewer;
      gains = cut.gains;
      failed = cut.steps.failed;
    }

    reason_of_cut : (last : Halt) → EndsFor bytes before device gathered left (halt.Unsent sent) last → (answer : RunError) → answer ≡ stopped_by last count bytes (length left) →
        IsForItsReason n meanings first new most (devices source source_now sink device) (ending_of (Err answer))
    reason_of_cut last ended answer is = record {
      come = far.come;
      took = far.took;
      entries = far.entries;
      others = cut.next.entry ∷ others;
      records = then ∙ append_assoc far.entries (cut.next.entry ∷ []) others;
      handled = subst (λ (e : RunError). AreNoneLeft (ending_of (Err e)) (cut.next.entry ∷ others)) (sym (is ∙ ap (λ (t : Halt). stopped_by t count bytes (length left)) ended.0)) tt;
      parts = far.parts;
      now = now;
      steps = far.steps;
      part = cut.part;
      last = inr (record { entry = cut.next.entry; rest = others; next = refl; sent = sent; step = cut.step });
      outcome = stops_by laws n meanings first most source sink output_cut now source_now sink_now held count bytes far after new sink_after before device gathered left shown may tell_cut
          (halt.Unsent sent) last cut cut_so ended answer is;
    }

  -- ---- by what is answered

  w : IsWritten n output far.come far.entries sink.gained sink_now.gained bytes
  w = tell now source_now sink_now held far refl refl refl

  pub reason_to_stop : (halt last : Halt) → HandlesNext meanings held after now new sink_now sink_after (Err halt) → EndsFor bytes before device gathered left halt last →
      (answer : RunError) → answer ≡ stopped_by last count bytes (length left) → IsForItsReason n meanings first new most (devices source source_now sink device) (ending_of (Err answer))
  reason_to_stop (halt.Unsent sent) last cut ended answer is = reason_of_cut sent cut last ended answer is
  reason_to_stop halt.NoRecord last none ended answer is =
      reason_of_all n meanings first most source sink now source_now sink_now held count bytes far source_now device far.took
      (handed_out_before laws n meanings first most source sink output now source_now sink_now held count bytes far w none.front) (ending_of (Err answer))
      (stops_by laws n meanings first most source sink output now source_now sink_now held count bytes far after new sink_after before device gathered left shown may tell halt.NoRecord last none tt ended answer is)
      new none.host
  reason_to_stop halt.Fault last handles ended answer is = absurd handles
  reason_to_stop halt.Bound last handles ended answer is = absurd handles

  module _ (none : NoneIsHeld meanings held after now new sink_now sink_after) where
    abbrev still : SoFar n meanings first source sink new source_now sink_after after count bytes
    still = idle n meanings first source sink now source_now sink_now held count bytes far after new sink_after none

    all_handled : (records_of n far.come).0 ≡ far.entries
    unfolding idle
    all_handled = handed_out laws n meanings first most source sink output new source_now sink_after after count bytes still (tell new source_now sink_after after still refl refl refl)
        (subst (λ (h : Held). front_of h ≡ part_of h.bytes) (sym none.same) none.front)

    taken_more : (source_after : Source) → Consumes source_now.rest source_after.rest [] → Consumes source.rest source_after.rest far.come
    taken_more source_after took = subst (Consumes source.rest source_after.rest) (append-nil far.come) (Consumes-trans _ _ _ _ _ far.took took)

    taken_then : (later : Held) (source_after : Source) (halt : Halt) → Refills bytes most after later source_now source_after before device gathered left (Err halt) → Consumes source.rest source_after.rest far.come
    taken_then later source_after (halt.Unsent sent) unread = subst (λ (s : Source). Consumes source.rest s.rest far.come) (sym unread.source_same) far.took
    taken_then later source_after halt.NoRecord behind = absurd behind.piece
    taken_then later source_after halt.Fault behind = taken_more source_after behind.piece.took
    taken_then later source_after halt.Bound behind = subst (λ (s : Source). Consumes source.rest s.rest far.come) (sym behind.piece.same) far.took

    pub reason_to_read_no_more : (later : Held) (source_after : Source) (halt : Halt) → Refills bytes most after later source_now source_after before device gathered left (Err halt) →
        (answer : RunError) → answer ≡ stopped_by halt count bytes (length left) → IsForItsReason n meanings first new most (devices source source_after sink device) (ending_of (Err answer))
    unfolding idle
    reason_to_read_no_more later source_after halt refills answer is =
        reason_of_all n meanings first most source sink new source_now sink_after after count bytes still source_after device (taken_then later source_after halt refills) all_handled (ending_of (Err answer))
        (reads_by laws n meanings first most source sink output now source_now sink_now held count bytes far after new sink_after before device gathered left shown may tell none later source_after halt refills answer is)
        new refl

    pub reason_to_end : (later : Held) (source_after : Source) → IsReadBehind bytes most after later source_now source_after before device gathered left (Ok false) → (report : Report) →
        report.records ≡ count → report.bytes ≡ bytes → (answer : Result Report RunError) → answer ≡ ended_by later.bytes report →
        IsForItsReason n meanings first new most (devices source source_after sink device) (ending_of answer)
    unfolding idle
    reason_to_end later source_after behind report many long answer is =
        reason_of_all n meanings first most source sink new source_now sink_after after count bytes still source_after device (taken_more source_after behind.piece.took) all_handled (ending_of answer)
        (ends_by laws n meanings first most source sink output now source_now sink_now held count bytes far after new sink_after before device gathered left shown may tell none later source_after behind report many long answer is)
        new refl

-- ---- a whole run

pub runs_for : (IsClosed : Hosted → Type 0) (pairs : List TablePair) (members : List Member) (most : ℕ) (d : Devices) (h : Hosted) → in_numbers h ≡ first_host members → (end : Hosted) → IsClosed end → (ending : Ending) →
    IsForItsReason (length pairs) (meanings_of pairs) h end most d ending → RunsForItsReason IsClosed pairs members most d ending
runs_for IsClosed pairs members most d h is end closed (Complete entries count) reason = record { first = h; begins = is; end = end; reason = reason; closed = closed }
runs_for IsClosed pairs members most d h is end closed (Uncompiled text refusal) reason = tt
runs_for IsClosed pairs members most d h is end closed (MetNoRecord number) reason = record { first = h; begins = is; end = end; reason = reason; closed = closed }
runs_for IsClosed pairs members most d h is end closed (MetTheEnd number) reason = record { first = h; begins = is; end = end; reason = reason; closed = closed }
runs_for IsClosed pairs members most d h is end closed FailedToRead reason = record { first = h; begins = is; end = end; reason = reason; closed = closed }
runs_for IsClosed pairs members most d h is end closed (FailedToWrite sent) reason = record { first = h; begins = is; end = end; reason = reason; closed = closed }
runs_for IsClosed pairs members most d h is end closed ReachedTheBound reason = record { first = h; begins = is; end = end; reason = reason; closed = closed }
runs_for IsClosed pairs members most d h is end closed NoMemory reason = tt

module _ (AreInStock : List Member → Type 0) (IsClosed : Hosted → Type 0) (m : Mission) (d : Devices) where
  pub answers_for : (pairs : List TablePair) → AreAllCompiled m.sources pairs → (members : List Member) → AreInStock members → (ending : Ending) →
      RunsForItsReason IsClosed pairs members m.most_reads d ending → AnswersForItsReason AreInStock IsClosed m d ending
  answers_for pairs compiled members stock (Complete entries count) run = record { pairs = pairs; compiled = compiled; members = members; stock = stock; run = run }
  answers_for pairs compiled members stock (Uncompiled text refusal) run = tt
  answers_for pairs compiled members stock (MetNoRecord number) run = record { pairs = pairs; compiled = compiled; members = members; stock = stock; run = run }
  answers_for pairs compiled members stock (MetTheEnd number) run = record { pairs = pairs; compiled = compiled; members = members; stock = stock; run = run }
  answers_for pairs compiled members stock FailedToRead run = record { pairs = pairs; compiled = compiled; members = members; stock = stock; run = run }
  answers_for pairs compiled members stock (FailedToWrite sent) run = record { pairs = pairs; compiled = compiled; members = members; stock = stock; run = run }
  answers_for pairs compiled members stock ReachedTheBound run = record { pairs = pairs; compiled = compiled; members = members; stock = stock; run = run }
  answers_for pairs compiled members stock NoMemory run = tt

  -- where a text does not compile, or memory is lacking before the run begins
  pub none_answered : (sources : List (List ℕ)) (e : RunError) → IsNotCompiled sources e → AnswersForItsReason AreInStock IsClosed m d (ending_of (Err e))
  none_answered sources (error.Compile number fault) first = tt
  none_answered sources error.Memory not = tt
  none_answered sources (error.BadRecord n) not = absurd not
  none_answered sources (error.Truncated n) not = absurd not
  none_answered sources error.Read not = absurd not
  none_answered sources (error.Write sent) not = absurd not
  none_answered sources error.ReadBound not = absurd not
