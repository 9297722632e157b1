-- How the loop over records ends, by the device behind its sink.
use Rattle.std.proofs.Common.{◌≡◌, refl, sym, ◌∙◌, ap, subst, ℕ, ◌<◌, List, [], length, Result, Ok, Err, false}
use Rattle.std.specs.Prelude.{⊤}
use Rattle.std.specs.Io.KnownBytes.{Appends, Keeps, append_known}
use Rattle.lc_model.specs.Device.{Source, Sink}
use Rattle.lc_model.specs.Tables.Interpretation.{FileMeanings}
use Rattle.lc_model.specs.Host.Outcome.{IsOutcome, devices}
use Rattle.lc_model.specs.Host.Stream.{StreamEntry, records_of}
use Rattle.host_refinement.specs.Statements.{AreBrought}
use Rattle.app_host.specs.Hosted.{Hosted}
use Rattle.flight_core.specs.declared.error.Report.{Report}
use Rattle.flight_core.specs.declared.error.RunError.{RunError}
use Rattle.flight_core.specs.declared.halt.Halt.{Halt}
use Rattle.flight_core.specs.declared.halt.Halt.TheVariants as halt
use Rattle.app_host.specs.Step.{IsBetween}
use Rattle.flight_core.specs.Cutting.{Begins}
use Rattle.flight_core.specs.Ending.{ending_of}
use Rattle.flight_core.specs.Flight.{AreAllKnown, written_by, stopped_by, ended_by}
use Rattle.flight_core.specs.Front.{part_of}
use Rattle.flight_core.specs.Gathered.{with_held, none_held, MayHold}
use Rattle.flight_core.specs.Going.{NoneIsHeld, IsSettled, EndsFor, HandlesNext, IsReadBehind, Refills}
use Rattle.flight_core.specs.Records.{Held, front_of, nothing_held}
use Rattle.flight_core.proofs.Courses.{SoFar, nothing_yet, idle, told_of}
use Rattle.flight_core.proofs.Endings.{IsWritten, IsCut, Laws, by_profile, cut_by_profile, fails_at_device, held_up, handed_out, handed_out_before, meets_none_there, stops_reading, ends_there}
use Rattle.flight_core.proofs.HeldOutput.{kept_behind, reached_all}

-- ---- nothing was given yet

-- a sink that holds nothing shows its device
pub shows_device : (view device : Sink) (held : List ℕ) → view ≡ with_held device held → held ≡ [] → view ≡ device
shows_device view device held shown none = shown ∙ ap (with_held device) none ∙ none_held device

pub begins_so : (n : ℕ) (meanings : FileMeanings (List ℕ)) (first : Hosted) → Begins → (source : Source) (sink view : Sink) (held : Held) → view ≡ sink → held ≡ nothing_held n → IsBetween first →
    first.is_closed ≡ false → source.reads ≡ 0 → source.failed ≡ false → sink.failed ≡ false → SoFar n meanings first source sink first source view held 0 0
begins_so n meanings first begins source sink view held shown nothing between is_open unread readable writable =
    subst (λ (s : Sink). SoFar n meanings first source sink first source s held 0 0) (sym shown)
    (nothing_yet n meanings first begins source sink held nothing between is_open unread readable writable)

-- ---- what was given

module _ (n : ℕ) (meanings : FileMeanings (List ℕ)) (first : Hosted) (source : Source) (sink : Sink) (now : Hosted) (source_now : Source) (sink_now : Sink) (held : Held) (count bytes : ℕ)
    (far : SoFar n meanings first source sink now source_now sink_now held count bytes)
    (before device : Sink) (gathered left : List ℕ) (shown : sink_now ≡ with_held before gathered) (settled : IsSettled bytes before device gathered left) where
  pub fine : device.failed ≡ sink_now.failed
  fine = settled.fine ∙ ap (λ (s : Sink). s.failed) (sym shown)

  pub not_retried : device.retried ≡ sink_now.retried
  not_retried = settled.not_retried (ap (λ (s : Sink). s.failed) (sym shown) ∙ far.writable) ∙ ap (λ (s : Sink). s.retried) (sym shown)

  pub keeps : Keeps sink_now.gained (append_known device.gained left)
  keeps = subst (λ (s : Sink). Keeps s.gained (append_known device.gained left)) (sym shown) settled.keeps

  -- as the sink shows it then
  pub goes_on_behind : (sink_after : Sink) → sink_after ≡ with_held device left → SoFar n meanings first source sink now source_now sink_after held count bytes
  goes_on_behind sink_after is = told_of n meanings first source sink now source_now sink_now held count bytes far sink_after (ap (λ (s : Sink). s.failed) is ∙ fine)
      (ap (λ (s : Sink). s.retried) is ∙ not_retried)
      (λ written long gains. subst (λ (s : Sink). Appends sink.gained s.gained written) (sym is) (kept_behind sink.gained sink_now.gained (append_known device.gained left) written gains keeps))

  -- and as the device has it
  unfoldable pub is_with_device : MayHold sink.gained device.gained left → SoFar n meanings first source sink now source_now device held count bytes
  is_with_device may = told_of n meanings first source sink now source_now sink_now held count bytes far device fine not_retried
      (λ written long gains. reached_all sink.gained device.gained left written may (λ some. settled.none_left (subst (λ k. 0 < k) (sym long) some))
      (kept_behind sink.gained sink_now.gained (append_known device.gained left) written gains keeps))

-- ---- what is answered

module _ (laws : Laws) (n : ℕ) (meanings : FileMeanings (List ℕ)) (first : Hosted) (most : ℕ) (source : Source) (sink : Sink) (output : List StreamEntry → List ℕ)
    (now : Hosted) (source_now : Source) (sink_now : Sink) (held : Held) (count bytes : ℕ) (far : SoFar n meanings first source sink now source_now sink_now held count bytes)
    (after : Held) (new : Hosted) (sink_after before device : Sink) (gathered left : List ℕ) (shown : sink_after ≡ with_held before gathered) (may : MayHold sink.gained device.gained left)
    (tell : (now' : Hosted) (source' : Source) (sink' : Sink) (held' : Held) (f : SoFar n meanings first source sink now' source' sink' held' count bytes) → f.come ≡ far.come → f.entries ≡ far.entries → f.parts ≡ far.parts →
    IsWritten n output f.come f.entries sink.gained sink'.gained bytes) where
  abbrev pub w : IsWritten n output far.come far.entries sink.gained sink_now.gained bytes
  w = tell now source_now sink_now held far refl refl refl

  -- what is known of a record that is not written whole
  abbrev pub CutSo : Halt → Type 0
  CutSo (halt.Unsent sent) = IsCut (output (records_of n far.come).0) w.written sink_now sink_after sent
  CutSo other = ⊤

  -- a record that is none, or that is not written whole
  stops : (halt then : Halt) → HandlesNext meanings held after now new sink_now sink_after (Err halt) → CutSo halt → EndsFor bytes before device gathered left halt then →
      IsOutcome (records_of n) output most (devices source source_now sink device) (ending_of (Err (stopped_by then count bytes (length left))))
  unfolding is_with_device told_of
  stops halt.NoRecord halt.NoRecord none cut settled =
      let here : sink_now ≡ with_held before gathered = sym none.idle ∙ shown in
      let f = is_with_device n meanings first source sink now source_now sink_now held count bytes far before device gathered left here settled may in
      meets_none_there laws n meanings first most source sink output now source_now device held count bytes f (tell now source_now device held f refl refl refl) none.front
  stops halt.NoRecord (halt.Unsent sent) none cut stuck =
      held_up laws n meanings first most source sink output now source_now sink_now held count bytes far w
      (handed_out_before laws n meanings first most source sink output now source_now sink_now held count bytes far w none.front)
      before device gathered left sent (sym none.idle ∙ shown) stuck may
  stops halt.NoRecord halt.Fault none cut other = absurd other
  stops halt.NoRecord halt.Bound none cut other = absurd other
  stops (halt.Unsent sent) then handles cut ended =
      subst (λ (t : Halt). IsOutcome (records_of n) output most (devices source source_now sink device) (ending_of (Err (stopped_by t count bytes (length left))))) (sym ended.0)
      (fails_at_device laws n meanings first most source sink output now source_now sink_now held count bytes far w sink_after sent cut device left
      (shown ∙ (λ i. with_held (sym ended.1 i) (sym ended.2 i))) may)
  stops halt.Fault then handles cut ended = absurd handles
  stops halt.Bound then handles cut ended = absurd handles

  pub stops_by : (halt then : Halt) → HandlesNext meanings held after now new sink_now sink_after (Err halt) → CutSo halt → EndsFor bytes before device gathered left halt then →
      (answer : RunError) → answer ≡ stopped_by then count bytes (length left) → IsOutcome (records_of n) output most (devices source source_now sink device) (ending_of (Err answer))
  stops_by halt then handles cut ended answer is =
      subst (λ (e : RunError). IsOutcome (records_of n) output most (devices source source_now sink device) (ending_of (Err e))) (sym is) (stops halt then handles cut ended)

  module _ (none : NoneIsHeld meanings held after now new sink_now sink_after) where
    abbrev still : SoFar n meanings first source sink new source_now sink_after after count bytes
    still = idle n meanings first source sink now source_now sink_now held count bytes far after new sink_after none

    w_still : IsWritten n output still.come still.entries sink.gained sink_after.gained bytes
    unfolding idle
    w_still = tell new source_now sink_after after still refl refl refl

    in_part : front_of after ≡ part_of after.bytes
    in_part = subst (λ (h : Held). front_of h ≡ part_of h.bytes) (sym none.same) none.front

    abbrev with_device : IsSettled bytes before device gathered left → SoFar n meanings first source sink new source_now device after count bytes
    with_device settled = is_with_device n meanings first source sink new source_now sink_after after count bytes still before device gathered left shown settled may

    read_behind : (later : Held) (source_after : Source) (halt : Halt) → IsReadBehind bytes most after later source_now source_after before device gathered left (Err halt) →
        IsOutcome (records_of n) output most (devices source source_after sink device) (ending_of (Err (stopped_by halt count bytes (length left))))
    unfolding is_with_device told_of idle
    read_behind later source_after halt behind =
        let f = with_device behind.settled in
        stops_reading laws n meanings first most source sink output new source_now device after count bytes f (tell new source_now device after f refl refl refl) in_part later source_after halt (length left) behind.piece

    -- a read that failed or may not be made, or the device before it
    refill_stops : (later : Held) (source_after : Source) (halt : Halt) → Refills bytes most after later source_now source_after before device gathered left (Err halt) →
        IsOutcome (records_of n) output most (devices source source_after sink device) (ending_of (Err (stopped_by halt count bytes (length left))))
    refill_stops later source_after (halt.Unsent sent) unread =
        subst (λ (s : Source). IsOutcome (records_of n) output most (devices source s sink device) (ending_of (Err (stopped_by (halt.Unsent sent) count bytes (length left))))) (sym unread.source_same)
        (held_up laws n meanings first most source sink output new source_now sink_after after count bytes still w_still
        (handed_out laws n meanings first most source sink output new source_now sink_after after count bytes still w_still in_part)
        before device gathered left sent shown unread.held_up may)
    refill_stops later source_after halt.NoRecord behind = read_behind later source_after halt.NoRecord behind
    refill_stops later source_after halt.Fault behind = read_behind later source_after halt.Fault behind
    refill_stops later source_after halt.Bound behind = read_behind later source_after halt.Bound behind

    pub reads_by : (later : Held) (source_after : Source) (halt : Halt) → Refills bytes most after later source_now source_after before device gathered left (Err halt) →
        (answer : RunError) → answer ≡ stopped_by halt count bytes (length left) → IsOutcome (records_of n) output most (devices source source_after sink device) (ending_of (Err answer))
    reads_by later source_after halt refills answer is =
        subst (λ (e : RunError). IsOutcome (records_of n) output most (devices source source_after sink device) (ending_of (Err e))) (sym is) (refill_stops later source_after halt refills)

    -- the end of the stream
    pub ends_by : (later : Held) (source_after : Source) → IsReadBehind bytes most after later source_now source_after before device gathered left (Ok false) → (report : Report) →
        report.records ≡ count → report.bytes ≡ bytes → (answer : Result Report RunError) → answer ≡ ended_by later.bytes report →
        IsOutcome (records_of n) output most (devices source source_after sink device) (ending_of answer)
    unfolding is_with_device told_of idle
    ends_by later source_after behind report many long answer is =
        let f = with_device behind.settled in
        ends_there laws n meanings first most source sink output new source_now device after count bytes f (tell new source_now device after f refl refl refl) in_part later source_after behind.piece report many long answer is

-- ---- with objects of this profile

module _ (laws : Laws) (n : ℕ) (meanings : FileMeanings (List ℕ)) (first : Hosted) (most : ℕ) (source : Source) (sink : Sink) (known : AreAllKnown first)
    (output : List StreamEntry → List ℕ) (same : (entries : List StreamEntry) → AreBrought n entries → written_by meanings first entries ≡ output entries)
    (now : Hosted) (source_now : Source) (sink_now : Sink) (held : Held) (count bytes : ℕ) (far : SoFar n meanings first source sink now source_now sink_now held count bytes)
    (after : Held) (new : Hosted) (sink_after before device : Sink) (gathered left : List ℕ) (shown : sink_after ≡ with_held before gathered) (may : MayHold sink.gained device.gained left) where
  abbrev tell : (now' : Hosted) (source' : Source) (sink' : Sink) (held' : Held) (f : SoFar n meanings first source sink now' source' sink' held' count bytes) → f.come ≡ far.come → f.entries ≡ far.entries → f.parts ≡ far.parts →
      IsWritten n output f.come f.entries sink.gained sink'.gained bytes
  tell now' source' sink' held' f come entries parts = by_profile laws n meanings first source sink known output same now' source' sink' held' count bytes f

  cut_so : (halt : Halt) → HandlesNext meanings held after now new sink_now sink_after (Err halt) →
      CutSo laws n meanings first most source sink output now source_now sink_now held count bytes far after new sink_after before device gathered left shown may tell halt
  cut_so (halt.Unsent sent) cut = cut_by_profile laws n meanings first source sink known output same now source_now sink_now held count bytes far after new sink_after sent cut
  cut_so halt.NoRecord none = tt
  cut_so halt.Fault none = tt
  cut_so halt.Bound none = tt

  pub profile_stops : (halt then : Halt) → HandlesNext meanings held after now new sink_now sink_after (Err halt) → EndsFor bytes before device gathered left halt then →
      (answer : RunError) → answer ≡ stopped_by then count bytes (length left) → IsOutcome (records_of n) output most (devices source source_now sink device) (ending_of (Err answer))
  profile_stops halt then handles ended answer is =
      stops_by laws n meanings first most source sink output now source_now sink_now held count bytes far after new sink_after before device gathered left shown may tell halt then handles
      (cut_so halt handles) ended answer is

  pub profile_reads : (none : NoneIsHeld meanings held after now new sink_now sink_after) (later : Held) (source_after : Source) (halt : Halt) →
      Refills bytes most after later source_now source_after before device gathered left (Err halt) → (answer : RunError) → answer ≡ stopped_by halt count bytes (length left) →
      IsOutcome (records_of n) output most (devices source source_after sink device) (ending_of (Err answer))
  profile_reads none later source_after halt refills answer is =
      reads_by laws n meanings first most source sink output now source_now sink_now held count bytes far after new sink_after before device gathered left shown may tell none later source_after halt refills answer is

  pub profile_ends : (none : NoneIsHeld meanings held after now new sink_now sink_after) (later : Held) (source_after : Source) →
      IsReadBehind bytes most after later source_now source_after before device gathered left (Ok false) → (report : Report) → report.records ≡ count → report.bytes ≡ bytes →
      (answer : Result Report RunError) → answer ≡ ended_by later.bytes report → IsOutcome (records_of n) output most (devices source source_after sink device) (ending_of answer)
  profile_ends none later source_after behind report many long answer is =
      ends_by laws n meanings first most source sink output now source_now sink_now held count bytes far after new sink_after before device gathered left shown may tell none later source_after behind report many long answer is
