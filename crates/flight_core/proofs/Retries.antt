-- A device that failed is not tried again.
use Rattle.std.proofs.Common.{◌≡◌, sym, ◌∙◌, ap, ℕ, false, List, Result, Ok, Err}
use Rattle.lc_model.specs.Device.{Source, Sink, NoReadRetried, NoWriteRetried}
use Rattle.lc_model.specs.Host.Outcome.{devices}
use Rattle.lc_model.specs.Tables.Interpretation.{FileMeanings}
use Rattle.app_host.specs.Hosted.{Hosted}
use Rattle.flight_core.specs.declared.halt.Halt.{Halt}
use Rattle.flight_core.specs.declared.halt.Halt.TheVariants as halt
use Rattle.flight_core.specs.Failures.{TriesNoneAgain}
use Rattle.flight_core.specs.Gathered.{with_held}
use Rattle.flight_core.specs.Going.{NoneIsHeld, EndsFor, HandlesNext, IsReadBehind, Refills}
use Rattle.flight_core.specs.Records.{Held}
use Rattle.flight_core.proofs.Courses.{SoFar}

module _ (n : ℕ) (meanings : FileMeanings (List ℕ)) (first : Hosted) (source : Source) (sink : Sink) (now : Hosted) (source_now : Source) (sink_now : Sink) (held : Held) (count bytes : ℕ)
    (far : SoFar n meanings first source sink now source_now sink_now held count bytes)
    (after : Held) (new : Hosted) (sink_after before device : Sink) (gathered left : List ℕ) (shown : sink_after ≡ with_held before gathered) where
  -- the device after the last writes
  written_then : device.retried ≡ before.retried → sink_after.retried ≡ sink_now.retried → device.retried ≡ sink.retried
  written_then given handled = given ∙ ap (λ (s : Sink). s.retried) (sym shown) ∙ handled ∙ far.not_rewritten

  -- nothing was written for the next record
  given_then : sink_after ≡ sink_now → NoWriteRetried before device → device.retried ≡ sink.retried
  given_then idle calm =
      written_then (calm (ap (λ (s : Sink). s.failed) (sym shown) ∙ ap (λ (s : Sink). s.failed) idle ∙ far.writable)) (ap (λ (s : Sink). s.retried) idle)

  -- the run stops at the next record
  pub stops_untried : (halt then : Halt) → HandlesNext meanings held after now new sink_now sink_after (Err halt) → EndsFor bytes before device gathered left halt then →
      NoWriteRetried sink_now sink_after → TriesNoneAgain (devices source source_now sink device)
  stops_untried halt.NoRecord halt.NoRecord none settled not_retried = record { reads = far.not_reread; writes = given_then none.idle settled.not_retried }
  stops_untried halt.NoRecord (halt.Unsent sent) none held_up not_retried = record { reads = far.not_reread; writes = given_then none.idle held_up.stuck.not_retried }
  stops_untried halt.NoRecord halt.Fault none other not_retried = absurd other
  stops_untried halt.NoRecord halt.Bound none other not_retried = absurd other
  stops_untried (halt.Unsent sent) then cut ended not_retried =
      record { reads = far.not_reread; writes = written_then (ap (λ (s : Sink). s.retried) ended.1) (not_retried far.writable) }
  stops_untried halt.Fault then handles ended not_retried = absurd handles
  stops_untried halt.Bound then handles ended not_retried = absurd handles

  module _ (none : NoneIsHeld meanings held after now new sink_now sink_after) (most : ℕ) (later : Held) (source_after : Source) where
    -- nothing more is read
    pub reads_untried : (halt : Halt) → Refills bytes most after later source_now source_after before device gathered left (Err halt) → NoReadRetried source_now source_after → TriesNoneAgain (devices source source_after sink device)
    reads_untried (halt.Unsent sent) unread not_retried =
        record { reads = not_retried far.readable ∙ far.not_reread; writes = given_then none.idle unread.held_up.stuck.not_retried }
    reads_untried halt.NoRecord behind not_retried = absurd behind.piece
    reads_untried halt.Fault behind not_retried = record { reads = not_retried far.readable ∙ far.not_reread; writes = given_then none.idle behind.settled.not_retried }
    reads_untried halt.Bound behind not_retried = record { reads = not_retried far.readable ∙ far.not_reread; writes = given_then none.idle behind.settled.not_retried }

    -- the stream has ended
    pub ends_untried : IsReadBehind bytes most after later source_now source_after before device gathered left (Ok false) → NoReadRetried source_now source_after → TriesNoneAgain (devices source source_after sink device)
    ends_untried behind not_retried = record { reads = not_retried far.readable ∙ far.not_reread; writes = given_then none.idle behind.settled.not_retried }
