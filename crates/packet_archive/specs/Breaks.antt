-- The steps back in time that an import reports, beside those of the stream that it writes. This project's own.
use Rattle.std.specs.Prelude.{◌≡◌, ℕ, ◌<◌, ◌^◌, List, [], ◌∷◌, ◌++◌, flat_map, slice_index, Option, Some, None, if◌then◌else◌}
use Rattle.lc_model.specs.declared.record.Moment.{Moment}
use Rattle.lc_model.specs.Host.Stream.{Contents, StreamEntry, records_of}
use Rattle.lc_model.specs.Host.Stream as stream
use Rattle.stream_script.specs.Front.{any_text}
use Rattle.packet_archive.specs.declared.clock.TimeBreak.{TimeBreak}
use Rattle.packet_archive.specs.declared.import.Met.{Met}
use Rattle.packet_archive.specs.declared.import.Met.TheVariants.{Taken}
use Rattle.packet_archive.specs.Clock.{Clocked, is_before}
use Rattle.packet_archive.specs.Import.{Asking, imported}
use Rattle.packet_archive.specs.Parts.{parts_of}

-- ---- the steps back of a stream

-- the moment of a record, if it brings a packet
abbrev pub moment_with : Moment → Contents → List Moment
moment_with moment (stream.Packet bytes) = moment ∷ []
moment_with moment contents = []

-- the moments of the packets that a stream brings, in order
abbrev pub moments_in : List ℕ → List Moment
moments_in bytes = flat_map (λ (entry : StreamEntry). moment_with entry.moment entry.contents) (records_of any_text bytes).0

-- the step back from one moment to the next, if it is one
abbrev pub step_back : Moment → Moment → List TimeBreak
step_back last moment = if is_before moment last then record { from = last; to = moment } ∷ [] else []

-- the steps back among moments, of which this one comes first
unfoldable pub steps_back : Moment → List Moment → List TimeBreak
steps_back last [] = []
steps_back last (moment ∷ moments) = step_back last moment ++ steps_back moment moments

-- ---- those that are reported

-- the step back of a break in time, if it is no leap
abbrev pub back_of : Option TimeBreak → List TimeBreak
back_of None = []
back_of (Some times) = if is_before times.to times.from then times ∷ [] else []

-- the step back that is reported of what was met
abbrev pub reported : Met → List TimeBreak
reported (Taken size before mid count time_break) = back_of time_break
reported met = []

-- a moment as a record has it
pub record IsMoment (moment : Moment) : Type 0 where
  pub seconds : moment.seconds < 2 ^ 32
  pub subseconds : moment.subseconds < 2 ^ 16

-- The steps back that an import reports are those between one packet of the stream and the next, each with its two moments; the first
-- packet is compared with the one taken before it.
abbrev pub StepsBackAreReported : Type 0
StepsBackAreReported = (asking : Asking) (clock : Clocked) (archive : List ℕ) → ((place : ℕ) → slice_index archive place < 256) → IsMoment clock.last →
    flat_map (λ (part : Met × List ℕ). reported part.0) (parts_of asking clock archive)
    ≡ steps_back clock.last (moments_in (imported asking clock archive).written)
