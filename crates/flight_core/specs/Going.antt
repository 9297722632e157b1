-- The steps of a run: a record is handled, a piece is read, output is given to the device, or the run stops.
use Rattle.std.specs.Prelude.{◌≡◌, ℕ, ◌+◌, ◌<◌, ◌≤◌, Bool, true, false, List, [], ◌++◌, length, take, Option, Some, None, Result, Ok, Err}
use Rattle.std.specs.Io.KnownBytes.{Appends, Consumes, IsAtEnd, Keeps}
use Rattle.lc_model.specs.Device.{Source, Sink, NoWriteRetried}
use Rattle.lc_model.specs.Host.Run.{input_of}
use Rattle.lc_model.specs.Host.Stream.{StreamEntry, Record, NoRecord}
use Rattle.lc_model.specs.Tables.Interpretation.{FileMeanings}
use Rattle.app_host.specs.Hosted.{Hosted}
use Rattle.app_host.specs.Step.{IsBetween, party_of, called_for, StepsWhole, StepsPart}
use Rattle.app_host.specs.Party.{AreKnownIn}
use Rattle.host_refinement.specs.Statements.{AreBytes}
use Rattle.flight_core.specs.declared.halt.Halt.{Halt}
use Rattle.flight_core.specs.declared.halt.Halt.TheVariants as halt
use Rattle.flight_core.specs.Front.{part_of}
use Rattle.flight_core.specs.Gathered.{with_held, IsStuck}
use Rattle.flight_core.specs.Records.{Held, first_record, front_of, next_number, piece_size}
use Rattle.flight_core.specs.Steps.{IsOneStep, IsCutStep}

-- ---- the next record

-- The next record is taken off the unread bytes.
pub record IsNext (old new : Held) : Type 0 where
  pub entry : StreamEntry
  pub rest : List ℕ
  pub front : front_of old ≡ Record entry rest
  pub shorter : length rest < length old.bytes
  pub goes : new ≡ record old { bytes = rest; last = first_record old.bytes; count = next_number old }

module _ (meanings : FileMeanings (List ℕ)) (held after : Held) (old new : Hosted) (before now : Sink) where
  -- The record was handled, and its whole output `part` was written.
  pub record IsHandled (total : ℕ) : Type 0 where
    pub next : IsNext held after
    pub between : IsBetween new
    pub steps : StepsWhole next.entry.moment (input_of meanings next.entry.contents) old new before now
    pub count : AreKnownIn (party_of (input_of meanings next.entry.contents)) old → total ≡ length (called_for next.entry.moment (input_of meanings next.entry.contents) old)
    pub part : List ℕ
    pub step : IsOneStep meanings next.entry old new part
    pub gains : Appends before.gained now.gained part
    pub counted : total ≡ length part

  -- A write failed after `sent` bytes of the record's output.
  pub record IsCutShort (sent : ℕ) : Type 0 where
    pub next : IsNext held after
    pub between : IsBetween new
    pub steps : StepsPart next.entry.moment (input_of meanings next.entry.contents) sent old new before now
    pub part : List ℕ
    pub step : IsCutStep meanings next.entry sent old new part
    pub gains : Appends before.gained now.gained (take sent part)

  -- There is no whole record yet, fewer bytes are unread than a longest record has (11 + 65,536), and nothing changes.
  pub record NoneIsHeld : Type 0 where
    pub front : front_of held ≡ part_of held.bytes
    pub few : length held.bytes < 65547
    pub same : after ≡ held
    pub host : new ≡ old
    pub idle : now ≡ before

  -- The next record is bad; its bytes stay, and no more are taken.
  pub record MeetsNone : Type 0 where
    pub front : front_of held ≡ NoRecord
    pub goes : after ≡ record held { is_bad = true }
    pub host : new ≡ old
    pub idle : now ≡ before

  -- The effect, by the result.
  abbrev pub HandlesNext : Result (Option ℕ) Halt → Type 0
  HandlesNext (Ok (Some total)) = IsHandled total
  HandlesNext (Ok None) = NoneIsHeld
  HandlesNext (Err halt.NoRecord) = MeetsNone
  HandlesNext (Err (halt.Unsent sent)) = IsCutShort sent
  HandlesNext (Err halt.Fault) = ⊥
  HandlesNext (Err halt.Bound) = ⊥

-- ---- collected output

module _ (written : ℕ) (before after : Sink) (held left : List ℕ) where
  -- The device has taken all output.
  pub record IsSettled : Type 0 where
    pub keeps : Keeps (with_held before held).gained (with_held after left).gained
    pub none_left : 0 < written → left ≡ []
    pub fine : after.failed ≡ before.failed
    pub not_retried : NoWriteRetried before after

  -- The device failed after a part of the collected output; the rest stays collected, and nothing of the next record's output
  -- was taken.
  pub record IsHeldUp (sent : ℕ) : Type 0 where
    pub none_of_the_next : sent ≡ 0
    pub some : 0 < written
    pub stuck : IsStuck before after held left

  -- `IsSettled` if no write failed, else `IsHeldUp`.
  abbrev pub Settles : Result (Unit {0}) Halt → Type 0
  Settles (Ok none) = IsSettled
  Settles (Err (halt.Unsent sent)) = IsHeldUp sent
  Settles (Err halt.NoRecord) = ⊥
  Settles (Err halt.Fault) = ⊥
  Settles (Err halt.Bound) = ⊥

  -- Before a run stops at a bad record, the device is given all output; if it fails then, that is the reason in place of the bad
  -- record. For any other reason nothing more is given.
  abbrev pub EndsFor : Halt → Halt → Type 0
  EndsFor halt.NoRecord halt.NoRecord = IsSettled
  EndsFor halt.NoRecord (halt.Unsent sent) = IsHeldUp sent
  EndsFor halt.NoRecord halt.Fault = ⊥
  EndsFor halt.NoRecord halt.Bound = ⊥
  EndsFor reason then = (then ≡ reason) × (after ≡ before) × (left ≡ held)

-- ---- the next piece

module _ (most : ℕ) (held after : Held) (before now : Source) where
  -- A piece was read and appended.
  pub record Comes : Type 0 where
    pub piece : List ℕ
    pub took : Consumes before.rest now.rest piece
    pub some : 0 < length piece
    pub few : length piece ≤ piece_size
    pub are : AreBytes piece
    pub goes : after ≡ record held { bytes = held.bytes ++ piece; last = [] }
    pub fine : now.failed ≡ before.failed
    pub one : now.reads ≡ before.reads + 1

  -- The stream has ended.
  pub record IsOver : Type 0 where
    pub took : Consumes before.rest now.rest []
    pub at_the_end : IsAtEnd now.rest
    pub same : after ≡ held
    pub fine : now.failed ≡ before.failed
    pub one : now.reads ≡ before.reads + 1

  -- A read failed.
  pub record IsBroken : Type 0 where
    pub took : Consumes before.rest now.rest []
    pub failed : now.failed ≡ true
    pub one : now.reads ≡ before.reads + 1

  -- The most reads were made; no further one is.
  pub record IsAtBound : Type 0 where
    pub same : now ≡ before
    pub bound : before.reads ≡ most

  -- The effect, by the result.
  abbrev pub TakesPiece : Result Bool Halt → Type 0
  TakesPiece (Ok true) = Comes
  TakesPiece (Ok false) = IsOver
  TakesPiece (Err halt.Fault) = IsBroken
  TakesPiece (Err halt.Bound) = IsAtBound
  TakesPiece (Err halt.NoRecord) = ⊥
  TakesPiece (Err (halt.Unsent sent)) = ⊥

-- ---- output before a read

module _ (written most : ℕ) (records_held records_after : Held) (source source_after : Source) (before after : Sink) (held left : List ℕ) where
  -- The device had all output before the read.
  pub record IsReadBehind (result : Result Bool Halt) : Type 0 where
    pub settled : IsSettled written before after held left
    pub piece : TakesPiece most records_held records_after source source_after result

  -- The device failed, and nothing was read.
  pub record IsUnread (sent : ℕ) : Type 0 where
    pub held_up : IsHeldUp written before after held left sent
    pub source_same : source_after ≡ source
    pub records_same : records_after ≡ records_held

  -- The effect, by the result.
  abbrev pub Refills : Result Bool Halt → Type 0
  Refills (Err (halt.Unsent sent)) = IsUnread sent
  Refills (Err halt.NoRecord) = IsReadBehind (Err halt.NoRecord)
  Refills (Err halt.Fault) = IsReadBehind (Err halt.Fault)
  Refills (Err halt.Bound) = IsReadBehind (Err halt.Bound)
  Refills (Ok came) = IsReadBehind (Ok came)
