-- How a run ends, and what it has read from its stream and written to its output. This project's own.
use Rattle.std.specs.Prelude.{◌≡◌, ℕ, ◌<◌, ◌≤◌, true, false, List, ◌++◌, length, take, Option, ⊤}
use Rattle.std.specs.Io.KnownBytes.{Appends, Consumes, IsAtEnd}
use Rattle.lc_model.specs.Device.{Source, Sink}
use Rattle.lc_model.specs.Text.Reading.{TextRefusal}
use Rattle.lc_model.specs.Host.Stream.{StreamEntry, End, Whole, Bad}
use Rattle.lc_model.specs.Host.Stream as stream

-- ---- devices

-- A source and a sink, before and after the run.
pub record Devices : Type 0 where
  pub source : Source
  pub source_after : Source
  pub sink : Sink
  pub sink_after : Sink

-- The four as a record.
abbrev pub devices : (source source_after : Source) → (sink sink_after : Sink) → Devices
devices source source_after sink sink_after =
    record { source = source; source_after = source_after; sink = sink; sink_after = sink_after }

-- Nothing was read or written, and no read or write failed.
pub record IsUntouched (d : Devices) : Type 0 where
  pub left : d.source_after.rest ≡ d.source.rest
  pub reads : d.source_after.reads ≡ 0
  pub no_read_failed : d.source_after.failed ≡ false
  pub gained : d.sink_after.gained ≡ d.sink.gained
  pub no_write_failed : d.sink_after.failed ≡ false

-- ---- endings

-- The result of a run: `Complete` with the numbers of records and bytes; a text that does not compile, by its number from 0, with its
-- refusal (`None` if the compiler lacked memory: a run then ends with `NoMemory`); a bad record (141) or a record cut by the end of
-- the stream (142), by its number from 1; a failed read (143); a failed write after `sent` bytes (144); the bound of reads (145); or no
-- memory.
pub data Ending : Type 0 where
  Complete : (records bytes : ℕ) → Ending
  Uncompiled : (text : ℕ) (refusal : Option TextRefusal) → Ending
  MetNoRecord : (number : ℕ) → Ending
  MetTheEnd : (number : ℕ) → Ending
  FailedToRead : Ending
  FailedToWrite : (sent : ℕ) → Ending
  ReachedTheBound : Ending
  NoMemory : Ending

-- The result of a run in which nothing fails: the counts if the stream ends after a whole record, else 141 or 142 with the
-- record's number.
abbrev pub answer : List StreamEntry × End → (bytes : ℕ) → Ending
answer (entries, Whole) bytes = Complete (length entries) bytes
answer (entries, Bad number) bytes = MetNoRecord number
answer (entries, stream.Truncated number) bytes = MetTheEnd number

-- The records do not end at a bad one, so that more bytes may be read.
abbrev pub MayGoOn : End → Type 0
MayGoOn (Bad number) = ⊥
MayGoOn other = ⊤

-- ---- outcomes: `records` gives the records of some bytes, `output` the bytes that records call for

module _ (records : List ℕ → List StreamEntry × End) (output : List StreamEntry → List ℕ) (most_reads : ℕ) (d : Devices) where
  -- The run read exactly `bytes`, and wrote the whole output of their records, up to a bad or cut one.
  pub record TookAndWrote (bytes : List ℕ) : Type 0 where
    pub took : Consumes d.source.rest d.source_after.rest bytes
    pub wrote : Appends d.sink.gained d.sink_after.gained (output (records bytes).0)
    pub no_write_failed : d.sink_after.failed ≡ false

  -- The stream ended after a whole record: `entries` records, `count` bytes of output.
  pub record Completes (entries count : ℕ) : Type 0 where
    pub bytes : List ℕ
    pub so : TookAndWrote bytes
    pub whole : (records bytes).1 ≡ Whole
    pub at_the_end : IsAtEnd d.source_after.rest
    pub no_read_failed : d.source_after.failed ≡ false
    pub records_counted : entries ≡ length (records bytes).0
    pub bytes_counted : count ≡ length (output (records bytes).0)

  -- Record `number` is bad (141), whatever bytes follow those that were read.
  pub record MeetsNoRecord (number : ℕ) : Type 0 where
    pub bytes : List ℕ
    pub so : TookAndWrote bytes
    pub bad : (rest : List ℕ) → records (bytes ++ rest) ≡ ((records bytes).0, Bad number)
    pub no_read_failed : d.source_after.failed ≡ false

  -- The stream ended inside record `number` (142).
  pub record MeetsTheEnd (number : ℕ) : Type 0 where
    pub bytes : List ℕ
    pub so : TookAndWrote bytes
    pub cut : (records bytes).1 ≡ stream.Truncated number
    pub at_the_end : IsAtEnd d.source_after.rest
    pub no_read_failed : d.source_after.failed ≡ false

  -- A read failed (143); the bytes read before have no bad record.
  pub record FailsToRead : Type 0 where
    pub bytes : List ℕ
    pub so : TookAndWrote bytes
    pub good : MayGoOn (records bytes).1
    pub failed : d.source_after.failed ≡ true

  -- `most_reads` reads were made, which read at least as many bytes (145), and none of the records so far is bad. So the stream is at
  -- least that long; whether it ends there no read has told.
  pub record ReachesTheBound : Type 0 where
    pub bytes : List ℕ
    pub so : TookAndWrote bytes
    pub good : MayGoOn (records bytes).1
    pub bound : d.source_after.reads ≡ most_reads
    pub each : d.source_after.reads ≤ length bytes
    pub no_read_failed : d.source_after.failed ≡ false

  -- A write failed (144): the sink took exactly the first `sent` bytes of the output.
  pub record FailsToWrite (sent : ℕ) : Type 0 where
    pub bytes : List ℕ
    pub took : Consumes d.source.rest d.source_after.rest bytes
    pub wrote : Appends d.sink.gained d.sink_after.gained (take sent (output (records bytes).0))
    pub fewer : sent < length (output (records bytes).0)
    pub failed : d.sink_after.failed ≡ true
    pub no_read_failed : d.source_after.failed ≡ false

  -- What holds of the devices for each result of a run that started.
  abbrev pub IsOutcome : Ending → Type 0
  IsOutcome (Complete entries count) = Completes entries count
  IsOutcome (MetNoRecord number) = MeetsNoRecord number
  IsOutcome (MetTheEnd number) = MeetsTheEnd number
  IsOutcome FailedToRead = FailsToRead
  IsOutcome ReachedTheBound = ReachesTheBound
  IsOutcome (FailedToWrite sent) = FailsToWrite sent
  IsOutcome (Uncompiled text refusal) = ⊥
  IsOutcome NoMemory = ⊥
