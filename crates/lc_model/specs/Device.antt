-- Byte sources and sinks: what a read takes and what a write adds. This project's own, after the readers and writers of Rust's
-- standard library. If the bytes before a call are known, so are those after it.
use Rattle.std.specs.Prelude.{◌≡◌, ℕ, ◌+◌, ◌-◌, ◌^◌, ◌<◌, ◌≤◌, ◌||◌, Bool, true, false, min, List, length, take, Option}
use Rattle.std.specs.Io.KnownBytes.{Appends, Consumes, IsAtEnd, Keeps}

-- A source: its unread bytes (or unknown), the number of reads so far including failed ones (capped at 2 ^ 64 - 1), whether a read
-- has failed, and whether a read came after a failed one.
pub record Source : Type 0 where
  pub rest : Option (List ℕ)
  pub reads : ℕ
  pub failed : Bool
  pub retried : Bool

-- A sink: the bytes that it has taken (or unknown), whether a write has failed, and whether a write came after a failed one.
pub record Sink : Type 0 where
  pub gained : Option (List ℕ)
  pub failed : Bool
  pub retried : Bool

-- ---- one call

-- The count of calls after one more.
abbrev pub one_call_more : ℕ → ℕ
one_call_more calls = min (calls + 1) (2 ^ 64 - 1)

-- A read of `count` bytes succeeded: they are the next unread bytes and stand at the start of the buffer; `count` is 0 only at
-- the end of the source.
pub record ReadsSome (before now : Source) (count : ℕ) (buffer : List ℕ) : Type 0 where
  pub fits : count ≤ length buffer
  pub takes : Consumes before.rest now.rest (take count buffer)
  pub at_the_end : count ≡ 0 → IsAtEnd now.rest
  pub as_before : now.failed ≡ before.failed

-- A write succeeded: the sink took the first `count` of the offered bytes, at least one.
pub record WritesSome (before now : Sink) (count : ℕ) (offered : List ℕ) : Type 0 where
  pub some : 0 < count
  pub fits : count ≤ length offered
  pub gains : Appends before.gained now.gained (take count offered)
  pub as_before : now.failed ≡ before.failed

-- A read or a write failed: no byte moved, and the device remembers the failure.
pub record ReadFails (before now : Source) : Type 0 where
  pub unmoved : Keeps before.rest now.rest
  pub remembered : now.failed ≡ true

pub record WriteFails (before now : Sink) : Type 0 where
  pub unmoved : Keeps before.gained now.gained
  pub remembered : now.failed ≡ true

-- ---- calls after a failed one

-- `retried` after one more call of a device.
abbrev pub retried_by_call : (failed retried : Bool) → Bool
retried_by_call failed retried = failed || retried

-- If no read had failed before, none came after a failed one.
abbrev pub NoReadRetried : Source → Source → Type 0
NoReadRetried before now = before.failed ≡ false → now.retried ≡ before.retried

-- If no write had failed before, none came after a failed one.
abbrev pub NoWriteRetried : Sink → Sink → Type 0
NoWriteRetried before now = before.failed ≡ false → now.retried ≡ before.retried

-- ---- output cut short

-- The sink took only the first `sent` of these bytes, and a write failed.
pub record IsCutShort (before now : Sink) (bytes : List ℕ) (sent : ℕ) : Type 0 where
  pub fewer : sent < length bytes
  pub gains : Appends before.gained now.gained (take sent bytes)
  pub remembered : now.failed ≡ true
