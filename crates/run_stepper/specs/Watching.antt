-- A run over a stream that comes in pieces, whose records are shown to an observer. This project's own.
use Rattle.std.specs.Prelude.{◌≡◌, ℕ, ◌+◌, Bool, true, false, List, [], ◌∷◌, ◌++◌, length, Option, ⊤}
use Rattle.std.specs.Io.KnownBytes.{Consumes, IsAtEnd}
use Rattle.flight_core.specs.Feeding.{Feeding}
use Rattle.flight_core.specs.Records.{nothing_held}
use Rattle.run_stepper.specs.Stepping.{HandlesAlone, holding_none, host_in, written_by}
use Rattle.run_stepper.specs.Steps.{AreItsRecords, Step, Went, bytes_of}
use Rattle.run_stepper.specs.declared.ending.Ending.{Ending}
use Rattle.run_stepper.specs.declared.ending.Ending.TheVariants as ended
use Rattle.run_stepper.specs.declared.handled.Handled.{Handled}
use Rattle.run_stepper.specs.declared.handled.Handled.TheVariants.{Part}
use Rattle.run_stepper.specs.declared.stepping.Stepping.{Stepping}

-- no byte of a stream has come to this host, which is open
pub record IsNew (host : Feeding) : Type 0 where
  pub held : host.held ≡ nothing_held (length host.files)
  pub is_open : host.host.is_closed ≡ false

-- ---- reading

-- these bytes were taken from a source, and none after its end, which was reached before (`was`) or is now (`is`)
pub record Took (before now : Option (List ℕ)) (was is : Bool) (taken : List ℕ) : Type 0 where
  pub consumes : Consumes before now taken
  pub at_end : (was ≡ true → IsAtEnd before) → is ≡ true → IsAtEnd now
  pub none_behind : was ≡ true → (taken ≡ []) × (is ≡ true)

-- a host without the bytes of its stream
abbrev pub without_bytes : Feeding → Feeding
without_bytes it = record it { held = record it.held { bytes = []; last = [] } }

-- these bytes came to a host that was `first` before, and are held after the bytes that it held
pub record IsFed (taken : List ℕ) (first now : Feeding) : Type 0 where
  pub holds : now.held.bytes ≡ first.held.bytes ++ taken
  pub same : without_bytes now ≡ without_bytes first

-- an observer that had seen some bytes has seen these bytes after them, and no further record
abbrev pub SeesMore : {O : Type 0} → (O → O → List ℕ → List Step → Type 0) → (old new : O) → List ℕ → Type 0
SeesMore has_seen old new piece = (first : _) (taken : List ℕ) (steps : List Step) → has_seen first old taken steps → has_seen first new (taken ++ piece) steps

-- some bytes were taken from a source; the observer has seen them, and they came to a host, which then handled the next record: a part of
-- one only at the source's end
pub record Arrives {O : Type 0} (has_seen : O → O → List ℕ → List Step → Type 0) (before now : Option (List ℕ)) (was is : Bool) (observer observes : O) (first last : Feeding) (written : List ℕ) (found : Handled) : Type 0 where
  pub taken : List ℕ
  pub took : Took before now was is taken
  pub sees : SeesMore has_seen observer observes taken
  pub host : Feeding
  pub fed : IsFed taken first host
  pub handles : HandlesAlone host last written found
  pub ended : found ≡ Part → is ≡ true

-- ---- a whole stream

-- the record that was handled last: its bytes, the host after it, and the packets that it led to
abbrev pub step_shown : Stepping → Step
step_shown it = record { bytes = (host_in it).held.last; host = holding_none (host_in it); written = written_by it }

-- a host that was `first` before handles all records of a stream, which are these steps, and the stream ends so
pub record GoesThrough (first : Feeding) (stream : List ℕ) (steps : List Step) (ending : Ending) : Type 0 where
  pub last : Feeding
  pub rest : List ℕ
  pub went : Went first steps last
  pub bytes : bytes_of steps ++ rest ≡ stream
  pub are_records : AreItsRecords (length first.files) stream steps ending

-- the end of a stream after this many records, with these bytes left
abbrev pub ending_at : List ℕ → ℕ → Ending
ending_at [] records = ended.Whole records
ending_at (byte ∷ bytes) records = ended.Cut (records + 1)

-- nothing follows the stream's end; bytes that are no record may be followed by any
abbrev pub EndsThere : Ending → List ℕ → Type 0
EndsThere (ended.Whole records) behind = behind ≡ []
EndsThere (ended.Cut n) behind = behind ≡ []
EndsThere (ended.NoRecord n) behind = ⊤
EndsThere ended.Bound behind = ⊥

-- the source's end was reached, unless bytes that are no record came first
abbrev pub MeetsEnd : Ending → Option (List ℕ) → Type 0
MeetsEnd (ended.Whole records) now = IsAtEnd now
MeetsEnd (ended.Cut n) now = IsAtEnd now
MeetsEnd (ended.NoRecord n) now = ⊤
MeetsEnd ended.Bound now = ⊥

-- Bytes were taken from a source, and all records of a stream that begins with them were handled, each as by a host that holds nothing
-- else. The observer has seen these bytes and exactly these records, in order.
pub record Watched (first : Feeding) (before now : Option (List ℕ)) (has_seen : List ℕ → List Step → Type 0) (ending : Ending) : Type 0 where
  pub taken : List ℕ
  pub consumes : Consumes before now taken
  pub at_end : MeetsEnd ending now
  pub steps : List Step
  pub seen : has_seen taken steps
  pub through : (behind : List ℕ) → EndsThere ending behind → GoesThrough first (taken ++ behind) steps ending
