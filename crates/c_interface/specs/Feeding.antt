-- A host that is fed from C. This project's own.
use Rattle.core.specs.Mem.{manually_drop_value}
use Rattle.std.specs.Prelude.{◌≡◌, ℕ, ◌+◌, min, Bool, true, false, List, length, Option, Some, None, Result, Ok, Err}
use Rattle.lc_model.specs.Host.Schedule.{Schedule}
use Rattle.lc_model.specs.Host.ScheduleText.{schedule_in}
use Rattle.app_host.specs.Hosted.{Object}
use Rattle.app_host.specs.Left.{WasClosed}
use Rattle.flight_core.specs.declared.error.RunError.{RunError}
use Rattle.flight_core.specs.declared.halt.Halt.{Halt}
use Rattle.flight_core.specs.declared.halt.Halt.TheVariants as halt
use Rattle.flight_core.specs.Compiled.{IsNotCompiled}
use Rattle.flight_core.specs.Ending.{ending_of}
use Rattle.flight_core.specs.Feeding.{Feeding, HandlesOne, HasBegun, IsReady, boxes_on, feeding_of, fed_with}
use Rattle.flight_core.specs.Leaving.{LeavesForFront}
use Rattle.flight_core.specs.Records.{front_of, most_counted, taken_of}
use Rattle.flight_core.specs.Run.{IsOfProfile}
use Rattle.flight_profile.specs.Stock.{names_of, own_names}
use Rattle.c_interface.specs.declared.handle.Fed.{Fed}
use Rattle.c_interface.specs.declared.feeding.Handled.{Handled}
use Rattle.c_interface.specs.declared.refusal.Refusal.{Refusal}
use Rattle.c_interface.specs.declared.sentence.Sentence.{Sentence}
use Rattle.c_interface.specs.Lasting.{lasting_meaning}
use Rattle.c_interface.specs.Said.{Says}
use Rattle.c_interface.specs.Words.{run_words}
use Rattle.c_interface.specs.Running.{unwritten, written_in, numbers_of_ending}

-- the host in a handle
abbrev pub host_in : Fed → Feeding
host_in fed = feeding_of lasting_meaning (manually_drop_value fed.host)

-- a host between two calls
abbrev pub IsFed : Fed → Type 0
IsFed fed = IsReady (host_in fed)

-- its host was closed
abbrev pub FedWasClosed : Fed → Type 0
FedWasClosed fed = WasClosed lasting_meaning (host_in fed).host

-- it was made of these texts and this schedule, with this profile's stock and so much room; nothing has come, and nothing was
-- written
pub record IsStocked (sources : List (List ℕ)) (slots : Schedule) (room : ℕ) (fed : Fed) : Type 0 where
  pub stock : List Object
  pub profile : IsOfProfile slots stock
  pub names : names_of stock ≡ own_names
  pub begun : HasBegun sources stock (host_in fed)
  pub room_is : length fed.room.items ≡ room
  pub none_written : fed.written ≡ 0

-- with what this schedule's text says
pub record IsMade (sources : List (List ℕ)) (schedule : List ℕ) (room : ℕ) (fed : Fed) : Type 0 where
  pub slots : Schedule
  pub said : schedule_in schedule ≡ Ok slots
  pub stocked : IsStocked sources slots room fed

-- a text doesn't compile, or there is no memory: the error's numbers and its words are given
pub record IsUnmade (sources : List (List ℕ)) (told : Refusal) (sentence : Sentence) : Type 0 where
  pub error : RunError
  pub refused : IsNotCompiled sources error
  pub is_told : told ≡ numbers_of_ending (ending_of (Err error))
  pub said : Says (run_words error) sentence

-- ---- a record

-- the codes: no whole record is held; the output is smaller than the host's room
abbrev pub none_held : ℕ
none_held = 250

abbrev pub too_small : ℕ
too_small = 249

-- the code of what came of a record
abbrev pub code_of : Result (Option ℕ) Halt → ℕ
code_of (Ok (Some total)) = 0
code_of (Ok None) = none_held
code_of (Err halt.NoRecord) = 141
code_of (Err (halt.Unsent sent)) = 144
code_of (Err halt.Fault) = 144
code_of (Err halt.Bound) = 144

-- the record in front is handled: what it leads to stands in the output's first bytes, and a write fails only where the room,
-- of this size, is full
pub record HandlesInto (old new : Feeding) (output : List ℕ) (size written : ℕ) (answer : Result (Option ℕ) Halt) : Type 0 where
  pub full : Bool
  pub one : HandlesOne old new unwritten (written_in output written full) answer
  pub is_full : full ≡ true → written ≡ size

-- what is taken of the bytes is held after what was held, and then the record in front is handled; what is written is counted;
-- an application that leaves its seat for it has retired
pub record Feeds (bytes output : List ℕ) (old new : Fed) (told : Handled) : Type 0 where
  pub taken : told.taken ≡ length (taken_of (host_in old).held bytes)
  pub answer : Result (Option ℕ) Halt
  pub into : HandlesInto (fed_with bytes (host_in old)) (host_in new) output (length old.room.items) told.written answer
  pub code : told.code ≡ code_of answer
  pub ready : IsFed new
  pub room : length new.room.items ≡ length old.room.items
  pub counted : new.written ≡ min (old.written + told.written) most_counted
  pub gone : (host_in old).host.is_closed ≡ false → LeavesForFront lasting_meaning (boxes_on (manually_drop_value old.host)) (host_in old).host (front_of (fed_with bytes (host_in old)).held)

-- what two handles hold, one after the other
abbrev pub AreFed : List ℕ → List ℕ → Handled → Option Fed → Option Fed → Type 0
AreFed bytes output told None now = ⊥
AreFed bytes output told (Some old) None = ⊥
AreFed bytes output told (Some old) (Some new) = Feeds bytes output old new told
