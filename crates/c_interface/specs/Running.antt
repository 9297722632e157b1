-- A run from memory to memory. This project's own.
use Rattle.std.specs.Prelude.{◌≡◌, ◌≢◌, ◌⊎◌, ⊤, IfErr, ℕ, Bool, true, false, List, [], take, drop, length, Option, Some, None, Result, Ok}
use Rattle.std.specs.List.{sum}
use Rattle.lc_model.specs.Device.{Source, Sink}
use Rattle.lc_model.specs.Host.Schedule.{Schedule}
use Rattle.lc_model.specs.Host.ScheduleText.{ScheduleFault, schedule_in}
use Rattle.schedules.specs.Error.{IsRefused, fault_of}
use Rattle.schedules.specs.declared.error.ScheduleError.{ScheduleError}
use Rattle.lc_model.specs.Host.Outcome.{devices, Ending, Complete, Uncompiled, MetNoRecord, MetTheEnd, FailedToRead, FailedToWrite, ReachedTheBound, NoMemory}
use Rattle.lc_model.specs.Host.Promise.{Mission}
use Rattle.lc_model.specs.Tables.InForce.{edition}
use Rattle.flight_core.specs.declared.error.Report.{Report}
use Rattle.flight_core.specs.declared.error.RunError.{RunError}
use Rattle.flight_core.specs.Ending.{ending_of}
use Rattle.flight_core.specs.Promises.{Promises}
use Rattle.flight_profile.specs.Members.{OwnWasClosed}
use Rattle.flight_profile.specs.Stock.{AreOwn, own_names, most_reads}
use Rattle.c_interface.specs.declared.refusal.Refusal.{Refusal}
use Rattle.c_interface.specs.declared.sentence.Sentence.{Sentence}
use Rattle.c_interface.specs.Refusing.{no_memory, numbers_of, unfit}
use Rattle.c_interface.specs.Said.{Says}
use Rattle.c_interface.specs.Words.{run_words, schedule_words, unfit_words}

-- these texts with this schedule
abbrev pub mission : List (List ℕ) → Schedule → Mission
mission sources schedule = record {
  edition = edition;
  sources = sources;
  schedule = schedule;
  stock = own_names;
  most_reads = most_reads;
}

-- a stream of which nothing was read, and room in which nothing stands
abbrev pub unread : List ℕ → Source
unread stream = record { rest = Some stream; reads = 0; failed = false; retried = false }

abbrev pub unwritten : Sink
unwritten = record { gained = Some []; failed = false; retried = false }

-- this many of the room's first bytes were written, and then it was full or not; nothing was written to the full room
abbrev pub written_in : List ℕ → ℕ → Bool → Sink
written_in output written full = record { gained = Some (take written output); failed = full; retried = false }

-- the output after its first bytes, this many, is as it was
abbrev pub IsKeptBehind : ℕ → (old new : List ℕ) → Type 0
IsKeptBehind count old new = drop count new ≡ drop count old

-- a run over memory: all that a run promises holds of it, no read fails, and a write only where the output is full
pub record RunsInMemory (sources : List (List ℕ)) (schedule : Schedule) (stream output : List ℕ) (written : ℕ) (answer : Result Report RunError) : Type 0 where
  pub after : Source
  pub full : Bool
  pub no_read_fails : after.failed ≡ false
  pub is_full : full ≡ true → written ≡ length output
  pub promises : Promises ⊤ (AreOwn schedule) OwnWasClosed (mission sources schedule) (devices (unread stream) after unwritten (written_in output written full)) answer

-- ---- in numbers

-- what a refusal's place counts besides: records; lines of a schedule, where nothing was run
abbrev pub records : ℕ
records = 3

abbrev pub not_run : ℕ
not_run = 4

abbrev of_record : (code number : ℕ) → Refusal
of_record code number = record { code = code; of = records; at = number; text = 0 }

-- how a run ended
abbrev pub numbers_of_ending : Ending → Refusal
numbers_of_ending (Complete records bytes) = of_record 0 records
numbers_of_ending (Uncompiled text refusal) = numbers_of text refusal
numbers_of_ending (MetNoRecord number) = of_record 141 number
numbers_of_ending (MetTheEnd number) = of_record 142 number
numbers_of_ending FailedToRead = of_record 143 0
numbers_of_ending (FailedToWrite sent) = of_record 144 0
numbers_of_ending ReachedTheBound = of_record 145 0
numbers_of_ending NoMemory = numbers_of 0 None

-- a run of these texts by what the schedule's text says, with its numbers, and with the words of the error that ended it
pub record RunsOf (sources : List (List ℕ)) (schedule stream output : List ℕ) (written : ℕ) (told : Refusal) (sentence : Sentence) : Type 0 where
  pub slots : Schedule
  pub said : schedule_in schedule ≡ Ok slots
  pub answer : Result Report RunError
  pub run : RunsInMemory sources slots stream output written answer
  pub is_told : told ≡ numbers_of_ending (ending_of answer)
  pub words : IfErr answer (λ error. Says (run_words error) sentence)
  -- a failed write is reported only where the output is full
  pub full : told.of ≡ records → told.code ≡ 144 → written ≡ length output

-- ---- where nothing was run

-- the numbers where nothing was run
abbrev pub unrun : (code at : ℕ) → Refusal
unrun code at = record { code = code; of = not_run; at = at; text = 0 }

-- the lengths do not add up to the texts: these are the numbers and the words
pub record IsUnfit (told : Refusal) (sentence : Sentence) : Type 0 where
  pub is_told : told ≡ unrun unfit 0
  pub said : Says unfit_words sentence

-- the numbers of a schedule's fault; `None` stands for lack of memory
abbrev pub numbers_of_fault : Option ScheduleFault → Refusal
numbers_of_fault None = unrun no_memory 0
numbers_of_fault (Some fault) = unrun fault.code fault.line

-- the text says no schedule for this reason, or there was no memory: its numbers and its words are given
pub record IsUnscheduled (schedule : List ℕ) (told : Refusal) (sentence : Sentence) : Type 0 where
  pub error : ScheduleError
  pub refused : IsRefused (schedule_in schedule) error
  pub is_told : told ≡ numbers_of_fault (fault_of error)
  pub said : Says (schedule_words error) sentence

-- the lengths do not fit the texts, or there is no schedule
abbrev pub IsNotRun : (texts lengths schedule : List ℕ) → Refusal → Sentence → Type 0
IsNotRun texts lengths schedule told sentence =
    (IsUnfit told sentence × (sum lengths ≢ length texts)) ⊎ IsUnscheduled schedule told sentence
