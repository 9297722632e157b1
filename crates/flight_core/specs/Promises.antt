-- What `run` promises.
use Rattle.std.specs.Prelude.{◌≤◌, ℕ, List, Result, IfErr}
use Rattle.std.specs.Borrow.{Bor}
use Rattle.lc_model.specs.Host.Schedule.{Schedule}
use Rattle.lc_model.specs.Host.Outcome.{Devices, Ending}
use Rattle.lc_model.specs.Kept.Executive.{Member}
use Rattle.lc_model.specs.Host.Promise.{Mission, FollowsTexts, IsRun, WritesWhatBytesCallFor, WritesWhatIsCalledFor, WritesWithFixedTables}
use Rattle.app_host.specs.Hosted.{Hosted, Object, objects_in}
use Rattle.app_host.specs.Left.{WasClosed}
use Rattle.flight_core.specs.declared.error.Report.{Report}
use Rattle.flight_core.specs.declared.error.RunError.{RunError}
use Rattle.flight_core.specs.Asides.{IsNotTouchedByAsides, IsNotTouchedByAsidesInBytes}
use Rattle.flight_core.specs.Compiled.{NamesTheNumber}
use Rattle.flight_core.specs.Ending.{ending_of}
use Rattle.flight_core.specs.Failures.{TellsFailures, TriesNoneAgain}
use Rattle.flight_core.specs.Fitting.{RefusesUnfitAlone}
use Rattle.flight_core.specs.Run.{AreThese, IsOfProfile, mission_of}
use Rattle.flight_core.specs.Steps.{AnswersForItsReason}

-- What a run promises if the stock has only this profile's applications.
pub record PromisesOfProfile (m : Mission) (d : Devices) (ending : Ending) : Type 0 where
  -- How the run ends and what it leaves, for all texts, every stream and failing devices.
  pub is_run : IsRun m d ending
  -- The headline. If all texts compile, the bytes of reader and writer are known, nothing fails, no two texts have the same hash, and
  -- each sound raw file is a half of a text: `run` writes exactly the packets, byte for byte and in order, that the rule texts in
  -- force call for.
  pub by_texts : WritesWhatIsCalledFor m d ending
  -- The same but for the premises on hashes and raw files: `run` writes what the bytes of the files call for, hostile tables included.
  pub by_bytes : WritesWhatBytesCallFor m d ending
  -- With one text whose tables never change, as well without the premises on hashes and raw files: `run` writes what that text calls
  -- for.
  pub fixed_tables : WritesWithFixedTables m d ending
  -- With the premises on hashes and raw files, but with devices that may fail: the output is what the texts call for over the
  -- bytes that were read; after a failed write it is the first bytes of that.
  pub whatever_fails : FollowsTexts m d ending
  -- A failed read (143) or write (144) is reported exactly if one failed, a failed write with the number of bytes that the
  -- writer took, if its bytes are known; the bound of reads (145) is reported only after that many reads.
  pub failures : TellsFailures m.most_reads d ending
  -- Under the premises of the headline, asides (event commands, COUNTER commands, and executive commands that name neither LC nor SCH)
  -- do not change the sequence requests: with different asides in the stream, or with none, the same requests are written.
  pub asides : IsNotTouchedByAsides m d ending
  -- The same without the premises on hashes and raw files: asides do not change the sequence requests that the bytes of the files call
  -- for.
  pub asides_in_bytes : IsNotTouchedByAsidesInBytes m d ending

-- What a run with result `result` promises: `profile` holds if the stock is of this profile, the other fields hold whatever is in
-- stock. `IsClosed` holds of a host that was closed.
pub record Promises (OfProfile : Type 0) (AreInStock : List Member → Type 0) (IsClosed : Hosted → Type 0) (m : Mission) (d : Devices) (result : Result Report RunError) : Type 0 where
  pub profile : OfProfile → PromisesOfProfile m d (ending_of result)
  -- After `Compile` the text is the first that has no reading, has over 176 watchpoints or rules, or has a rule of over 32
  -- words, and its refusal is the first that applies. After any result but `Compile` and `Memory` every text is within these
  -- limits. No text is refused because of the stack depth of its equations. After `Compile` or `Memory` nothing was read or
  -- written.
  pub refuses : RefusesUnfitAlone m.sources d (ending_of result)
  -- Refusal 28 has the place of a number in a rule, or of a stale age, that is out of its range.
  pub named : IfErr result (NamesTheNumber m.sources)
  -- Each record was one step of a host that began with this stock, whatever its applications are. Each ending is reported only
  -- for its own cause: a failed read or write, a bad or cut record, or the bound of reads. The host that the last record left was
  -- closed: each application that ran was retired once, and no seat holds anything.
  pub reasons : AnswersForItsReason AreInStock IsClosed m d (ending_of result)
  -- After a failed read nothing more was read, and after a failed write nothing more was written.
  pub not_retried : TriesNoneAgain d
  -- At most `most_reads` reads were made, however the run ended.
  pub bounded : d.source_after.reads ≤ m.most_reads

-- What a run promises of these texts, this schedule, these applications in stock and at most `reads` reads, over these devices.
-- `meaning` gives the object that an application in stock is.
abbrev pub RunsAsPromised : {B : Type 0} → (B → Object) → List (Bor (List ℕ)) → Schedule → List B → ℕ → Devices → Result Report RunError → Type 0
RunsAsPromised meaning texts schedule stock reads d result =
    Promises (IsOfProfile schedule (objects_in meaning stock)) (AreThese (objects_in meaning stock)) (WasClosed meaning)
    (mission_of texts schedule (objects_in meaning stock) reads) d result

-- Every run that `IsRun` describes keeps all promises of `PromisesOfProfile`.
abbrev pub RunsKeepTheirPromises : Type 0
RunsKeepTheirPromises = (m : Mission) (d : Devices) (ending : Ending) → IsRun m d ending → PromisesOfProfile m d ending
