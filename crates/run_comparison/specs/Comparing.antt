-- Two runs over one stream, and how they are compared. This project's own.
use Rattle.std.specs.Prelude.{◌≡◌, ℕ, Bool, List, [], ◌∷◌, ◌++◌, length, map, Option, Some, None}
use Rattle.std.specs.Io.KnownBytes.{Consumes}
use Rattle.lc_model.specs.Host.Schedule.{Schedule}
use Rattle.rpn_compiler.specs.declared.rule_text.RuleText.{RuleText}
use Rattle.run_stepper.specs.Stepping.{host_in}
use Rattle.run_stepper.specs.Steps.{Step, Went}
use Rattle.run_stepper.specs.Trace.{IsTraced, Part}
use Rattle.run_stepper.specs.Watching.{EndsThere, MeetsEnd}
use Rattle.run_stepper.specs.declared.ending.Ending.{Ending}
use Rattle.run_stepper.specs.declared.stepping.Stepping.{Stepping}
use Rattle.run_comparison.specs.Asked.{HasAsked}
use Rattle.run_comparison.specs.Met.{kept_of, shown_of}
use Rattle.run_comparison.specs.declared.asked.Asked.{Asked}
use Rattle.run_comparison.specs.declared.comparing.Found.{Found}
use Rattle.run_comparison.specs.declared.comparison.Comparison.{Comparison}
use Rattle.run_comparison.specs.declared.met.MetRecord.{MetRecord}

-- the texts of a run
abbrev pub sources_in : List RuleText → List (List ℕ)
sources_in texts = map (λ (text : RuleText). text.bytes.now) texts

-- the records with one more, if it is kept
abbrev pub with_met : List MetRecord → Option MetRecord → List MetRecord
with_met records None = records
with_met records (Some met) = records ++ met ∷ []

-- These are the records of two runs that are kept, by the packets that each record led to in both, and the sequences that both requested.
pub record AreFound (keeps_all : Bool) (records : List MetRecord) (asked : Asked) (olds news : List (List ℕ)) : Type 0 where
  pub kept : map shown_of records ≡ kept_of keeps_all olds news
  pub requested : HasAsked asked olds news

-- the same up to a record, of as many in both runs
pub record HasFound (found : Found) (olds news : List (List ℕ)) : Type 0 where
  pub are : AreFound found.keeps_all found.records.items found.asked olds news
  pub even : length news ≡ length olds
  pub number : found.number ≡ length olds

-- the bytes of each record, and the packets that it led to
abbrev pub bytes_in : List Step → List (List ℕ)
bytes_in steps = map (λ (step : Step). step.bytes) steps

abbrev pub written_in : List Step → List (List ℕ)
written_in steps = map (λ (step : Step). step.written) steps

-- The run of the new text, which was `first` at first, took the records of the old one's run, and the records and requests found are those of both. Whether
-- all records are kept is as it was.
pub record HasCompared (first new : Stepping) (before found : Found) (steps : List Step) : Type 0 where
  pub news : List Step
  pub went : Went (host_in first) news (host_in new)
  pub bytes : bytes_in news ≡ bytes_in steps
  pub keeps : found.keeps_all ≡ before.keeps_all
  pub has : HasFound found (written_in steps) (written_in news)

-- the packets that each record of a run led to
abbrev pub packets_of : List Part → List (List ℕ)
packets_of parts = map (λ (part : Part). part.packets) parts

-- The runs of these texts under this schedule over a stream are those of the definitions, and the records and requests found are those of both
-- runs.
pub record ComparesRuns (olds news : List (List ℕ)) (schedule : Schedule) (keeps_all : Bool) (stream : List ℕ) (found : Comparison) : Type 0 where
  pub old : List Part
  pub new : List Part
  pub old_run : IsTraced olds schedule stream (record { parts = old; ending = found.ending })
  pub new_run : IsTraced news schedule stream (record { parts = new; ending = found.ending })
  pub are : AreFound keeps_all found.records.items found.asked (packets_of old) (packets_of new)

-- these bytes were taken from a source: the runs over them, and whatever follows them, are compared so. The source's end was reached unless
-- what comes next is no record.
pub record IsComparison (olds news : List (List ℕ)) (schedule : Schedule) (keeps_all : Bool) (before now : Option (List ℕ)) (found : Comparison) : Type 0 where
  pub taken : List ℕ
  pub consumes : Consumes before now taken
  pub at_end : MeetsEnd found.ending now
  pub compares : (behind : List ℕ) → EndsThere found.ending behind → ComparesRuns olds news schedule keeps_all (taken ++ behind) found
