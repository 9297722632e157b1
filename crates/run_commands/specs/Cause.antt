-- The fault for each failure of a run. This project's own.
use Rattle.std.specs.Prelude.{◌≡◌, Bool, codes, not, ◌&&◌, ◌||◌, if◌then◌else◌, nat_lt, length, ◌==◌, List, ℕ, Option, Some, None, Result, Ok, Err, unwrap_or, slice_get}
use Rattle.std.specs.Borrow.{Bor}
use Rattle.std_io.specs.declared.io.kind.ErrorKind.{ErrorKind}
use Rattle.program_io.specs.Why.{why_of}
use Rattle.program_io.specs.declared.why.Why.TheVariants as why
use Rattle.rpn_compiler.specs.declared.error.CompileError.{CompileError}
use Rattle.flight_core.specs.declared.error.Report.{Report}
use Rattle.flight_core.specs.declared.error.RunError.{RunError}
use Rattle.flight_core.specs.declared.error.RunError.TheVariants as run
use Rattle.run_stepper.specs.declared.ending.Ending.{Ending}
use Rattle.run_stepper.specs.declared.ending.Ending.TheVariants as ending
use Rattle.run_page.specs.declared.error.ReportError.{ReportError}
use Rattle.run_page.specs.declared.error.ReportError.TheVariants as page
use Rattle.run_comparison.specs.declared.error.ComparisonError.{ComparisonError}
use Rattle.run_comparison.specs.declared.error.ComparisonError.TheVariants as comparison
use Rattle.run_comparison.specs.declared.error.Which.{Which}
use Rattle.run_comparison.specs.declared.error.Which.TheVariants as which
use Rattle.run_comparison.specs.declared.stop.Stop.{Stop}
use Rattle.run_comparison.specs.declared.stop.Stop.TheVariants as stop
use Rattle.scenario_trial.specs.declared.trial.Tried.{Tried}
use Rattle.scenario_trial.specs.declared.error.TrialError.{TrialError}
use Rattle.scenario_trial.specs.declared.error.TrialError.TheVariants as trial
use Rattle.scenario_trial.specs.declared.expectation_lines.ReadError.{ReadError}
use Rattle.scenario_trial.specs.declared.expectation_lines.ReadError.TheVariants as reading
use Rattle.scenarios.specs.declared.error.ScenarioError.{ScenarioError}
use Rattle.scenarios.specs.declared.error.ScenarioError.TheVariants as scenario
use Rattle.scenario_errors.specs.declared.line_error.LineError.{LineError}
use Rattle.scenario_errors.specs.declared.line_error.LineError.TheVariants as line
use Rattle.tool_faults.specs.Cause.{IsOfInput, IsOfOutput, IsOfScript, IsOfWrite, IsToldFault}
use Rattle.tool_faults.specs.declared.fault.Fault.{Fault}
use Rattle.tool_faults.specs.declared.fault.Fault.TheVariants as fault
use Rattle.run_commands.specs.declared.comparing.ComparedFiles.{ComparedFiles}

-- the fault for a file with this name that failed, with this kind of error if it is known
abbrev pub fault_of_device : Bor (List ℕ) → Option ErrorKind → Fault
fault_of_device name (Some kind) = fault.File name (why_of kind)
fault_of_device name None = fault.File name why.Failed

-- the fault for a page that wasn't made, with the kinds of errors of the stream and the page if they are known; a refused rule text is
-- reported with its file's name
abbrev pub fault_of_page : (name stream : Bor (List ℕ)) → (rules : List (Bor (List ℕ))) → ReportError → (read written : Option ErrorKind) → Fault
fault_of_page name stream rules page.Memory read written = fault.Memory
fault_of_page name stream rules page.Read read written = fault_of_device stream read
fault_of_page name stream rules page.Bound read written = fault.Stream stream run.ReadBound
fault_of_page name stream rules page.Write read written = fault_of_device name written
fault_of_page name stream rules (page.Rules text error) read written = fault.Rules (unwrap_or (slice_get rules text) name) error

-- the fault for a bad record: it names a text that isn't given, or it is bad for another reason
abbrev pub fault_of_record : (name : Bor (List ℕ)) → (n : ℕ) → (missing : Option ℕ) → Fault
fault_of_record name n (Some text) = fault.TextNotGiven name n text
fault_of_record name n None = fault.Stream name (run.BadRecord n)

-- the result of a run over the stream in a file with this name: a fault with the place, and with a text that isn't given, if the stream
-- ends early
abbrev pub answer_of_ending : Bor (List ℕ) → Ending → (missing : Option ℕ) → Result (Unit {0}) Fault
answer_of_ending name (ending.Whole records) missing = Ok tt
answer_of_ending name (ending.NoRecord n) missing = Err (fault_of_record name n missing)
answer_of_ending name (ending.Cut n) missing = Err (fault.Stream name (run.Truncated n))
answer_of_ending name ending.Bound missing = Err (fault.Stream name run.ReadBound)

-- the fault for a refused rule text of a comparison of files with these names
abbrev pub fault_of_comparison_text : ComparedFiles → Which → CompileError → Fault
fault_of_comparison_text files which.Old error = fault.Rules files.old error
fault_of_comparison_text files which.New error = fault.Rules files.new error
fault_of_comparison_text files (which.Further text) error = fault.Rules (unwrap_or (slice_get files.further.now text) files.new) error

-- the fault for a comparison that failed, with the kinds of errors of the stream and the output if they are known
abbrev pub IsOfComparison : ComparedFiles → ComparisonError → (read written : Option ErrorKind) → Fault → Type 0
IsOfComparison files (comparison.Rules which error) read written found = found ≡ fault_of_comparison_text files which error
IsOfComparison files comparison.Memory read written found = found ≡ fault.Memory
IsOfComparison files comparison.Read read written found = found ≡ fault_of_device files.stream read
IsOfComparison files comparison.Bound read written found = found ≡ fault.Stream files.stream run.ReadBound
IsOfComparison files comparison.Uneven read written found = found ≡ fault.Stream files.stream run.ReadBound
IsOfComparison files comparison.Write read written found = IsOfWrite written found

-- the fault for a scenario with an invalid line in a rule text's words
abbrev pub IsOfScenario : ScenarioError → Fault → Type 0
IsOfScenario scenario.Memory found = found ≡ fault.Memory
IsOfScenario (scenario.Line n reason) found = IsToldFault found

-- the fault for a scenario with an invalid expectation
abbrev pub IsOfReading : ReadError → Fault → Type 0
IsOfReading reading.Memory found = found ≡ fault.Memory
IsOfReading (reading.Line n reason) found = IsToldFault found

-- the fault for a refused scenario
abbrev pub IsOfLine : LineError → Fault → Type 0
IsOfLine (line.Words error) found = IsOfScenario error found
IsOfLine (line.Expectation error) found = IsOfReading error found
IsOfLine (line.Script error) found = IsOfScript error found

-- the fault for a failed trial of the scenario in a file with this name, with rule texts in these files
abbrev pub IsOfTrial : (script : Bor (List ℕ)) → (rules : List (Bor (List ℕ))) → TrialError → Option ErrorKind → Fault → Type 0
IsOfTrial script rules (trial.Scenario error) noted found = IsOfScenario error found
IsOfTrial script rules (trial.Expectation error) noted found = IsOfReading error found
IsOfTrial script rules (trial.Script error) noted found = IsOfScript error found
IsOfTrial script rules (trial.Rules text error) noted found = found ≡ fault.Rules (unwrap_or (slice_get rules text) script) error
IsOfTrial script rules (trial.NoRule n) noted found = IsToldFault found
IsOfTrial script rules (trial.Stopped n) noted found = IsToldFault found
IsOfTrial script rules (trial.Unsettled n) noted found = IsToldFault found
IsOfTrial script rules trial.Memory noted found = found ≡ fault.Memory
IsOfTrial script rules trial.Write noted found = IsOfWrite noted found

-- why both runs ended before the stream did; `missing` is a text that a bad record names and that isn't given
abbrev pub stop_of : Ending → (missing : Option ℕ) → Option Stop
stop_of (ending.NoRecord n) (Some text) = Some (stop.NoText n text)
stop_of (ending.NoRecord n) None = Some (stop.NoRecord n)
stop_of (ending.Cut n) missing = Some (stop.Cut n)
stop_of (ending.Whole records) missing = None
stop_of ending.Bound missing = None

-- the result of a comparison: a fault with the place and the reason if the stream in a file with this name ends early; else one if the
-- comparison fails; else one if in one of the runs nothing was sampled
abbrev pub answer_of_comparison : Bor (List ℕ) → Option Stop → (fails is_sampled : Bool) → Result (Unit {0}) Fault
answer_of_comparison name (Some (stop.NoText n text)) fails is_sampled = Err (fault.TextMissing name n text)
answer_of_comparison name (Some (stop.NoRecord n)) fails is_sampled = Err (fault.Stream name (run.BadRecord n))
answer_of_comparison name (Some (stop.Cut n)) fails is_sampled = Err (fault.Stream name (run.Truncated n))
answer_of_comparison name None fails is_sampled = if fails then Err fault.Differs else if not is_sampled then Err fault.NotSampled else Ok tt

abbrev pub named_fault : Option (Bor (List ℕ)) → ℕ → CompileError → Fault
named_fault (Some name) text error = fault.Rules name error
named_fault None text error = fault.Run (run.Compile text error)

-- the fault for a refused rule text, with its file's name among these
abbrev pub fault_of_text : List (Bor (List ℕ)) → ℕ → CompileError → Fault
fault_of_text rules text error = named_fault (slice_get rules text) text error

-- a record of standard input names a text that isn't given
abbrev pub IsOfMissing : (n text : ℕ) → Fault → Type 0
IsOfMissing n text (fault.TextNotGiven name number found) = (name.now ≡ codes "standard input") × (number ≡ n) × (found ≡ text)
IsOfMissing n text other = ⊥

-- the result of a run from standard input to standard output, with the kinds of their errors and a text that isn't given if they are known
abbrev pub IsAnswered : (rules : List (Bor (List ℕ))) → Result Report RunError → Option ErrorKind → Option ErrorKind → (missing : Option ℕ) → Result Report Fault → Type 0
IsAnswered rules (Ok report) read written missing answer = answer ≡ Ok report
IsAnswered rules (Err run.Memory) read written missing answer = answer ≡ Err fault.Memory
IsAnswered rules (Err (run.Compile text error)) read written missing answer = answer ≡ Err (fault_of_text rules text error)
IsAnswered rules (Err run.Read) (Some kind) written missing (Err found) = IsOfInput kind found
IsAnswered rules (Err (run.Write sent)) read (Some kind) missing (Err found) = IsOfOutput kind found
IsAnswered rules (Err (run.BadRecord n)) read written (Some text) (Err found) = IsOfMissing n text found
IsAnswered rules (Err error) read written missing answer = answer ≡ Err (fault.Run error)

-- the result of a trial: a fault if an expectation isn't met; in a strict trial, if there is a warning; or if no rule was sampled
abbrev pub ending_of : Tried → (is_sampled is_warned is_strict : Bool) → Result (Unit {0}) Fault
ending_of tried is_sampled is_warned is_strict =
    if nat_lt 0 tried.unmet then Err fault.Unmet
    else if is_strict && is_warned then Err fault.Warned
    else if not is_sampled then Err fault.NotSampled
    else Ok tt
