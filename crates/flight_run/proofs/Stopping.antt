-- Where a command stops.
use Rattle.std.proofs.Common.{◌≡◌, refl, ℕ, List, [], ◌∷◌, ◌++◌, map, Option, Some, None, false}
use Rattle.flight_run.specs.declared.fault.Fault.{Fault}
use Rattle.flight_run.specs.declared.fault.Fault.TheVariants.{Text, Schedule, Words, File, Run, Memory}
use Rattle.rpn_compiler.specs.declared.error.CompileError.{CompileError}
use Rattle.rpn_compiler.specs.declared.error.CompileError.TheVariants as compile
use Rattle.schedules.specs.declared.error.ScheduleError.{ScheduleError}
use Rattle.schedules.specs.declared.error.ScheduleError.TheVariants as schedule
use Rattle.program_io.specs.declared.error.FileError.{FileError}
use Rattle.program_io.specs.declared.error.FileError.TheVariants as file
use Rattle.program_io.specs.FileCall.{FileCall, Reads, Writes, asked, followed_by}
use Rattle.program_io.specs.Stops.{IsErrorOf, IsOfFile}
use Rattle.program_io.specs.Stops as files
use Rattle.program_io.proofs.Stopping.{ends_later, faults_later, last_of}
use Rattle.program_io.proofs.Stopping as io
use Rattle.flight_run.specs.Cause.{fault_of_file, fault_of_schedule, fault_of_text}
use Rattle.flight_run.specs.Stops.{IsFaultOf, IsScheduleRefused, IsTextRefused, StopsIn}

-- ---- the last call of more calls

fault_later : (a calls : List FileCall) (fault : Fault) → IsFaultOf calls fault → IsFaultOf (a ++ calls) fault
fault_later a calls (Text error) ends = ends_later _ a calls ends
fault_later a calls (Schedule error) ends = ends_later _ a calls ends
fault_later a calls (File name) ends = ends_later _ a calls ends
fault_later a calls (Words error) ends = absurd ends
fault_later a calls (Run error) ends = absurd ends
fault_later a calls Memory ends = ends

-- in an order whose first calls were made, and which goes on
pub stops_later : (whole order tail done : List FileCall) (before mid now : Option (List FileCall)) (fault : Fault) → whole ≡ map asked done ++ (order ++ tail) → mid ≡ followed_by before done →
    StopsIn order mid now fault → StopsIn whole before now fault
stops_later whole order tail done before mid now fault same e stops = faults_later Fault IsFaultOf fault_later whole order tail done before mid now fault same e stops

-- ---- the error of a file

fault_lifts : (calls : List FileCall) (error : FileError) → IsErrorOf calls error → IsFaultOf calls (fault_of_file error)
fault_lifts calls file.Memory is = tt
fault_lifts calls (file.Unusable name why) is = is

-- is the program's fault
pub lifted : (order : List FileCall) (before now : Option (List FileCall)) (error : FileError) → files.StopsIn FileError IsErrorOf order before now error → StopsIn order before now (fault_of_file error)
lifted order before now error stops = record { calls = stops.calls; rest = stops.rest; made = stops.made; in_order = stops.in_order; fault_is = fault_lifts stops.calls error stops.fault_is }

pub read_stops : (name : List ℕ) (before now : Option (List FileCall)) (error : FileError) → now ≡ followed_by before (Reads name None ∷ []) → IsOfFile name error → StopsIn (Reads name None ∷ []) before now (fault_of_file error)
read_stops name before now error e of = lifted _ before now error (io.read_stops name before now error e of)

pub write_stops : (name bytes : List ℕ) (before now : Option (List FileCall)) (error : FileError) → now ≡ followed_by before (Writes name bytes false ∷ []) → IsOfFile name error →
    StopsIn (Writes name [] false ∷ []) before now (fault_of_file error)
write_stops name bytes before now error e of = lifted _ before now error (io.write_stops name bytes before now error e of)

-- ---- one call

abbrev pub one : (call : FileCall) (before now : Option (List FileCall)) (fault : Fault) → now ≡ followed_by before (call ∷ []) → IsFaultOf (call ∷ []) fault → StopsIn (asked call ∷ []) before now fault
one call before now fault e is = record { calls = call ∷ []; rest = []; made = e; in_order = refl; fault_is = is }

-- a text that is refused
pub text_stops : (name text : List ℕ) (before now : Option (List FileCall)) (error : CompileError) → now ≡ followed_by before (Reads name (Some text) ∷ []) → IsTextRefused text error →
    StopsIn (Reads name None ∷ []) before now (fault_of_text error)
text_stops name text before now compile.Memory e refused = one (Reads name (Some text)) before now Memory e tt
text_stops name text before now (compile.Lex error) e refused = one (Reads name (Some text)) before now (Text (compile.Lex error)) e (last_of _ _ refused)
text_stops name text before now (compile.Parse error) e refused = one (Reads name (Some text)) before now (Text (compile.Parse error)) e (last_of _ _ refused)
text_stops name text before now (compile.Check error) e refused = one (Reads name (Some text)) before now (Text (compile.Check error)) e (last_of _ _ refused)
text_stops name text before now compile.TooManyWatchpoints e refused = one (Reads name (Some text)) before now (Text compile.TooManyWatchpoints) e (last_of _ _ refused)
text_stops name text before now compile.TooManyRules e refused = one (Reads name (Some text)) before now (Text compile.TooManyRules) e (last_of _ _ refused)
text_stops name text before now (compile.EquationTooLong rule) e refused = one (Reads name (Some text)) before now (Text (compile.EquationTooLong rule)) e (last_of _ _ refused)

pub schedule_stops : (name text : List ℕ) (before now : Option (List FileCall)) (error : ScheduleError) → now ≡ followed_by before (Reads name (Some text) ∷ []) → IsScheduleRefused text error →
    StopsIn (Reads name None ∷ []) before now (fault_of_schedule error)
schedule_stops name text before now schedule.Memory e refused = one (Reads name (Some text)) before now Memory e tt
schedule_stops name text before now (schedule.BadLine line) e refused = one (Reads name (Some text)) before now (Schedule (schedule.BadLine line)) e (last_of _ _ refused)
schedule_stops name text before now (schedule.TooManySlots line) e refused = one (Reads name (Some text)) before now (Schedule (schedule.TooManySlots line)) e (last_of _ _ refused)
schedule_stops name text before now (schedule.TooManyEntries line) e refused = one (Reads name (Some text)) before now (Schedule (schedule.TooManyEntries line)) e (last_of _ _ refused)
