-- What the program says of each fault. This project's own.
use Rattle.std.specs.Prelude.{ℕ, codes, List, ◌++◌, Option, Some, None}
use Rattle.std.specs.Fmt.{decimal}
use Rattle.lc_model.specs.Text.Reading.{ParseFault, Expected, TooNested, TextRefusal, ForText, AtPlace, Unparsed, ForRule}
use Rattle.rpn_compiler.specs.Fault.{code_of, refusal_of}
use Rattle.schedules.specs.declared.error.ScheduleError.{ScheduleError}
use Rattle.schedules.specs.declared.error.ScheduleError.TheVariants as schedule
use Rattle.flight_core.specs.declared.error.RunError.{RunError}
use Rattle.flight_core.specs.declared.error.RunError.TheVariants as run
use Rattle.flight_run_args.specs.declared.command_line.WordsError.{WordsError}
use Rattle.flight_run_args.specs.declared.command_line.WordsError.TheVariants as words
use Rattle.flight_run.specs.declared.place.RefusalPlace.{RefusalPlace}
use Rattle.flight_run.specs.declared.place.RefusalPlace.TheVariants.{Whole, At, Rule}
use Rattle.flight_run.specs.declared.fault.Fault.{Fault}
use Rattle.flight_run.specs.declared.fault.Fault.TheVariants.{Text, Schedule, Words, File, Run, Memory}

abbrev pub no_memory : List ℕ
no_memory = codes "no memory"

-- where a text is refused
abbrev unparsed : ParseFault → RefusalPlace
unparsed (Expected at what) = At at
unparsed (TooNested at) = At at

abbrev pub place_in : Option TextRefusal → RefusalPlace
place_in None = Whole
place_in (Some (ForText code)) = Whole
place_in (Some (AtPlace fault)) = At fault.at
place_in (Some (Unparsed fault)) = unparsed fault
place_in (Some (ForRule code rule)) = Rule rule

-- the number of a refusal, and its place or its rule
abbrev pub refused : ℕ → RefusalPlace → List ℕ
refused code Whole = codes "refused: " ++ decimal code
refused code (At at) = codes "refused: " ++ (decimal code ++ (codes " at " ++ decimal at))
refused code (Rule rule) = codes "refused: " ++ (decimal code ++ (codes " rule " ++ decimal rule))

-- `None` stands for lack of memory
abbrev pub text_line : Option TextRefusal → List ℕ
text_line None = no_memory
text_line (Some why) = refused (code_of why) (place_in (Some why))

abbrev pub schedule_line : ScheduleError → List ℕ
schedule_line (schedule.BadLine line) = codes "schedule: 131 line " ++ decimal line
schedule_line (schedule.TooManySlots line) = codes "schedule: 132 line " ++ decimal line
schedule_line (schedule.TooManyEntries line) = codes "schedule: 133 line " ++ decimal line
schedule_line schedule.Memory = no_memory

abbrev pub run_line : RunError → List ℕ
run_line (run.Compile text error) = text_line (refusal_of error)
run_line (run.BadRecord n) = codes "stopped: 141 record " ++ decimal n
run_line (run.Truncated n) = codes "stopped: 142 record " ++ decimal n
run_line run.Read = codes "stopped: 143"
run_line (run.Write sent) = codes "stopped: 144"
run_line run.ReadBound = codes "stopped: 145"
run_line run.Memory = no_memory

abbrev pub words_line : WordsError → List ℕ
words_line words.Usage = codes "usage: flight_run [compile RULES WDT ADT or run --schedule S --stream IN --out OUT RULES..]"
words_line words.Memory = no_memory

abbrev pub line_of : Fault → List ℕ
line_of (Text error) = text_line (refusal_of error)
line_of (Schedule error) = schedule_line error
line_of (Words error) = words_line error
line_of (File name) = codes "cannot use " ++ name.now
line_of (Run error) = run_line error
line_of Memory = no_memory
