-- Which fault each refusal is. This project's own.
use Rattle.rpn_compiler.specs.declared.error.CompileError.{CompileError}
use Rattle.rpn_compiler.specs.declared.error.CompileError.TheVariants as compile
use Rattle.schedules.specs.declared.error.ScheduleError.{ScheduleError}
use Rattle.schedules.specs.declared.error.ScheduleError.TheVariants as schedule
use Rattle.flight_core.specs.declared.error.RunError.{RunError}
use Rattle.flight_core.specs.declared.error.RunError.TheVariants as run
use Rattle.flight_run_args.specs.declared.command_line.WordsError.{WordsError}
use Rattle.flight_run_args.specs.declared.command_line.WordsError.TheVariants as words
use Rattle.flight_run.specs.declared.fault.Fault.{Fault}
use Rattle.flight_run.specs.declared.fault.Fault.TheVariants.{Text, Schedule, Words, File, Run, Memory}
use Rattle.program_io.specs.declared.arguments.ArgumentsError.{ArgumentsError}
use Rattle.program_io.specs.declared.arguments.ArgumentsError.TheVariants as arguments
use Rattle.program_io.specs.declared.error.FileError.{FileError}
use Rattle.program_io.specs.declared.error.FileError.TheVariants as file

-- lack of memory is one fault, wherever it arose, and a run that stops at a rule text is stopped by the text
abbrev pub fault_of_words : WordsError → Fault
fault_of_words words.Memory = Memory
fault_of_words error = Words error

abbrev pub fault_of_text : CompileError → Fault
fault_of_text compile.Memory = Memory
fault_of_text error = Text error

abbrev pub fault_of_schedule : ScheduleError → Fault
fault_of_schedule schedule.Memory = Memory
fault_of_schedule error = Schedule error

abbrev pub fault_of_run : RunError → Fault
fault_of_run run.Memory = Memory
fault_of_run (run.Compile text error) = Text error
fault_of_run error = Run error

-- of a file only its name is said
abbrev pub fault_of_file : FileError → Fault
fault_of_file file.Memory = Memory
fault_of_file (file.Unusable name why) = File name

-- where the system has no words for the program they are no command
abbrev pub fault_of_arguments : ArgumentsError → Fault
fault_of_arguments arguments.Memory = Memory
fault_of_arguments arguments.NoText = Words words.Usage
