-- The faults for words that are no command. This project's own.
use Rattle.flight_tools_args.specs.declared.error.WordsError.{WordsError}
use Rattle.flight_tools_args.specs.declared.error.WordsError.TheVariants as words
use Rattle.tool_faults.specs.declared.fault.Fault.{Fault}
use Rattle.tool_faults.specs.declared.fault.Fault.TheVariants as fault

abbrev pub fault_of_words : WordsError → Fault
fault_of_words words.Memory = fault.Memory
fault_of_words (words.Refused error) = fault.Words error
fault_of_words (words.Replaced option advice) = fault.Replaced option advice
