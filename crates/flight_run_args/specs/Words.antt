-- What the words of a command line give. The two commands and their words are this project's own; how words are read is
-- `clap`'s.
use Rattle.std.specs.Prelude.{◌≡◌, ◌≤◌, ◌⊎◌, List, [], ◌∷◌, length, map, codes, true, Some, Option, IsSome, IsSomeAnd}
use Rattle.clap.specs.Words.{App, Row, Rule, Text, all_of, fault_of, first_of, new_app, new_rule, subcommand_of, with_rule, with_subcommand}
use Rattle.clap.specs.declared.builder.action.ArgAction.TheVariants.{Append}
use Rattle.flight_run_args.specs.declared.command_line.Plan.{Plan}
use Rattle.flight_run_args.specs.declared.command_line.Plan.TheVariants.{Stored, Compile, Run}

-- a file that has to be named
abbrev pub file : Text → Rule
file name = record (new_rule name) { required = true }

-- a file that has to be named, after an option of that name
abbrev pub option : Text → Rule
option name = record (file name) { long = Some name }

-- one file or more
abbrev pub files : Text → Rule
files name = record (file name) { action = Some Append; range = Some (record { start_inclusive = 1; end_inclusive = 18446744073709551615 }) }

abbrev pub compile_command : App
compile_command = with_rule (with_rule (with_rule (new_app (codes "compile")) (file (codes "RULES"))) (file (codes "WDT"))) (file (codes "ADT"))

abbrev pub run_command : App
run_command = with_rule (with_rule (with_rule (with_rule (new_app (codes "run")) (option (codes "schedule"))) (option (codes "stream"))) (option (codes "out"))) (files (codes "RULES"))

abbrev pub command_line : App
command_line = with_subcommand (with_subcommand (new_app (codes "flight_run")) compile_command.top) run_command.top

-- the command that these words give, with the words after it
abbrev pub given : List Text → Option (Text × List Row)
given words = subcommand_of command_line words

-- a plan holds what a command is given
abbrev pub HoldsRows : Text × List Row → Plan → Type 0
HoldsRows command Stored = ⊥
HoldsRows command (Compile rules wdt adt) = (command.0 ≡ codes "compile")
    × (first_of (codes "RULES") command.1 ≡ Some rules.now) × (first_of (codes "WDT") command.1 ≡ Some wdt.now) × (first_of (codes "ADT") command.1 ≡ Some adt.now)
HoldsRows command (Run schedule stream out rules) = (command.0 ≡ codes "run")
    × (first_of (codes "schedule") command.1 ≡ Some schedule.now) × (first_of (codes "stream") command.1 ≡ Some stream.now)
    × (first_of (codes "out") command.1 ≡ Some out.now) × (all_of (codes "RULES") command.1 ≡ Some (map (λ rule. rule.now) rules.items))

-- and what the words give: without words the stored run
abbrev pub HoldsWords : List Text → Plan → Type 0
HoldsWords words Stored = length words ≤ 1
HoldsWords words plan = IsSomeAnd (given words) (λ command. HoldsRows command plan)

-- a command has what it needs
abbrev pub HasWhatItNeeds : Text × List Row → Type 0
HasWhatItNeeds command = ((command.0 ≡ codes "compile")
    × IsSome (first_of (codes "RULES") command.1) × IsSome (first_of (codes "WDT") command.1) × IsSome (first_of (codes "ADT") command.1))
    ⊎ ((command.0 ≡ codes "run")
    × IsSome (first_of (codes "schedule") command.1) × IsSome (first_of (codes "stream") command.1) × IsSome (first_of (codes "out") command.1)
    × IsSome (all_of (codes "RULES") command.1))

-- nothing is wrong with the words, and the command that they give has what it needs
abbrev pub GiveAPlan : List Text → Type 0
GiveAPlan words = (fault_of command_line words ≡ []) × IsSomeAnd (given words) HasWhatItNeeds

-- a command line of each command
abbrev pub compile_words : List Text
compile_words = codes "flight_run" ∷ codes "compile" ∷ codes "rules.txt" ∷ codes "wdt.tbl" ∷ codes "adt.tbl" ∷ []

abbrev pub run_words : List Text
run_words = codes "flight_run" ∷ codes "run" ∷ codes "--schedule" ∷ codes "schedule.txt" ∷ codes "--stream" ∷ codes "bus.stream" ∷ codes "--out" ∷ codes "packets"
    ∷ codes "rules.txt" ∷ codes "other.txt" ∷ []

-- options after the files, and with `=`
abbrev pub run_words_otherwise : List Text
run_words_otherwise = codes "flight_run" ∷ codes "run" ∷ codes "rules.txt" ∷ codes "other.txt" ∷ codes "--out=packets" ∷ codes "--stream=bus.stream"
    ∷ codes "--schedule=schedule.txt" ∷ []

-- without its last file
abbrev pub words_lacking_a_file : List Text
words_lacking_a_file = codes "flight_run" ∷ codes "compile" ∷ codes "rules.txt" ∷ codes "wdt.tbl" ∷ []
