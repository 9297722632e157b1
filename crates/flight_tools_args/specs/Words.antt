-- What the words of a command line give. The commands are this project's own; how words are read is `clap`'s.
use Rattle.std.specs.Prelude.{◌≡◌, ℕ, Bool, true, false, List, [], map, codes, option_map, unwrap_or, Option, Some, None, Result, Ok, Err}
use Rattle.std.specs.Borrow.{Bor}
use Rattle.clap.specs.Words.{Row, Text, all_of, first_of, one_of}
use Rattle.clap.specs.declared.error.Error.{Error}
use Rattle.clap.specs.declared.error.kind.ErrorKind.{ErrorKind}
use Rattle.clap.specs.declared.error.kind.ErrorKind.TheVariants as kind
use Rattle.flight_tools_args.specs.declared.error.WordsError.{WordsError}
use Rattle.flight_tools_args.specs.declared.error.WordsError.TheVariants as words
use Rattle.flight_tools_args.specs.declared.kind.CommandKind.{CommandKind}
use Rattle.flight_tools_args.specs.declared.kind.CommandKind.TheVariants as command
use Rattle.flight_tools_args.specs.declared.plan.CommandPlan.{CommandPlan}
use Rattle.flight_tools_args.specs.declared.plan.CommandPlan.TheVariants.{Said, Table, Stream, Packets, Scenario, Import, Export, Report, Check, Explain, Changes, Compare, Try, Live, Format, LanguageServer}
use Rattle.flight_tools_args.specs.declared.plan.ImportWords.{ImportWords}
use Rattle.flight_tools_args.specs.declared.plan.PageWords.{PageWords}
use Rattle.flight_tools_args.specs.declared.plan.RowWords.{RowWords}

-- the answer if no command is found, by the kind of error: help or the version is asked for, or the words are refused
abbrev pub answer_by : ErrorKind → Error → Result CommandPlan WordsError
answer_by kind.DisplayHelp error = Ok (Said error)
answer_by kind.DisplayVersion error = Ok (Said error)
answer_by kind.OutOfMemory error = Err words.Memory
answer_by rest error = Err (words.Refused error)

-- refused words are answered by the option that has another name or place, if there is one
abbrev pub answer_with : Option (Bor (List ℕ) × Bor (List ℕ)) → Result CommandPlan WordsError → Result CommandPlan WordsError
answer_with (Some replaced) (Err (words.Refused error)) = Err (words.Replaced replaced.0 replaced.1)
answer_with replaced answer = answer

-- the word of each command
abbrev pub word_of : CommandKind → Text
word_of command.Table = codes "table"
word_of command.Stream = codes "stream"
word_of command.Packets = codes "packets"
word_of command.Scenario = codes "scenario"
word_of command.Import = codes "import"
word_of command.Export = codes "export"
word_of command.Report = codes "report"
word_of command.Check = codes "check"
word_of command.Changes = codes "changes"
word_of command.Compare = codes "compare"
word_of command.Try = codes "try"
word_of command.Live = codes "live"
word_of command.Format = codes "format"
word_of command.LanguageServer = codes "lsp"

-- whether a flag is given, which is what its row says
abbrev pub IsFlag : Text → List Row → Bool → Type 0
IsFlag id rows is_given = (one_of id rows ≡ Some (codes "true") → is_given ≡ true)
    × (one_of id rows ≡ Some (codes "false") → is_given ≡ false)
    × (one_of id rows ≡ None → is_given ≡ false)

-- what is given of an import's options
abbrev pub HoldsImport : List Row → ImportWords → Type 0
HoldsImport rows how = IsFlag (codes "marked") rows how.marked
    × IsFlag (codes "resync") rows how.resync
    × IsFlag (codes "keep-idle") rows how.keep_idle
    × IsFlag (codes "keep-faulty") rows how.keep_faulty
    × (first_of (codes "only") rows ≡ option_map (λ word. word.now) how.only)
    × (first_of (codes "time-at") rows ≡ option_map (λ word. word.now) how.time_at)
    × (first_of (codes "subtract") rows ≡ option_map (λ word. word.now) how.subtract)
    × (first_of (codes "step") rows ≡ option_map (λ word. word.now) how.step)
    × (first_of (codes "tick") rows ≡ option_map (λ word. word.now) how.tick)
    × (first_of (codes "start") rows ≡ option_map (λ word. word.now) how.start)
    × IsFlag (codes "strict") rows how.strict

-- what is given of the form of a listing
abbrev pub HoldsForm : List Row → RowWords → Type 0
HoldsForm rows how = IsFlag (codes "csv") rows how.csv × IsFlag (codes "json") rows how.json
    × (first_of (codes "epoch") rows ≡ option_map (λ word. word.now) how.epoch)

-- what is given of the times of a page
abbrev pub HoldsPage : List Row → PageWords → Type 0
HoldsPage rows how = (first_of (codes "epoch") rows ≡ option_map (λ word. word.now) how.epoch)
    × (first_of (codes "from") rows ≡ option_map (λ word. word.now) how.from) × (first_of (codes "until") rows ≡ option_map (λ word. word.now) how.until)

-- these are all words of a name, which is given
abbrev pub HasWords : Text → List Row → List (Bor (List ℕ)) → Type 0
HasWords id rows words = all_of id rows ≡ Some (map (λ word. word.now) words)

-- these are all words of a name; none if it isn't given
abbrev pub HoldsWords : Text → List Row → List (Bor (List ℕ)) → Type 0
HoldsWords id rows words = unwrap_or (all_of id rows) [] ≡ map (λ word. word.now) words

-- a plan is of the command with this word, and holds the files that it is given
abbrev pub HoldsRows : Text × List Row → CommandPlan → Type 0
HoldsRows found (Said error) = ⊥
HoldsRows found (Table file watchpoints) = (found.0 ≡ codes "table")
    × (first_of (codes "FILE") found.1 ≡ Some file.now) × (first_of (codes "watchpoints") found.1 ≡ option_map (λ word. word.now) watchpoints)
HoldsRows found (Stream stream rules whole how) = (found.0 ≡ codes "stream")
    × (first_of (codes "stream") found.1 ≡ Some stream.now) × HoldsWords (codes "RULES") found.1 rules.items
    × IsFlag (codes "whole") found.1 whole × HoldsForm found.1 how
HoldsRows found (Packets packets rules how) = (found.0 ≡ codes "packets")
    × (first_of (codes "PACKETS") found.1 ≡ Some packets.now) × HoldsWords (codes "RULES") found.1 rules.items × HoldsForm found.1 how
HoldsRows found (Scenario script out rules) = (found.0 ≡ codes "scenario")
    × (first_of (codes "script") found.1 ≡ Some script.now) × (first_of (codes "out") found.1 ≡ Some out.now)
    × (first_of (codes "RULES") found.1 ≡ option_map (λ word. word.now) rules)
HoldsRows found (Import raw out how) = (found.0 ≡ codes "import")
    × HasWords (codes "RAW") found.1 raw.items × (first_of (codes "out") found.1 ≡ Some out.now) × HoldsImport found.1 how
HoldsRows found (Export stream out) = (found.0 ≡ codes "export")
    × (first_of (codes "stream") found.1 ≡ Some stream.now) × (first_of (codes "out") found.1 ≡ Some out.now)
HoldsRows found (Report schedule stream out rules how) = (found.0 ≡ codes "report")
    × (first_of (codes "schedule") found.1 ≡ Some schedule.now) × (first_of (codes "stream") found.1 ≡ Some stream.now)
    × (first_of (codes "out") found.1 ≡ Some out.now) × HasWords (codes "RULES") found.1 rules.items
    × HoldsPage found.1 how
HoldsRows found (Check schedule rules all strict json) = (found.0 ≡ codes "check")
    × (first_of (codes "schedule") found.1 ≡ option_map (λ word. word.now) schedule) × HasWords (codes "RULES") found.1 rules.items
    × IsFlag (codes "all") found.1 all × IsFlag (codes "strict") found.1 strict × IsFlag (codes "json") found.1 json
    × (first_of (codes "explain") found.1 ≡ None)
HoldsRows found (Explain name) = (found.0 ≡ codes "check") × (first_of (codes "explain") found.1 ≡ Some name.now)
HoldsRows found (Changes old new) = (found.0 ≡ codes "changes")
    × (first_of (codes "OLD") found.1 ≡ Some old.now) × (first_of (codes "NEW") found.1 ≡ Some new.now)
HoldsRows found (Compare schedule stream old new further json fail_on) = (found.0 ≡ codes "compare")
    × (first_of (codes "schedule") found.1 ≡ Some schedule.now) × (first_of (codes "stream") found.1 ≡ Some stream.now)
    × (first_of (codes "OLD") found.1 ≡ Some old.now) × (first_of (codes "NEW") found.1 ≡ Some new.now)
    × HoldsWords (codes "with") found.1 further.items × IsFlag (codes "json") found.1 json
    × (first_of (codes "fail-on") found.1 ≡ option_map (λ word. word.now) fail_on)
HoldsRows found (Try scripts schedule rules strict) = (found.0 ≡ codes "try")
    × HasWords (codes "script") found.1 scripts.items × (first_of (codes "schedule") found.1 ≡ Some schedule.now)
    × HasWords (codes "RULES") found.1 rules.items × IsFlag (codes "strict") found.1 strict
HoldsRows found (Live schedule rules) = (found.0 ≡ codes "live")
    × (first_of (codes "schedule") found.1 ≡ Some schedule.now) × HasWords (codes "RULES") found.1 rules.items
HoldsRows found (Format rules check) = (found.0 ≡ codes "format")
    × HasWords (codes "RULES") found.1 rules.items × IsFlag (codes "check") found.1 check
HoldsRows found LanguageServer = found.0 ≡ codes "lsp"
