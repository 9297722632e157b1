-- Commands in words: modes, states of rules, and filters of events. This project's own.
use Rattle.std.specs.Prelude.{ℕ, Bool, not, ◌&&◌, List, [], ◌∷◌, ◌++◌, length, codes, bytes_eq, nat_le, nat_lt, Option, Some, None, option_map, Result, Ok, Err, if◌then◌else◌}
use Rattle.std.specs.Fmt.{decimal}
use Rattle.lc_model.specs.Bytes.{u16, zero_filled}
use Rattle.lc_model.specs.Codes.{state_code}
use Rattle.lc_model.specs.Name.{app_name_size}
use Rattle.lc_model.specs.Packet.{event_services_mid, lc_command_mid}
use Rattle.lc_model.specs.Text.Class.{state}
use Rattle.stream_script.specs.Number.{decimal_number}
use Rattle.table_listing.specs.Shown.{in_hex}
use Rattle.scenarios.specs.declared.error.Reason.{Reason}
use Rattle.scenarios.specs.declared.error.Reason.TheVariants.{NoFilter, NoMode, NoState, UnknownRule}
use Rattle.scenarios.specs.Error.{◌>>=◌}
use Rattle.scenarios.specs.Named.{NamedRule}
use Rattle.scenarios.specs.Number.{number_in}
use Rattle.scenarios.specs.Rules.{rule_named}

-- `command MID CODE BYTES`
abbrev pub command_line : (mid code : ℕ) → List ℕ → List ℕ
command_line mid code payload = codes "command " ++ (in_hex (u16 mid) ++ (codes " " ++ (decimal code ++ (codes " " ++ in_hex payload))))

-- the number of a mode or of a state that a command sets: they have the same words and numbers
abbrev pub standing_number : List ℕ → Option ℕ
standing_number word = option_map state_code (state word)

-- ---- `mode MODE`: the Limit Checker's command 2

abbrev pub mode_by : Option ℕ → Result (List ℕ) Reason
mode_by None = Err NoMode
mode_by (Some mode) = Ok (command_line lc_command_mid 2 (u16 mode ++ u16 0))

abbrev pub mode_line : List (List ℕ) → Result (List ℕ) Reason
mode_line (mode ∷ []) = mode_by (standing_number mode)
mode_line words = Err NoMode

-- ---- `state RULE STATE`, where a text is in force: the Limit Checker's command 3, or 4 where the rule is off from then on

-- the word of all rules, and their number
abbrev pub is_all : List ℕ → Bool
is_all word = bytes_eq word (codes "all")

abbrev pub all_rules : ℕ
all_rules = 65535

-- the number of a rule that is there
abbrev pub number_of_rule : Option NamedRule → Result ℕ Reason
number_of_rule None = Err UnknownRule
number_of_rule (Some rule) = Ok rule.number

-- the number of a rule that a word writes, which is not that of all
abbrev pub number_written : ℕ → Result ℕ Reason
number_written number = if nat_lt number all_rules then Ok number else Err UnknownRule

-- a word that writes a number is a rule's number, and any other its name: no name begins with a digit
abbrev pub rule_by : Option ℕ → Option ℕ → List ℕ → List NamedRule → Result ℕ Reason
rule_by (Some number) force word rules = number_written number
rule_by None force word rules = number_of_rule (rule_named force word rules)

abbrev pub rule_number : Option ℕ → List ℕ → List NamedRule → Result ℕ Reason
rule_number force word rules = if is_all word then Ok all_rules else rule_by (decimal_number word) force word rules

abbrev pub state_by : ℕ → Option ℕ → Result (List ℕ) Reason
state_by rule None = Err NoState
state_by rule (Some state) = Ok (command_line lc_command_mid 3 (u16 rule ++ u16 state))

-- what all rules can't be is off
abbrev pub is_off : List ℕ → List ℕ → Bool
is_off name state = bytes_eq state (codes "off") && not (is_all name)

abbrev pub state_of : List ℕ → List ℕ → ℕ → Result (List ℕ) Reason
state_of name state rule =
    if is_off name state then Ok (command_line lc_command_mid 4 (u16 rule ++ u16 0))
    else state_by rule (standing_number state)

abbrev pub state_said : List NamedRule → Option ℕ → List ℕ → List ℕ → Result (List ℕ) Reason
state_said rules force name state = rule_number force name rules >>= state_of name state

abbrev pub state_line : List NamedRule → Option ℕ → List (List ℕ) → Result (List ℕ) Reason
state_line rules force (name ∷ state ∷ []) = state_said rules force name state
state_line rules force words = Err NoState

-- ---- `filter APPLICATION EVENT MASK`: the event services' command 1

abbrev pub some_name : List ℕ → Result (List ℕ) Reason
some_name name = if nat_le (length name) app_name_size then Ok (zero_filled app_name_size name) else Err NoFilter

abbrev pub filter_of : List ℕ → List ℕ → List ℕ → Result (List ℕ) Reason
filter_of name event mask = do
  field ← some_name name
  e ← number_in 65535 event
  m ← number_in 65535 mask
  Ok (command_line event_services_mid 1 (field ++ u16 e ++ u16 m))

abbrev pub filter_line : List (List ℕ) → Result (List ℕ) Reason
filter_line (name ∷ event ∷ mask ∷ []) = filter_of name event mask
filter_line words = Err NoFilter
