-- Rules by their names, and the rule text that is in force. This project's own.
use Rattle.std.specs.Prelude.{ℕ, Bool, false, not, ◌&&◌, ◌==◌, List, [], ◌∷◌, drop, bytes_eq, nat_le, Option, Some, None, find, option_map, if◌then◌else◌}
use Rattle.std.specs.List.{before_first, list_any, position_or_len}
use Rattle.stream_script.specs.Number.{decimal_number}
use Rattle.scenarios.specs.declared.force.ForceChange.{ForceChange}
use Rattle.scenarios.specs.Declarations.{Declarations}
use Rattle.scenarios.specs.Named.{NamedRule}

-- ---- the text in force

-- the text in force at a line, after these changes of another text
abbrev pub force_behind : Option ℕ → List ForceChange → ℕ → Option ℕ
force_behind text [] line = text
force_behind text (change ∷ changes) line = if nat_le change.line line then force_behind change.text changes line else text

-- the text in force at a line of the plain script, by the changes up to the first that comes later; none before them
abbrev pub force_at : List ForceChange → ℕ → Option ℕ
force_at changes line = force_behind None changes line

-- ---- the rule that a word names

-- the first rule of a name
abbrev pub first_rule : List ℕ → List NamedRule → Option NamedRule
first_rule name rules = find (λ (r : NamedRule). bytes_eq r.name name) rules

-- the rule of a name in the text with this number
abbrev pub rule_of_text : ℕ → List ℕ → List NamedRule → Option NamedRule
rule_of_text text name rules = find (λ (r : NamedRule). r.text == text && bytes_eq r.name name) rules

-- that rule, or the first of its name where the text has none
abbrev pub or_first : Option NamedRule → List ℕ → List NamedRule → Option NamedRule
or_first None name rules = first_rule name rules
or_first (Some rule) name rules = Some rule

-- NAME: the rule of the text in force, or the first of its name where none is in force, or that has none
abbrev pub rule_in_force : Option ℕ → List ℕ → List NamedRule → Option NamedRule
rule_in_force None name rules = first_rule name rules
rule_in_force (Some text) name rules = or_first (rule_of_text text name rules) name rules

-- N:NAME: the rule of text N, whatever is in force
abbrev pub rule_by_number : Option ℕ → List ℕ → List NamedRule → Option NamedRule
rule_by_number None name rules = None
rule_by_number (Some text) name rules = rule_of_text text name rules

-- the sign between a text's number and a rule's name
abbrev pub is_colon : ℕ → Bool
is_colon byte = byte == 58

-- the rule that a word names, with what stands from its first colon on
abbrev pub rule_behind : Option ℕ → List ℕ → List NamedRule → List ℕ → Option NamedRule
rule_behind force word rules [] = rule_in_force force word rules
rule_behind force word rules (colon ∷ name) = rule_by_number (decimal_number (before_first is_colon word)) name rules

-- the rule that a word names, where this text is in force
abbrev pub rule_named : Option ℕ → List ℕ → List NamedRule → Option NamedRule
rule_named force word rules = rule_behind force word rules (drop (position_or_len is_colon word) word)

-- its number in its text
abbrev pub number_of : Option NamedRule → Option ℕ
number_of rule = option_map (λ (r : NamedRule). r.number) rule

-- the number of the rule that a word names among those that are declared
abbrev pub rule_numbered : Declarations → Option ℕ → List ℕ → Option ℕ
rule_numbered declared force word = number_of (rule_named force word declared.rules)

-- ---- names that texts give to different numbers

-- whether another rule of this name has another number
abbrev pub differ_from : Option ℕ → List ℕ → List NamedRule → Bool
differ_from None name rules = false
differ_from (Some number) name rules = list_any (λ (r : NamedRule). bytes_eq r.name name && not (r.number == number)) rules

-- whether the rules of a name have different numbers in their texts
abbrev pub numbers_differ : Declarations → List ℕ → Bool
numbers_differ declared name = differ_from (number_of (first_rule name declared.rules)) name declared.rules
