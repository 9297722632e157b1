-- The rule text whose rule a word names. This project's own.
use Rattle.std.specs.Prelude.{ℕ, Bool, false, List, [], ◌∷◌, drop, slice_get, bytes_eq, Option, Some, None, if◌then◌else◌}
use Rattle.std.specs.List.{before_first, list_any, position, position_or_len}
use Rattle.lc_model.specs.Rule.{NamedRule}
use Rattle.rpn_compiler.specs.declared.rule_text.RuleText.{RuleText}
use Rattle.scenarios.specs.Rules.{is_colon}
use Rattle.stream_script.specs.Number.{decimal_number}

-- one of some rules has this name
abbrev pub is_named : List ℕ → NamedRule → Bool
is_named name rule = bytes_eq rule.name name

abbrev pub has_named : List ℕ → List NamedRule → Bool
has_named name rules = list_any (is_named name) rules

-- a rule text has a rule of this name
abbrev pub has_rule : List ℕ → RuleText → Bool
has_rule name text = has_named name text.rules.rules

abbrev pub has_rule_at : List ℕ → Option RuleText → Bool
has_rule_at name None = false
has_rule_at name (Some text) = has_rule name text

-- NAME: the text in force, where it has such a rule, or else the first text that has one
abbrev pub text_with : List RuleText → ℕ → List ℕ → Option ℕ
text_with texts force name = if has_rule_at name (slice_get texts force) then Some force else position (has_rule name) texts

-- N:NAME: text N
abbrev pub text_behind : List RuleText → ℕ → List ℕ → List ℕ → Option ℕ
text_behind texts force word [] = text_with texts force word
text_behind texts force word (colon ∷ name) = decimal_number (before_first is_colon word)

-- the number of the text whose rule a word names, where the text with this number is in force
abbrev pub text_named : List RuleText → ℕ → List ℕ → Option ℕ
text_named texts force word = text_behind texts force word (drop (position_or_len is_colon word) word)
