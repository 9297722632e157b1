-- The laws of the layout. This project's own.
use Rattle.std.specs.Prelude.{◌≡◌, ℕ, ◌≤◌, List, length}
use Rattle.lc_model.specs.Rule.{NamedRule}
use Rattle.lc_model.specs.Text.Reading.{Reads}
use Rattle.lc_model.specs.Text.Token.{longest_text}
use Rattle.rule_layout.specs.Formatting.{IsFormatted}
use Rattle.rule_layout.specs.Parts.{HaveSameParts}

-- formatting leaves the tokens and comments of a text, and their order
abbrev pub KeepsParts : Type 0
KeepsParts = (text other : List ℕ) → IsFormatted text other → HaveSameParts text other

-- formatting a formatted text gives that text again
abbrev pub FormatsOnce : Type 0
FormatsOnce = (text other again : List ℕ) → IsFormatted text other → IsFormatted other again → again ≡ other

-- texts with the same tokens and comments have the same rules, if both are short enough for a text
abbrev pub KeepsRules : Type 0
KeepsRules = (text other : List ℕ) (rules : List NamedRule) → HaveSameParts text other → length other ≤ longest_text →
    Reads text rules → Reads other rules
