-- The parts of a `RuleText`. This project's own.
use Rattle.std.specs.Prelude.{◌≡◌, ℕ, List}
use Rattle.std.specs.List.{AllZip}
use Rattle.lc_model.specs.Text.Syntax.{Item}
use Rattle.lc_model.specs.Text.Token.{Splits}
use Rattle.rule_lexer.specs.Token.{tokens_of}
use Rattle.rule_parser.specs.Syntax.{items_of}
use Rattle.rpn_compiler.specs.Read.{IsRead}
use Rattle.rpn_compiler.specs.declared.rule_text.RuleText.{RuleText}

-- The bytes of the text.
abbrev pub bytes_in : RuleText → List ℕ
bytes_in text = text.bytes.now

-- The items of the text.
abbrev pub items_in : RuleText → List Item
items_in text = items_of text.file.items.items

-- Its tokens and items are those of its bytes, and its rules are those that the items mean.
pub record IsRuleText (text : RuleText) : Type 0 where
  pub splits : Splits (bytes_in text) (tokens_of text.tokens.items)
  pub read : IsRead (bytes_in text) (items_in text) text.rules.rules

-- The text was read from `source`.
pub record IsTextOf (source : List ℕ) (text : RuleText) : Type 0 where
  pub bytes : bytes_in text ≡ source
  pub reads : IsRuleText text

-- Each text was read from the source at its place.
abbrev pub AreTextsOf : List (List ℕ) → List RuleText → Type 0
AreTextsOf sources texts = AllZip IsTextOf sources texts
