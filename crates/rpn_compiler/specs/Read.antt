-- The items and rules of a text that has a reading. This project's own.
use Rattle.std.specs.Prelude.{ℕ, List}
use Rattle.lc_model.specs.Rule.{NamedRule}
use Rattle.lc_model.specs.Text.Meaning.{Means}
use Rattle.lc_model.specs.Text.Reading.{Parses}
use Rattle.lc_model.specs.Text.Syntax.{Item}
use Rattle.lc_model.specs.Text.Token.{Token, Splits}

-- The text splits into tokens with these items.
pub record HasItems (text : List ℕ) (items : List Item) : Type 0 where
  pub tokens : List Token
  pub splits : Splits text tokens
  pub parses : Parses tokens items

-- The text splits into tokens with these items, and the items mean these rules.
pub record IsRead (text : List ℕ) (items : List Item) (rules : List NamedRule) : Type 0 where
  pub tokens : List Token
  pub splits : Splits text tokens
  pub parses : Parses tokens items
  pub means : Means items rules
