-- Laws of the parser's definitions.
use Rattle.std.specs.Prelude.{◌≡◌, ℕ, List}
use Rattle.lc_model.specs.Text.Token.{Token}
use Rattle.lc_model.specs.Text.Syntax.{Item}
use Rattle.lc_model.specs.Text.Reading.{Parses, ParseFault, HasParseFault}

-- Tokens have at most one list of items or at most one fault, in a text that ends at `end`, and not both.
pub record AtMostOneParse (end : ℕ) (tokens : List Token) : Type 0 where
  pub one_list : (items others : List Item) → Parses tokens items → Parses tokens others → items ≡ others
  pub one_fault : (fault other : ParseFault) → HasParseFault end tokens fault → HasParseFault end tokens other → fault ≡ other
  pub not_both : (items : List Item) (fault : ParseFault) → Parses tokens items → ¬ HasParseFault end tokens fault
