-- What formatting a rule text gives. This project's own.
use Rattle.std.specs.Prelude.{◌≡◌, ◌≢◌, ℕ, ◌<◌, List, length}
use Rattle.lc_model.specs.Text.Token.{Token, Splits, longest_text}
use Rattle.lc_model.specs.Text.Reading.{HasParseFault, Parses}
use Rattle.lc_model.specs.Text.Syntax.{Item}
use Rattle.rule_lexer.specs.Fault.{IsFault}
use Rattle.rule_parser.specs.declared.error.ParseError.TheVariants.{Memory as NoRoom}
use Rattle.rule_parser.specs.Fault.{Refuses}
use Rattle.rule_layout.specs.declared.error.FormatError.{FormatError}
use Rattle.rule_layout.specs.declared.error.FormatError.TheVariants.{Lex, Parse, TooLong, Memory}
use Rattle.rule_layout.specs.Layout.{laid_out}
use Rattle.rule_layout.specs.Shapes.{HasShapes, Shape}

-- the other text is this one's tokens and comments in the one layout
abbrev pub IsFormatted : List ℕ → List ℕ → Type 0
IsFormatted text other = (shapes : List Shape) × HasShapes 0 text shapes × (other ≡ laid_out shapes)

-- the text has items
abbrev pub HasItems : List ℕ → Type 0
HasItems text = (tokens : List Token) × (items : List Item) × Splits text tokens × Parses tokens items

-- the error is the first fault of the text; or its layout would be too long; or there is no memory
abbrev pub IsUnformatted : List ℕ → FormatError → Type 0
IsUnformatted text (Lex error) = IsFault text error
IsUnformatted text (Parse error) =
    (tokens : List Token) × Splits text tokens × Refuses (HasParseFault (length text) tokens) error × (error ≢ NoRoom)
IsUnformatted text TooLong = (other : List ℕ) × IsFormatted text other × (longest_text < length other)
IsUnformatted text Memory = Unit {0}
