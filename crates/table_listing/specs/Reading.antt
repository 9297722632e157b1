-- How the grammar of rule texts reads the text of a decompiled condition, with a comparison for each watchpoint. This
-- project's own.
use Rattle.std.specs.Prelude.{◌≡◌, ℕ, Bool, if◌then◌else◌, List, [], ◌∷◌, ◌++◌, flat_map, codes}
use Rattle.std.specs.Fmt.{decimal}
use Rattle.lc_model.specs.Condition.{Operator, And, Or, Xor}
use Rattle.lc_model.specs.Text.Token.{Token}
use Rattle.lc_model.specs.Text.Class.{Class, word, sign, Fits}
use Rattle.lc_model.specs.Text.Syntax as syntax
use Rattle.lc_model.specs.Text.Syntax.{Expression}
use Rattle.lc_model.specs.Text.Grammar.{Derives, cond, nots}
use Rattle.table_listing.specs.Formula.{Formula, Watch, Not, Join}
use Rattle.table_listing.specs.ConditionText.{condition_text, operator_name, needed_in_not, needed_first, needed_second}

-- the symbols of a condition's text
pub data Symbol : Type 0 where
  Watchpoint : (n : ℕ) → Symbol
  Joining : (o : Operator) → Symbol
  Negating Opening Closing : Symbol

-- the symbols, with parentheses if they are needed
abbrev pub enclosed : Bool → List Symbol → List Symbol
enclosed needed symbols = if needed then Opening ∷ symbols ++ Closing ∷ [] else symbols

-- the symbols of a formula's text
abbrev pub symbols_of : Formula → List Symbol
symbols_of (Watch n) = Watchpoint n ∷ []
symbols_of (Not f) = Negating ∷ enclosed (needed_in_not f) (symbols_of f)
symbols_of (Join o a b) = enclosed (needed_first o a) (symbols_of a) ++ Joining o ∷ enclosed (needed_second o b) (symbols_of b)

-- the class of an operator's word
abbrev pub class_of : Operator → Class
class_of And = word "and"
class_of Or = word "or"
class_of Xor = word "xor"

-- the tokens for each symbol, and the meaning of a watchpoint's tokens
pub record Tokens : Type 0 where
  pub comparison : ℕ → List Token
  pub said : ℕ → Expression
  pub joining : Operator → Token
  pub negating : Token
  pub opening : Token
  pub closing : Token

-- a watchpoint's tokens are a comparison with this meaning, and each word and parenthesis has its own token
pub record Stand (t : Tokens) : Type 0 where
  pub compares : (n : ℕ) → Derives nots (t.comparison n) (t.said n)
  pub joins : (o : Operator) → Fits (class_of o) (t.joining o)
  pub negates : Fits (word "not") t.negating
  pub opens : Fits (sign "(") t.opening
  pub closes : Fits (sign ")") t.closing

-- the tokens of a symbol
abbrev pub tokens_of : Tokens → Symbol → List Token
tokens_of t (Watchpoint n) = t.comparison n
tokens_of t (Joining o) = t.joining o ∷ []
tokens_of t Negating = t.negating ∷ []
tokens_of t Opening = t.opening ∷ []
tokens_of t Closing = t.closing ∷ []

-- the meaning of a formula, with a comparison for each watchpoint
abbrev pub expression_of : Tokens → Formula → Expression
expression_of t (Watch n) = t.said n
expression_of t (Not f) = syntax.Not (expression_of t f)
expression_of t (Join o a b) = syntax.Join o (expression_of t a) (expression_of t b)

-- the tokens of a formula's text mean the formula, and nothing else
pub record ReadsAs (t : Tokens) (f : Formula) : Type 0 where
  pub derives : Derives cond (flat_map (tokens_of t) (symbols_of f)) (expression_of t f)
  pub only : (e : Expression) → Derives cond (flat_map (tokens_of t) (symbols_of f)) e → e ≡ expression_of t f

-- this holds for every formula
abbrev pub TextsReadAsTheirTrees : Type 0
TextsReadAsTheirTrees = (t : Tokens) (f : Formula) → Stand t → ReadsAs t f

-- ---- the letters of symbols

abbrev pub symbol_text : Symbol → List ℕ
symbol_text (Watchpoint n) = codes "w" ++ decimal n
symbol_text (Joining o) = operator_name o
symbol_text Negating = codes "not"
symbol_text Opening = codes "("
symbol_text Closing = codes ")"

-- a blank stands between two symbols, but not after an opening and not before a closing parenthesis
abbrev pub blank_between : Symbol → Symbol → List ℕ
blank_between Opening after = []
blank_between before Closing = []
blank_between before after = codes " "

-- the symbols in order, with their blanks
abbrev pub spaced : List Symbol → List ℕ
spaced [] = []
spaced (s ∷ []) = symbol_text s
spaced (s ∷ r ∷ rest) = symbol_text s ++ (blank_between s r ++ spaced (r ∷ rest))

-- the text of a formula is that of its symbols
abbrev pub TextsAreTheirSymbols : Type 0
TextsAreTheirSymbols = (f : Formula) → condition_text f ≡ spaced (symbols_of f)
