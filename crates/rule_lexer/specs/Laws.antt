-- The laws of the lexer's definitions.
use Rattle.std.specs.Prelude.{◌≡◌, ℕ, List}
use Rattle.lc_model.specs.Text.Token.{Token, Splits}
use Rattle.lc_model.specs.Text.Class.{Class, fits}
use Rattle.rule_lexer.specs.declared.error.LexError.{LexError}
use Rattle.rule_lexer.specs.declared.token.TokenKind.{TokenKind}
use Rattle.rule_lexer.specs.Token.{IsKind}
use Rattle.rule_lexer.specs.Fault.{IsFault}
use Rattle.rule_lexer.specs.Fitting.{IsOfGrammar, kind_fits}

-- A text has at most one fault, and none if it splits into tokens.
pub record AtMostOneFault (text : List ℕ) : Type 0 where
  pub one_fault : (error other : LexError) → IsFault text error → IsFault text other → error ≡ other
  pub not_both : (tokens : List Token) (error : LexError) → Splits text tokens → ¬ IsFault text error

-- Law: the kind of a token decides to which classes of the grammar it belongs.
abbrev pub KindsDecideClasses : Type 0
KindsDecideClasses = (class : Class) (kind : TokenKind) (text : List ℕ) →
    IsOfGrammar class → IsKind kind text → fits class text ≡ kind_fits class kind
