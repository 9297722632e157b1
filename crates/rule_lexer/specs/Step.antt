-- One step from a token to the next. This project's own.
use Rattle.std.specs.Prelude.{◌≡◌, ℕ, ◌<◌, List, [], ◌∷◌, length, Option, Some, None}
use Rattle.lc_model.specs.Text.Token.{Cuts}
use Rattle.rule_lexer.specs.declared.error.LexError.{LexError}
use Rattle.rule_lexer.specs.declared.token.Token.{Token}
use Rattle.rule_lexer.specs.Token.{token_of, HasItsKind}
use Rattle.rule_lexer.specs.Front.{IsBadFront}

-- From place `at` on the text is blanks and comments, then this token; `rest` follows it at `end`. If there is no token, the
-- text ends after the blanks and comments.
abbrev pub IsStep : ℕ → List ℕ → ℕ → List ℕ → Option Token → Type 0
IsStep at text end rest None = Cuts at text [] end rest × (rest ≡ [])
IsStep at text end rest (Some t) =
    Cuts at text (token_of t ∷ []) end rest × HasItsKind t × (length rest < length text)

-- From place `at` on the text is blanks and comments, and then has this fault.
abbrev pub IsFaultBehindGap : ℕ → List ℕ → LexError → Type 0
IsFaultBehindGap at text error = (here : ℕ) × (rest : List ℕ) × Cuts at text [] here rest × IsBadFront here rest error
