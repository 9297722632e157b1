-- A text has at most one fault.
use Rattle.std.proofs.Common.{◌≡◌, refl, sym, ◌∙◌, ℕ, ◌≤◌, ◌<◌, ◌⊎◌, inl, inr, cond, ◌==◌, List, length, arith}
use Rattle.lc_model.specs.Text.Token.{Token, Splits, HasBadToken, longest_text}
use Rattle.lc_model.specs.Laws.Reading.{AtMostOneBadToken}
use Rattle.rule_lexer.specs.declared.error.LexError.{LexError}
use Rattle.rule_lexer.specs.declared.error.LexError.TheVariants.{BadByte, BadNumber, NameTooLong, BadString, TextTooLong, Memory}
use Rattle.rule_lexer.specs.Fault.{IsFault}
use Rattle.lc_model.proofs.Texts.OneBadToken.{one_bad_token, splits_has_no_bad_token}
use Rattle.rule_lexer.specs.Laws.{AtMostOneFault}

-- the error of a bad token
error_at : ℕ → ℕ → LexError
error_at code at = cond (code == 1) (BadByte at) (cond (code == 2) (BadNumber at) (cond (code == 3) (NameTooLong at) (BadString at)))

-- a fault is the text's length, or a bad token
abbrev Sort : List ℕ → LexError → Type 0
Sort text error =
    ((error ≡ TextTooLong) × (longest_text < length text))
    ⊎ ((code : ℕ) × (at : ℕ) × (error ≡ error_at code at) × (length text ≤ longest_text) × HasBadToken text code at)

sort : (text : List ℕ) (error : LexError) → IsFault text error → Sort text error
unfolding error_at
sort text (BadByte at) is = inr (1, at, refl, is.0, is.1)
sort text (BadNumber at) is = inr (2, at, refl, is.0, is.1)
sort text (NameTooLong at) is = inr (3, at, refl, is.0, is.1)
sort text (BadString at) is = inr (4, at, refl, is.0, is.1)
sort text TextTooLong is = inl (refl, is)
sort text Memory is = absurd is

same : (text : List ℕ) (error other : LexError) → AtMostOneBadToken text → Sort text error → Sort text other → error ≡ other
same text error other one (inl long) (inl long') = long.0 ∙ sym long'.0
same text error other one (inl long) (inr (code, at, is, short, bad)) = absurd (omega (arith, long.1, short))
same text error other one (inr (code, at, is, short, bad)) (inl long) = absurd (omega (arith, long.1, short))
same text error other one (inr (code, at, is, short, bad)) (inr (code', at', is', short', bad')) =
    let e = one.one_bad_token code at code' at' bad bad' in
    is ∙ (λ i. error_at (e.0 i) (e.1 i)) ∙ sym is'

apart : (text : List ℕ) (tokens : List Token) (error : LexError) → AtMostOneBadToken text → Splits text tokens → Sort text error → ⊥
apart text tokens error one splits (inl long) = let short = splits.0 in omega (arith, long.1, short)
apart text tokens error one splits (inr (code, at, is, short, bad)) = one.not_both tokens code at splits bad

bad_token : (text : List ℕ) → AtMostOneBadToken text
bad_token text = record { one_bad_token = λ code at other place. one_bad_token text code at other place; not_both = splits_has_no_bad_token text }

pub at_most_one_fault : (text : List ℕ) → AtMostOneFault text
at_most_one_fault text = record {
  one_fault = λ error other is is'. same text error other (bad_token text) (sort text error is) (sort text other is');
  not_both = λ tokens error splits is. apart text tokens error (bad_token text) splits (sort text error is);
}
