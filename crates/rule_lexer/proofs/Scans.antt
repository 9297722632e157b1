-- The tokens so far, and one more.
use Rattle.std.proofs.Common.{◌≡◌, sym, ap, subst, ℕ, ◌+◌, ◌≤◌, List, [], ◌∷◌, ◌++◌, length, append-nil, Some, None, arith}
use Rattle.std.specs.Prelude.{All}
use Rattle.std.proofs.lemmas.List.{map-append}
use Rattle.std.proofs.lemmas.List.Elements.{All-push}
use Rattle.lc_model.specs.Text.Token as model
use Rattle.lc_model.specs.Text.Token.{Cuts, here, HasBadToken, IsBad, Splits, longest_text}
use Rattle.rule_lexer.specs.declared.error.LexError.{LexError}
use Rattle.rule_lexer.specs.declared.error.LexError.TheVariants.{BadByte, BadNumber, NameTooLong, BadString, TextTooLong, Memory}
use Rattle.rule_lexer.specs.declared.token.Token.{Token}
use Rattle.rule_lexer.specs.Token.{token_of, tokens_of, HasItsKind}
use Rattle.rule_lexer.specs.Fault.{IsFault}
use Rattle.rule_lexer.specs.Front.{IsBadFront}
use Rattle.rule_lexer.specs.Step.{IsStep, IsFaultBehindGap}
use Rattle.rule_lexer.proofs.Cutting.{join, cut_length}

-- the text is these tokens up to here, each of its kind
pub record SoFar (text : List ℕ) (tokens : List Token) (at : ℕ) (rest : List ℕ) : Type 0 where
  pub cuts : Cuts 0 text (tokens_of tokens) at rest
  pub kinds : All HasItsKind tokens
  pub short : length text ≤ longest_text

pub none_yet : (text : List ℕ) → length text ≤ longest_text → SoFar text [] 0 text
none_yet text short = record { cuts = here; kinds = λ k d within. absurd (omega arith); short = short }

pub room : (text : List ℕ) (tokens : List Token) (at : ℕ) (rest : List ℕ) → SoFar text tokens at rest → at + length rest ≤ longest_text
room text tokens at rest so = let short = so.short in omega (arith, cut_length so.cuts)

pub one_more : (text : List ℕ) (tokens : List Token) (at : ℕ) (rest : List ℕ) (end : ℕ) (tail : List ℕ) (t : Token) →
    SoFar text tokens at rest → IsStep at rest end tail (Some t) → SoFar text (tokens ++ t ∷ []) end tail
one_more text tokens at rest end tail t so step = record {
  cuts = subst (λ (ts : List model.Token). Cuts 0 text ts end tail) (sym (map-append token_of tokens (t ∷ []))) (join so.cuts step.0);
  kinds = All-push HasItsKind tokens t so.kinds step.1;
  short = so.short;
}

still : (text : List ℕ) (tokens : List Token) {at end : ℕ} {rest tail : List ℕ} → Cuts 0 text (tokens_of tokens) at rest →
    Cuts at rest [] end tail → Cuts 0 text (tokens_of tokens) end tail
still text tokens {end = end} {tail = tail} cuts gap =
    subst (λ (ts : List model.Token). Cuts 0 text ts end tail) (append-nil (tokens_of tokens)) (join cuts gap)

pub whole_text : (text : List ℕ) (tokens : List Token) (at : ℕ) (rest : List ℕ) (end : ℕ) (tail : List ℕ) →
    SoFar text tokens at rest → IsStep at rest end tail None → Splits text (tokens_of tokens)
whole_text text tokens at rest end tail so step =
    (so.short, subst (λ n. Cuts 0 text (tokens_of tokens) n []) size (subst (λ xs. Cuts 0 text (tokens_of tokens) end xs) step.1 (still text tokens so.cuts step.0)))
  where
    size : end ≡ length text
    size = omega (arith, cut_length (still text tokens so.cuts step.0), ap length step.1)

pub fault_of_text : (text : List ℕ) (tokens : List Token) (at : ℕ) (rest : List ℕ) (error : LexError) →
    SoFar text tokens at rest → IsFaultBehindGap at rest error → IsFault text error
fault_of_text text tokens at rest error so (mid, tail, gap, bad) = go error bad
  where
    cuts : Cuts 0 text (tokens_of tokens) mid tail
    cuts = still text tokens so.cuts gap

    there : (code place : ℕ) → place ≡ mid → IsBad code tail → (length text ≤ longest_text) × HasBadToken text code place
    there code place same is = (so.short, (tokens_of tokens, tail, subst (λ n. Cuts 0 text (tokens_of tokens) n tail) (sym same) cuts, is))

    go : (error : LexError) → IsBadFront mid tail error → IsFault text error
    go (BadByte place) bad = there 1 place bad.0 bad.1
    go (BadNumber place) bad = there 2 place bad.0 bad.1
    go (NameTooLong place) bad = there 3 place bad.0 bad.1
    go (BadString place) bad = there 4 place bad.0 bad.1
    go TextTooLong bad = absurd bad
    go Memory bad = absurd bad
