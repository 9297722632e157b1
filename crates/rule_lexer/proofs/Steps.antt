-- What a step over a gap and a token gives.
use Rattle.std.proofs.Common.{◌≡◌, sym, ◌∙◌, ap, subst, ℕ, ◌+◌, ◌-◌, ◌≤◌, ◌<◌, true, List, [], ◌∷◌, ◌++◌, length, take, drop, Some, length-drop, length-take-le, take-append-drop, arith}
use Rattle.lc_model.specs.Text.Token as model
use Rattle.lc_model.specs.Text.Token.{Cuts, here, token, is_token}
use Rattle.rule_lexer.specs.declared.lexeme.Lexeme.{Lexeme}
use Rattle.rule_lexer.specs.declared.token.Token.{Token}
use Rattle.rule_lexer.specs.declared.token.TokenKind.{TokenKind}
use Rattle.rule_lexer.specs.Token.{IsKind, token_of, HasItsKind}
use Rattle.rule_lexer.specs.Front.{IsFront, IsFrontToken, IsGap}
use Rattle.rule_lexer.specs.Step.{IsStep}
use Rattle.rule_lexer.proofs.Cutting.{join}

some_token : (w : List ℕ) → is_token w ≡ true → 0 < length w
some_token [] is = absurd (cc is)
some_token (c ∷ cs) is = omega arith

-- a token in front is cut off
token_cut : (at : ℕ) (text : List ℕ) (count : ℕ) → IsFront is_token text count →
    Cuts at text (record { at = at; text = take count text } ∷ []) (at + count) (drop count text)
token_cut at text count front =
    subst (λ xs. Cuts at xs (record { at = at; text = take count text } ∷ []) (at + count) (drop count text)) (take-append-drop count text)
    (subst (λ n. Cuts at (take count text ++ drop count text) (record { at = at; text = take count text } ∷ []) (at + n) (drop count text)) size
    (token (take count text) front.passes front.longest here))
  where
    size : length (take count text) ≡ count
    size = let within = front.within in length-take-le count text within

pub some_front : (text : List ℕ) (count : ℕ) → IsFront is_token text count → 0 < count
some_front text count front =
    let within = front.within in
    let some : 0 < length (take count text) = some_token (take count text) front.passes in
    omega (arith, some, length-take-le count text within)

-- a gap up to here
pub gap_cut : (at mid : ℕ) (text rest : List ℕ) (count : ℕ) → IsGap text count → mid ≡ at + count → rest ≡ drop count text → Cuts at text [] mid rest
gap_cut at mid text rest count gap mid_is rest_is =
    subst (λ n. Cuts at text [] n rest) (sym mid_is) (subst (λ xs. Cuts at text [] (at + count) xs) (sym rest_is) (gap.cuts at))

-- a token behind a gap
pub step_over : (at mid end : ℕ) (text rest tail : List ℕ) → Cuts at text [] mid rest → (lexeme : Lexeme) → IsFrontToken rest lexeme →
    length rest ≤ length text → (t : Token) → t.at ≡ mid → t.text.now ≡ take lexeme.length rest → t.kind ≡ lexeme.kind →
    end ≡ mid + lexeme.length → tail ≡ drop lexeme.length rest → IsStep at text end tail (Some t)
step_over at mid end text rest tail gap lexeme is fewer t at_is text_is kind_is end_is tail_is = (cut, kind, shorter)
  where
    one : record { at = mid; text = take lexeme.length rest } ≡ token_of t
    one = λ i. record { at = sym at_is i; text = sym text_is i }

    cut : Cuts at text (token_of t ∷ []) end tail
    cut =
        subst (λ n. Cuts at text (token_of t ∷ []) n tail) (sym end_is)
        (subst (λ xs. Cuts at text (token_of t ∷ []) (mid + lexeme.length) xs) (sym tail_is)
        (subst (λ (u : model.Token). Cuts at text (u ∷ []) (mid + lexeme.length) (drop lexeme.length rest)) one
        (join gap (token_cut mid rest lexeme.length is.front))))

    kind : HasItsKind t
    kind = subst (λ xs. IsKind t.kind xs) (sym text_is) (subst (λ (k : TokenKind). IsKind k (take lexeme.length rest)) (sym kind_is) is.kind)

    shorter : length tail < length text
    shorter =
        let some : 0 < lexeme.length = some_front rest lexeme.length is.front in
        let within = is.front.within in
        let size : length tail ≡ length rest - lexeme.length = ap length tail_is ∙ length-drop lexeme.length rest in
        omega (arith, size)
