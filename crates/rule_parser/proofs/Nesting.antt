-- A token that nests, where it stands next.
use Rattle.std.proofs.Common.{◌≡◌, refl, sym, ◌∙◌, ap, true, List, [], ◌∷◌, Option, Some, None}
use Rattle.lc_model.specs.Text.Token as model
use Rattle.lc_model.specs.Text.Class.{Class, Fits}
use Rattle.rule_lexer.specs.declared.token.Token.{Token}
use Rattle.rule_parser.specs.Front.{IsNext, begins}
use Rattle.rule_parser.specs.Left.{Left, place}

-- the token that stands next
pub first_is : (wanted : Class) (left : Left) → begins wanted left.tokens ≡ true →
    (t : model.Token) × (ts : List model.Token) × (left.tokens ≡ t ∷ ts) × Fits wanted t × (place left ≡ t.at)
unfolding begins
first_is wanted left e = go left.tokens refl e
  where
    go : (ts : List model.Token) → left.tokens ≡ ts → begins wanted ts ≡ true →
        (t : model.Token) × (us : List model.Token) × (left.tokens ≡ t ∷ us) × Fits wanted t × (place left ≡ t.at)
    go [] is e = absurd (cc e)
    go (t ∷ ts) is e = (t, ts, is, e, ap (λ ts. place (record left { tokens = ts })) is)

-- the wanted token stood in front where it was taken
pub taken : (wanted : Class) (before left : List model.Token) (o : Option Token) → IsNext before left o → begins wanted before ≡ true →
    (t : model.Token) × (before ≡ t ∷ left) × Fits wanted t
unfolding begins
taken wanted before left None next e = absurd (cc (ap (begins wanted) next, e))
taken wanted before left (Some t) next e = (_, next.0, sym (ap (begins wanted) next.0) ∙ e)
