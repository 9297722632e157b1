-- What is read of one token: nothing, where none of its class stands next.
use Rattle.std.proofs.Common.{◌≡◌, refl, sym, subst, ℕ, Bool, true, false, cond, List, [], ◌∷◌, Option, Some, None, is_some}
use Rattle.lc_model.specs.Text.Token.{Token, string_text}
use Rattle.lc_model.specs.Text.Syntax as syntax
use Rattle.lc_model.specs.Text.Class as class
use Rattle.lc_model.specs.Text.Class.{Class, fits, Fits}
use Rattle.lc_model.specs.Text.Grammar.{number_of}
use Rattle.rule_parser.specs.Front.{◌>>=◌, begins, token_at, value_at, number_at, string_at}

-- no token of the class stands next; or one does, and this is read of it
abbrev pub One : {A : Type 0} → Class → (Token → A → Type 0) → List Token → Option (A × List Token) → Type 0
One wanted R tokens None = begins wanted tokens ≡ false
One wanted R tokens (Some x) = (t : Token) × (tokens ≡ t ∷ x.1) × Fits wanted t × R t x.0

one_then : {A : Type 0} (wanted : Class) (R : Token → A → Type 0) (f : Token × List Token → Option (A × List Token)) →
    ((t : Token) (ts : List Token) → Fits wanted t → (a : A) × (f (t, ts) ≡ Some (a, ts)) × R t a) →
    (tokens : List Token) → One wanted R tokens (token_at wanted tokens >>= f)
unfolding begins token_at
one_then wanted R f reads [] = refl
one_then {A} wanted R f reads (t ∷ ts) = go (fits wanted t.text) refl
  where
    go : (b : Bool) → fits wanted t.text ≡ b → One {A = A} wanted R (t ∷ ts) (cond b (Some (t, ts)) None >>= f)
    go true e = let a = reads t ts e in subst (One {A = A} wanted R (t ∷ ts)) (sym a.1) (t, refl, e, a.2)
    go false e = e

pub one_token : (wanted : Class) (tokens : List Token) → One wanted (λ t u. u ≡ t) tokens (token_at wanted tokens)
unfolding begins token_at
one_token wanted [] = refl
one_token wanted (t ∷ ts) = go (fits wanted t.text) refl
  where
    go : (b : Bool) → fits wanted t.text ≡ b → One {A = Token} wanted (λ t u. u ≡ t) (t ∷ ts) (cond b (Some (t, ts)) None)
    go true e = (t, refl, e, refl)
    go false e = e

pub one_number : (tokens : List Token) → One class.Number (λ t n. n ≡ number_of t) tokens (number_at tokens)
unfolding number_at
one_number tokens =
    one_then {A = syntax.Number} class.Number (λ t n. n ≡ number_of t) (λ t. Some (number_of t.0, t.1)) (λ t ts fit. (number_of t, refl, refl)) tokens

pub one_string : (tokens : List Token) → One class.Text (λ t text. text ≡ string_text t.text) tokens (string_at tokens)
unfolding string_at
one_string tokens =
    one_then {A = List ℕ} class.Text (λ t text. text ≡ string_text t.text) (λ t. Some (string_text t.0.text, t.1))
    (λ t ts fit. (string_text t.text, refl, refl)) tokens

pub one_value : {A : Type 0} (wanted : Class) (read : List ℕ → Option A) →
    ((t : Token) → Fits wanted t → is_some (read t.text) ≡ true) →
    (tokens : List Token) → One wanted (λ t v. read t.text ≡ Some v) tokens (value_at wanted read tokens)
unfolding value_at
one_value {A} wanted read reads tokens =
    one_then {A = A} wanted (λ t v. read t.text ≡ Some v) (λ t. ◌>>=◌ {A = A} {B = A × List Token} (read t.0.text) (λ v. Some (v, t.1))) (λ t ts fit. found t ts (read t.text) refl (reads t fit)) tokens
  where
    found : (t : Token) (ts : List Token) (o : Option A) → read t.text ≡ o → is_some o ≡ true →
        (v : A) × (◌>>=◌ {A = A} {B = A × List Token} o (λ v. Some (v, ts)) ≡ Some (v, ts)) × (read t.text ≡ Some v)
    found t ts None is e = absurd (cc e)
    found t ts (Some v) is e = (v, refl, is)
