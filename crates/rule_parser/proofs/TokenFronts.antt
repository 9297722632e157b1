-- What stands in front of tokens, by the kind of the first.
use Rattle.std.proofs.Common.{◌≡◌, refl, sym, ◌∙◌, ap, subst, ℕ, zero, suc, ◌+◌, ◌<◌, ◌≤◌, ◌^◌, Bool, true, false, cond, ◌&&◌, ◌==◌, ltb, List, [], ◌∷◌, All, length, get_or, take, drop, Option, Some, None, option_map, ℤ, codes, bytes_eq, arith, add-one}
use Rattle.std.specs.Prelude.{nat_le, nat_lt, nat_abs}
use Rattle.std.proofs.Math.Seq.{drop-cons}
use Rattle.std.proofs.lemmas.List.{drop_all}
use Rattle.std.proofs.lemmas.Option.{some_pair_parts}
use Rattle.std.proofs.lemmas.Bool.Decides.{nat_tests}
use Rattle.lc_model.specs.Text.Token as model
use Rattle.lc_model.specs.Text.Token.{is_string, is_closed, string_text, number, magnitude, magnitude_text, with_sign, at_most_32_bits}
use Rattle.lc_model.specs.Text.Class as class
use Rattle.lc_model.specs.Text.Class.{Class, fits}
use Rattle.lc_model.specs.declared.field.FieldType.{FieldType}
use Rattle.lc_model.specs.declared.field.CmpOp.{CmpOp}
use Rattle.lc_model.specs.declared.mode.ApMode.{ApMode}
use Rattle.lc_model.specs.declared.rule.EventKind.{EventKind}
use Rattle.rule_lexer.specs.Laws.{KindsDecideClasses}
use Rattle.rule_lexer.specs.Fitting.{IsOfGrammar, kind_fits}
use Rattle.rule_lexer.specs.Token.{token_of, tokens_of, HasItsKind, IsKind}
use Rattle.rule_lexer.specs.declared.token.Token.{Token}
use Rattle.rule_lexer.specs.declared.token.TokenKind.{TokenKind}
use Rattle.rule_lexer.specs.declared.token.TokenKind.TheVariants.{FieldKind, State, Level, Name, Number, Compare}
use Rattle.rule_parser.specs.Front.{Gives, IsNext, is_empty, begins, number_at, token_at, value_at}

-- ---- places in the list

-- one more token is read
drop_first : (tokens : List Token) (n : ℕ) (t : Token) → n < length tokens → ((d : Token) → t ≡ get_or tokens n d) →
    drop n tokens ≡ t ∷ drop (n + 1) tokens
drop_first tokens n t within is =
    drop-cons tokens n t within ∙ ap (λ x. x ∷ drop (suc n) tokens) (sym (is t)) ∙ ap (λ k. t ∷ drop k tokens) (sym (add-one n))

pub is_next : (tokens : List Token) (n : ℕ) (t : Token) → KindsDecideClasses → All HasItsKind tokens →
    n < length tokens → ((d : Token) → t ≡ get_or tokens n d) →
    IsNext (tokens_of (drop n tokens)) (tokens_of (drop (n + 1) tokens)) (Some t)
is_next tokens n t law kinds within is =
    (ap tokens_of (drop_first tokens n t within is), record { kind = kind; classes = λ wanted grammar. law wanted t.kind t.text.now grammar kind })
  where
    kind : HasItsKind t
    kind = subst HasItsKind (sym (is t)) (kinds n t within)

pub none_left : (tokens : List Token) (n : ℕ) → false ≡ ltb n (length tokens) → tokens_of (drop n tokens) ≡ []
none_left tokens n past = ap tokens_of (drop_all n tokens (grind (arith, nat_tests, past)))

pub all_read : (tokens : List Token) (n : ℕ) → nat_le (length tokens) n ≡ is_empty (tokens_of (drop n tokens))
all_read [] zero = refl
all_read [] (suc n) = grind arith
all_read (x ∷ xs) zero = grind arith
all_read (x ∷ xs) (suc n) = let same : nat_le (length (x ∷ xs)) (suc n) ≡ nat_le (length xs) n = grind arith in same ∙ all_read xs n

-- ---- tokens

pub nothing_at : (wanted : Class) (before : List model.Token) → before ≡ [] → token_at wanted before ≡ None
unfolding token_at
nothing_at wanted before e = ap (token_at wanted) e

pub begins_at_end : (wanted : Class) (before : List model.Token) → before ≡ [] → begins wanted before ≡ false
unfolding begins
begins_at_end wanted before e = ap (begins wanted) e

pub begins_first : (wanted : Class) (before after : List model.Token) (t : Token) → IsOfGrammar wanted → IsNext before after (Some t) →
    begins wanted before ≡ kind_fits wanted t.kind
unfolding begins
begins_first wanted before after t grammar next = ap (begins wanted) next.0 ∙ next.1.classes wanted grammar

-- the first token is taken exactly where its kind is of the class
pub taken_at : (wanted : Class) (before after : List model.Token) (t : Token) → IsOfGrammar wanted → IsNext before after (Some t) →
    (b : Bool) → kind_fits wanted t.kind ≡ b → token_at wanted before ≡ cond b (Some (token_of t, after)) None
unfolding token_at
taken_at wanted before after t grammar next b e =
    ap (token_at wanted) next.0 ∙ ap (λ b. cond b (Some (token_of t, after)) None) (next.1.classes wanted grammar ∙ e)

-- a token is taken exactly where one of the class stands next
pub nothing_there : (wanted : Class) (before : List model.Token) → begins wanted before ≡ false → token_at wanted before ≡ None
unfolding begins token_at
nothing_there wanted [] e = refl
nothing_there wanted (t ∷ ts) e = ap (λ b. cond b (Some (t, ts)) None) e

pub taken_there : (wanted : Class) (before after : List model.Token) (found : Option Token) → IsNext before after found → begins wanted before ≡ true →
    Gives token_of after found (token_at wanted before)
unfolding begins token_at
taken_there wanted before after None next e = ap (token_at wanted) next
taken_there wanted before after (Some t) next e =
    ap (token_at wanted) next.0 ∙ ap (λ b. cond b (Some (token_of t, after)) None) (sym (ap (begins wanted) next.0) ∙ e)

-- a token that is taken is of the class
pub token_takes : (wanted : Class) (before after : List model.Token) (t : model.Token) → token_at wanted before ≡ Some (t, after) →
    (before ≡ t ∷ after) × (fits wanted t.text ≡ true)
unfolding token_at
token_takes wanted [] after t e = absurd (cc e)
token_takes wanted (u ∷ us) after t e = step (fits wanted u.text) refl e
  where
    step : (b : Bool) → fits wanted u.text ≡ b → cond {A = Option (model.Token × List model.Token)} b (Some (u, us)) None ≡ Some (t, after) →
        (u ∷ us ≡ t ∷ after) × (fits wanted t.text ≡ true)
    step false is e = absurd (cc e)
    step true is e =
        let parts : (u ≡ t) × (us ≡ after) = some_pair_parts u t us after e in
        (λ i. parts.0 i ∷ parts.1 i, ap (λ (x : model.Token). fits wanted x.text) (sym parts.0) ∙ is)

-- ---- values

pub no_value_at_end : {A : Type 0} (wanted : Class) (read : List ℕ → Option A) (before : List model.Token) → before ≡ [] → value_at wanted read before ≡ None
unfolding value_at
no_value_at_end wanted read before e = rw (nothing_at wanted before e) refl

pub no_value : {A : Type 0} (wanted : Class) (read : List ℕ → Option A) (before after : List model.Token) (t : Token) → IsOfGrammar wanted →
    IsNext before after (Some t) → kind_fits wanted t.kind ≡ false → value_at wanted read before ≡ None
unfolding value_at
no_value wanted read before after t grammar next e = rw (taken_at wanted before after t grammar next false e) refl

pub value_taken : {A : Type 0} (wanted : Class) (read : List ℕ → Option A) (before after : List model.Token) (t : Token) → IsOfGrammar wanted →
    IsNext before after (Some t) → (kind : TokenKind) (v : A) → t.kind ≡ kind → kind_fits wanted kind ≡ true →
    (IsKind kind t.text.now → read t.text.now ≡ Some v) → value_at wanted read before ≡ Some (v, after)
unfolding value_at
value_taken wanted read before after t grammar next kind v is fit reads =
    let taken : token_at wanted before ≡ Some (token_of t, after) =
    taken_at wanted before after t grammar next true (ap (kind_fits wanted) is ∙ fit) in
    let value : read t.text.now ≡ Some v = reads (subst (λ kind. IsKind kind t.text.now) is next.1.kind) in
    rw (taken, value) refl

pub no_number_at_end : (before : List model.Token) → before ≡ [] → number_at before ≡ None
unfolding number_at
no_number_at_end before e = rw (nothing_at class.Number before e) refl

pub no_number : (before after : List model.Token) (t : Token) → IsNext before after (Some t) → kind_fits class.Number t.kind ≡ false → number_at before ≡ None
unfolding number_at
no_number before after t next e = rw (taken_at class.Number before after t tt next false e) refl

pub number_taken : (before after : List model.Token) (t : Token) → IsNext before after (Some t) → (value : ℤ) → t.kind ≡ Number value →
    number_at before ≡ Some (record { at = t.at; value = value }, after)
unfolding number_at
number_taken before after t next value is =
    let taken : token_at class.Number before ≡ Some (token_of t, after) =
    taken_at class.Number before after t tt next true (ap (kind_fits class.Number) is) in
    let read : number t.text.now ≡ Some value = subst (λ kind. IsKind kind t.text.now) is next.1.kind in
    rw (taken, read) refl

-- a number that a text writes
below : (negative : Bool) (o : Option ℕ) (v : ℤ) → option_map (with_sign negative) (at_most_32_bits o) ≡ Some v → nat_abs v < 2 ^ 32
below negative None v e = absurd (cc e)
below negative (Some n) v e = step (nat_lt n (2 ^ 32)) refl e
  where
    size : (negative : Bool) (n : ℕ) → nat_abs (with_sign negative n) ≡ n
    size false n = refl
    size true zero = refl
    size true (suc n) = refl

    step : (b : Bool) → nat_lt n (2 ^ 32) ≡ b → option_map (with_sign negative) (cond b (Some n) None) ≡ Some v → nat_abs v < 2 ^ 32
    step false is e = absurd (cc e)
    step true is e =
        let same : with_sign negative n ≡ v = cc e in
        let within : n < 2 ^ 32 = grind (arith, nat_tests, is) in
        subst (λ v. nat_abs v < 2 ^ 32) same (subst (λ m. m < 2 ^ 32) (sym (size negative n)) within)

pub number_below : (text : List ℕ) (v : ℤ) → number text ≡ Some v → nat_abs v < 2 ^ 32
number_below text v e = below (bytes_eq (take 1 text) (codes "-")) (magnitude (magnitude_text text)) v e

-- ---- other kinds

pub is_no_number : (kind : TokenKind) → ((x : ℤ) → kind ≡ Number x → ⊥) → kind_fits class.Number kind ≡ false
is_no_number (Number x) other = absurd (other x refl)
is_no_number kind other = refl

pub is_no_name : (kind : TokenKind) → (kind ≡ Name → ⊥) → kind_fits class.Name kind ≡ false
is_no_name Name other = absurd (other refl)
is_no_name kind other = refl

pub is_no_type : (kind : TokenKind) → ((x : FieldType) → kind ≡ FieldKind x → ⊥) → kind_fits class.FieldKind kind ≡ false
is_no_type (FieldKind x) other = absurd (other x refl)
is_no_type kind other = refl

pub is_no_state : (kind : TokenKind) → ((x : ApMode) → kind ≡ State x → ⊥) → kind_fits class.State kind ≡ false
is_no_state (State x) other = absurd (other x refl)
is_no_state kind other = refl

pub is_no_level : (kind : TokenKind) → ((x : EventKind) → kind ≡ Level x → ⊥) → kind_fits class.Level kind ≡ false
is_no_level (Level x) other = absurd (other x refl)
is_no_level kind other = refl

pub is_no_comparison : (kind : TokenKind) → ((x : CmpOp) → kind ≡ Compare x → ⊥) → kind_fits class.Compare kind ≡ false
is_no_comparison (Compare x) other = absurd (other x refl)
is_no_comparison kind other = refl

-- ---- strings

-- a string has its two quotes
pub has_quotes : (text : List ℕ) → is_string text ≡ true → 2 ≤ length text
has_quotes [] e = absurd (cc e)
has_quotes (c ∷ []) e = absurd (never (c == 34) _ e)
  where
    never : (b d : Bool) → (b && false && d) ≡ true → ⊥
    never true d e = cc e
    never false d e = cc e
has_quotes (c ∷ d ∷ ds) e = omega arith
