-- The text of a condition is read as its tree.
use Rattle.std.proofs.Common.{◌≡◌, refl, sym, ap, subst, Bool, true, false, List, [], ◌∷◌, ◌++◌, flat_map, true≢false, nat_lt, nat_le, append-nil}
use Rattle.std.proofs.lemmas.Grind.{flat_map-append}
use Rattle.lc_model.specs.Condition.{Operator, And, Or, Xor}
use Rattle.lc_model.specs.Text.Token.{Token}
use Rattle.lc_model.specs.Text.Syntax as syntax
use Rattle.lc_model.specs.Text.Syntax.{Expression}
use Rattle.lc_model.specs.Text.Grammar.{Part, Derives, cond, xors, ands, nots, cond_one, cond_or, xors_one, xors_xor, ands_one, ands_and, nots_not, nots_parentheses}
use Rattle.lc_model.proofs.Texts.OneCondition.{one_condition}
use Rattle.table_listing.specs.Formula.{Formula, Watch, Not, Join}
use Rattle.table_listing.specs.ConditionText.{tightness_of, needed_in_not, needed_first, needed_second}
use Rattle.table_listing.specs.Reading.{Symbol, Joining, Closing, enclosed, symbols_of, Tokens, Stand, tokens_of, expression_of, TextsReadAsTheirTrees}

-- what an operator joins is this part of a condition
part_of : Operator → Part
part_of Or = cond
part_of Xor = xors
part_of And = ands

-- its second operand is this part
second_of : Operator → Part
second_of Or = xors
second_of Xor = ands
second_of And = nots

-- a formula is this part, at the tightest
own : Formula → Part
own (Watch n) = nots
own (Not f) = nots
own (Join o a b) = part_of o

-- ---- looser parts

loosened : (p : Part) {ts : List Token} {e : Expression} → Derives nots ts e → Derives p ts e
loosened cond d = cond_one (xors_one (ands_one d))
loosened xors d = xors_one (ands_one d)
loosened ands d = ands_one d
loosened nots d = d

as_cond : (p : Part) {ts : List Token} {e : Expression} → Derives p ts e → Derives cond ts e
as_cond cond d = d
as_cond xors d = cond_one d
as_cond ands d = cond_one (xors_one d)
as_cond nots d = cond_one (xors_one (ands_one d))

-- where no parentheses are needed around what the second operator joins
first_operator : (o p : Operator) → nat_lt (tightness_of p) (tightness_of o) ≡ false → {ts : List Token} {e : Expression} →
    Derives (part_of p) ts e → Derives (part_of o) ts e
unfolding part_of
first_operator Or p none d = as_cond (part_of p) d
first_operator Xor Or none d = absurd (true≢false none)
first_operator Xor Xor none d = d
first_operator Xor And none d = xors_one d
first_operator And Or none d = absurd (true≢false none)
first_operator And Xor none d = absurd (true≢false none)
first_operator And And none d = d

second_operator : (o p : Operator) → nat_le (tightness_of p) (tightness_of o) ≡ false → {ts : List Token} {e : Expression} →
    Derives (part_of p) ts e → Derives (second_of o) ts e
unfolding part_of second_of
second_operator Or Or none d = absurd (true≢false none)
second_operator Or Xor none d = d
second_operator Or And none d = xors_one d
second_operator Xor Or none d = absurd (true≢false none)
second_operator Xor Xor none d = absurd (true≢false none)
second_operator Xor And none d = d
second_operator And Or none d = absurd (true≢false none)
second_operator And Xor none d = absurd (true≢false none)
second_operator And And none d = absurd (true≢false none)

no_operator : (p : Operator) → nat_lt (tightness_of p) 3 ≡ false → {ts : List Token} {e : Expression} → Derives (part_of p) ts e → Derives nots ts e
no_operator And none d = absurd (true≢false none)
no_operator Or none d = absurd (true≢false none)
no_operator Xor none d = absurd (true≢false none)

first_fits : (o : Operator) (f : Formula) → needed_first o f ≡ false → {ts : List Token} {e : Expression} → Derives (own f) ts e → Derives (part_of o) ts e
unfolding own
first_fits o (Watch n) none d = loosened (part_of o) d
first_fits o (Not f) none d = loosened (part_of o) d
first_fits o (Join p a b) none d = first_operator o p none d

second_fits : (o : Operator) (f : Formula) → needed_second o f ≡ false → {ts : List Token} {e : Expression} → Derives (own f) ts e → Derives (second_of o) ts e
unfolding own
second_fits o (Watch n) none d = loosened (second_of o) d
second_fits o (Not f) none d = loosened (second_of o) d
second_fits o (Join p a b) none d = second_operator o p none d

not_fits : (f : Formula) → needed_in_not f ≡ false → {ts : List Token} {e : Expression} → Derives (own f) ts e → Derives nots ts e
unfolding own
not_fits (Watch n) none d = d
not_fits (Not f) none d = d
not_fits (Join p a b) none d = no_operator p none d

-- ---- the tokens of a formula

module _ (t : Tokens) (stand : Stand t) where
  abbrev written : List Symbol → List Token
  written = flat_map (tokens_of t)

  -- in parentheses where they are needed
  placed : (p q : Part) (needed : Bool) (symbols : List Symbol) (e : Expression) → Derives q (written symbols) e →
      (needed ≡ false → Derives q (written symbols) e → Derives p (written symbols) e) → Derives p (written (enclosed needed symbols)) e
  placed p q true symbols e d fits =
      let tokens : t.opening ∷ written symbols ++ t.closing ∷ [] ≡ written (enclosed true symbols) =
      ap (λ ts. t.opening ∷ ts) (sym (flat_map-append (tokens_of t) symbols (Closing ∷ []))) in
      subst (λ ts. Derives p ts e) tokens (loosened p (nots_parentheses t.opening t.closing stand.opens (as_cond q d) stand.closes))
  placed p q false symbols e d fits = fits refl d

  -- two operands and their operator
  joined : (o : Operator) (us vs : List Token) (a b : Expression) → Derives (part_of o) us a → Derives (second_of o) vs b →
      Derives (part_of o) (us ++ t.joining o ∷ vs) (syntax.Join o a b)
  unfolding part_of second_of
  joined Or us vs a b d e = cond_or (t.joining Or) d (stand.joins Or) e
  joined Xor us vs a b d e = xors_xor (t.joining Xor) d (stand.joins Xor) e
  joined And us vs a b d e = ands_and (t.joining And) d (stand.joins And) e

  -- a formula's tokens say the formula
  says : (f : Formula) → Derives (own f) (written (symbols_of f)) (expression_of t f)
  unfolding own
  says (Watch n) = subst (λ ts. Derives nots ts (t.said n)) (sym (append-nil (t.comparison n))) (stand.compares n)
  says (Not f) = nots_not stand.negates (placed nots (own f) (needed_in_not f) (symbols_of f) (expression_of t f) (says f) (λ none d. not_fits f none d))
  says (Join o a b) =
      let first : List Symbol = enclosed (needed_first o a) (symbols_of a) in
      let second : List Symbol = enclosed (needed_second o b) (symbols_of b) in
      let d : Derives (part_of o) (written first) (expression_of t a) =
      placed (part_of o) (own a) (needed_first o a) (symbols_of a) (expression_of t a) (says a) (λ none d. first_fits o a none d) in
      let e : Derives (second_of o) (written second) (expression_of t b) =
      placed (second_of o) (own b) (needed_second o b) (symbols_of b) (expression_of t b) (says b) (λ none d. second_fits o b none d) in
      subst (λ ts. Derives (part_of o) ts (expression_of t (Join o a b))) (sym (flat_map-append (tokens_of t) first (Joining o ∷ second)))
      (joined o (written first) (written second) (expression_of t a) (expression_of t b) d e)

pub texts_read_as_their_trees : TextsReadAsTheirTrees
texts_read_as_their_trees t f stand =
    let d : Derives cond (flat_map (tokens_of t) (symbols_of f)) (expression_of t f) = as_cond (own f) (says t stand f) in
    record { derives = d; only = λ e other. one_condition other d }
