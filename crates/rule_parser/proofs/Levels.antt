-- A condition from left to right: what was read of it before an operand and behind one, and how each token continues it.
use Rattle.std.proofs.Common.{◌≡◌, refl, sym, ◌∙◌, ap, subst, ◌⊎◌, inl, inr, List, [], ◌∷◌, ◌++◌, append-nil, append_assoc}
use Rattle.lc_model.specs.Condition.{And, Or, Xor}
use Rattle.lc_model.specs.Text.Token.{Token}
use Rattle.lc_model.specs.Text.Syntax as syntax
use Rattle.lc_model.specs.Text.Syntax.{Expression}
use Rattle.lc_model.specs.Text.Class.{Class, word, sign, Fits}
use Rattle.lc_model.specs.Text.Grammar as grammar
use Rattle.lc_model.specs.Text.Grammar.{Part, Derives}

-- nothing, or a part of a condition and the operator behind it
abbrev Lead : Part → Class → List Token → Type 0
Lead part operator ts =
    (ts ≡ []) ⊎ ((us : List Token) × (t : Token) × (e : Expression) × (ts ≡ us ++ t ∷ []) × Derives part us e × Fits operator t)

-- tokens that are this part of a condition
abbrev pub Is : Part → List Token → Type 0
Is part ts = (e : Expression) × Derives part ts e

-- what was read where an operand follows
pub record Before (l : List Token) : Type 0 where
  os : List Token
  xs : List Token
  ys : List Token
  zs : List Token
  parts : l ≡ os ++ (xs ++ (ys ++ zs))
  ors : Lead grammar.cond (word "or") os
  xors : Lead grammar.xors (word "xor") xs
  ands : Lead grammar.ands (word "and") ys
  negates : (ts : List Token) → Is grammar.nots ts → Is grammar.nots (zs ++ ts)

-- what was read where an operand ends
pub record After (l : List Token) : Type 0 where
  os : List Token
  xs : List Token
  ys : List Token
  parts : l ≡ os ++ (xs ++ ys)
  ors : Lead grammar.cond (word "or") os
  xors : Lead grammar.xors (word "xor") xs
  ands : Is grammar.ands ys

pub nothing_read : Before []
nothing_read = record {
  os = [];
  xs = [];
  ys = [];
  zs = [];
  parts = refl;
  ors = inl refl;
  xors = inl refl;
  ands = inl refl;
  negates = λ ts is. is;
}

-- ---- an operand more

behind : (us ts : List Token) (t : Token) → us ++ t ∷ ts ≡ (us ++ t ∷ []) ++ ts
behind us ts t = sym (append_assoc us (t ∷ []) ts)

with_nots : (ys ts : List Token) → Lead grammar.ands (word "and") ys → Is grammar.nots ts → Is grammar.ands (ys ++ ts)
with_nots ys ts (inl none) is = subst (λ ys. Is grammar.ands (ys ++ ts)) (sym none) (is.0, grammar.ands_one is.1)
with_nots ys ts (inr some) is =
    subst (λ ys. Is grammar.ands (ys ++ ts)) (sym some.3)
    (subst (Is grammar.ands) (behind some.0 ts some.1) (syntax.Join And some.2 is.0, grammar.ands_and some.1 some.4 some.5 is.1))

with_ands : (xs ts : List Token) → Lead grammar.xors (word "xor") xs → Is grammar.ands ts → Is grammar.xors (xs ++ ts)
with_ands xs ts (inl none) is = subst (λ xs. Is grammar.xors (xs ++ ts)) (sym none) (is.0, grammar.xors_one is.1)
with_ands xs ts (inr some) is =
    subst (λ xs. Is grammar.xors (xs ++ ts)) (sym some.3)
    (subst (Is grammar.xors) (behind some.0 ts some.1) (syntax.Join Xor some.2 is.0, grammar.xors_xor some.1 some.4 some.5 is.1))

with_xors : (os ts : List Token) → Lead grammar.cond (word "or") os → Is grammar.xors ts → Is grammar.cond (os ++ ts)
with_xors os ts (inl none) is = subst (λ os. Is grammar.cond (os ++ ts)) (sym none) (is.0, grammar.cond_one is.1)
with_xors os ts (inr some) is =
    subst (λ os. Is grammar.cond (os ++ ts)) (sym some.3)
    (subst (Is grammar.cond) (behind some.0 ts some.1) (syntax.Join Or some.2 is.0, grammar.cond_or some.1 some.4 some.5 is.1))

on_operand : (l ts : List Token) → Before l → Is grammar.nots ts → After (l ++ ts)
on_operand l ts b is = record {
  os = b.os;
  xs = b.xs;
  ys = b.ys ++ (b.zs ++ ts);
  parts = ap (λ l. l ++ ts) b.parts ∙ regroup b.os b.xs b.ys b.zs;
  ors = b.ors;
  xors = b.xors;
  ands = with_nots b.ys (b.zs ++ ts) b.ands (b.negates ts is);
}
  where
    regroup : (os xs ys zs : List Token) → (os ++ (xs ++ (ys ++ zs))) ++ ts ≡ os ++ (xs ++ (ys ++ (zs ++ ts)))
    regroup os xs ys zs = simp append_assoc

on_not : (l : List Token) (t : Token) → Before l → Fits (word "not") t → Before (l ++ t ∷ [])
on_not l t b fit = record {
  os = b.os;
  xs = b.xs;
  ys = b.ys;
  zs = b.zs ++ t ∷ [];
  parts = ap (λ l. l ++ t ∷ []) b.parts ∙ regroup b.os b.xs b.ys b.zs;
  ors = b.ors;
  xors = b.xors;
  ands = b.ands;
  negates = λ ts is. subst (Is grammar.nots) (behind b.zs ts t) (b.negates (t ∷ ts) (syntax.Not is.0, grammar.nots_not fit is.1));
}
  where
    regroup : (os xs ys zs : List Token) → (os ++ (xs ++ (ys ++ zs))) ++ t ∷ [] ≡ os ++ (xs ++ (ys ++ (zs ++ t ∷ [])))
    regroup os xs ys zs = simp append_assoc

-- ---- an operator more

-- the whole of what was read
value : (l : List Token) → After l → Is grammar.cond l
value l a = subst (Is grammar.cond) (sym a.parts) (with_xors a.os (a.xs ++ a.ys) a.ors (with_ands a.xs a.ys a.xors a.ands))

on_and : (l : List Token) (t : Token) → After l → Fits (word "and") t → Before (l ++ t ∷ [])
on_and l t a fit = record {
  os = a.os;
  xs = a.xs;
  ys = a.ys ++ t ∷ [];
  zs = [];
  parts = ap (λ l. l ++ t ∷ []) a.parts ∙ regroup a.os a.xs a.ys;
  ors = a.ors;
  xors = a.xors;
  ands = inr (a.ys, t, a.ands.0, refl, a.ands.1, fit);
  negates = λ ts is. is;
}
  where
    regroup : (os xs ys : List Token) → (os ++ (xs ++ ys)) ++ t ∷ [] ≡ os ++ (xs ++ ((ys ++ t ∷ []) ++ []))
    regroup os xs ys = simp (append_assoc, append-nil)

on_xor : (l : List Token) (t : Token) → After l → Fits (word "xor") t → Before (l ++ t ∷ [])
on_xor l t a fit =
    let is = with_ands a.xs a.ys a.xors a.ands in
    record {
      os = a.os;
      xs = (a.xs ++ a.ys) ++ t ∷ [];
      ys = [];
      zs = [];
      parts = ap (λ l. l ++ t ∷ []) a.parts ∙ regroup a.os a.xs a.ys;
      ors = a.ors;
      xors = inr (a.xs ++ a.ys, t, is.0, refl, is.1, fit);
      ands = inl refl;
      negates = λ ts is. is;
    }
  where
    regroup : (os xs ys : List Token) → (os ++ (xs ++ ys)) ++ t ∷ [] ≡ os ++ (((xs ++ ys) ++ t ∷ []) ++ [])
    regroup os xs ys = simp (append_assoc, append-nil)

on_or : (l : List Token) (t : Token) → After l → Fits (word "or") t → Before (l ++ t ∷ [])
on_or l t a fit =
    let is = value l a in
    record {
      os = l ++ t ∷ [];
      xs = [];
      ys = [];
      zs = [];
      parts = sym (append-nil (l ++ t ∷ []));
      ors = inr (l, t, is.0, refl, is.1, fit);
      xors = inl refl;
      ands = inl refl;
      negates = λ ts is. is;
    }

-- ---- what may follow

-- these tokens complete a condition where an operand follows
abbrev pub Operands : List Token → Type 0
Operands ts = (l : List Token) → Before l → Is grammar.cond (l ++ ts)

-- these tokens complete a condition behind an operand
abbrev pub Tail : List Token → Type 0
Tail ts = (l : List Token) → After l → Is grammar.cond (l ++ ts)

pub no_tail : Tail []
no_tail l a = subst (Is grammar.cond) (sym (append-nil l)) (value l a)

pub whole : (ts : List Token) → Operands ts → Is grammar.cond ts
whole ts operands = operands [] nothing_read

pub operand_then : (us ts : List Token) → Is grammar.nots us → Tail ts → Operands (us ++ ts)
operand_then us ts is tail l b = subst (Is grammar.cond) (append_assoc l us ts) (tail (l ++ us) (on_operand l us b is))

pub not_then : (t : Token) (ts : List Token) → Fits (word "not") t → Operands ts → Operands (t ∷ ts)
not_then t ts fit operands l b = subst (Is grammar.cond) (append_assoc l (t ∷ []) ts) (operands (l ++ t ∷ []) (on_not l t b fit))

pub and_then : (t : Token) (ts : List Token) → Fits (word "and") t → Operands ts → Tail (t ∷ ts)
and_then t ts fit operands l a = subst (Is grammar.cond) (append_assoc l (t ∷ []) ts) (operands (l ++ t ∷ []) (on_and l t a fit))

pub xor_then : (t : Token) (ts : List Token) → Fits (word "xor") t → Operands ts → Tail (t ∷ ts)
xor_then t ts fit operands l a = subst (Is grammar.cond) (append_assoc l (t ∷ []) ts) (operands (l ++ t ∷ []) (on_xor l t a fit))

pub or_then : (t : Token) (ts : List Token) → Fits (word "or") t → Operands ts → Tail (t ∷ ts)
or_then t ts fit operands l a = subst (Is grammar.cond) (append_assoc l (t ∷ []) ts) (operands (l ++ t ∷ []) (on_or l t a fit))

-- `(`, a condition and `)`
pub parentheses_then : (t u : Token) (ts us : List Token) → Fits (sign "(") t → Operands ts → Fits (sign ")") u → Tail us →
    Operands (t ∷ ts ++ u ∷ us)
parentheses_then t u ts us opens operands closes tail =
    let inner = whole ts operands in
    subst Operands (append_assoc (t ∷ ts) (u ∷ []) us)
    (operand_then (t ∷ ts ++ u ∷ []) us (inner.0, grammar.nots_parentheses t u opens inner.1 closes) tail)
