-- The equality of the program's terms is that of the definitions.
use Rattle.std.proofs.Common.{arith, ◌≡◌, refl, ap₂, ◌∙◌, Bool, true, false, not, ◌&&◌, ◌==◌}
use Rattle.std.specs.List.{list_all, AllPass}
use Rattle.std.specs.Prelude.{List, [], ◌∷◌}
use Rattle.std.proofs.lemmas.List.Sums.{AllPass-from_list_all}
use Rattle.std.specs.Ordering.{int_eq}
use Rattle.lc_model.specs.declared.field.Term.{Term}
use Rattle.lc_model.specs.declared.field.FieldType.{FieldType}
use Rattle.lc_model.specs.declared.field.CmpOp.{CmpOp}
use Rattle.lc_model.specs.declared.field.CmpOp.TheVariants.{Less, LessOrEqual, NotEqual, Equal, GreaterOrEqual, Greater}
use Rattle.lc_model.specs.Codes.{type_code, operator_code}
use Rattle.lc_model.specs.Tables.Equation.{same_term}
use Rattle.lc_model.specs.Tables.Image.{types}
use Rattle.lc_model.proofs.FieldTypes.{of_type}
use Rattle.lc_model.specs.contracts.field.TermPartialEq.TheImpl as terms
use Rattle.lc_model.specs.contracts.field.FieldTypePartialEq.TheImpl as kinds
use Rattle.lc_model.specs.contracts.field.CmpOpPartialEq.TheImpl as operators

-- whether two answers are one
abbrev agree : Bool → Bool → Bool
agree true b = b
agree false b = not b

agreed : (a b : Bool) → agree a b ≡ true → a ≡ b
agreed true true e = refl
agreed true false e = absurd (cc e)
agreed false true e = absurd (cc e)
agreed false false e = refl

abbrev comparisons : List CmpOp
comparisons = Less ∷ LessOrEqual ∷ NotEqual ∷ Equal ∷ GreaterOrEqual ∷ Greater ∷ []

of_operator : (test : CmpOp → Bool) → AllPass test comparisons → (op : CmpOp) → test op ≡ true
of_operator test all Less = all 0 Less (omega arith)
of_operator test all LessOrEqual = all 1 Less (omega arith)
of_operator test all NotEqual = all 2 Less (omega arith)
of_operator test all Equal = all 3 Less (omega arith)
of_operator test all GreaterOrEqual = all 4 Less (omega arith)
of_operator test all Greater = all 5 Less (omega arith)

-- types are equal where their numbers are
abbrev kinds_agree : FieldType → FieldType → Bool
kinds_agree k l = agree ((kinds.eq-value).it k l) (type_code k == type_code l)

abbrev row_of_kind : FieldType → Bool
row_of_kind k = list_all (kinds_agree k) types

same_kind : (k l : FieldType) → (kinds.eq-value).it k l ≡ (type_code k == type_code l)
same_kind k l =
    let row : row_of_kind k ≡ true = of_type row_of_kind (AllPass-from_list_all row_of_kind types refl) k in
    agreed _ _ (of_type (kinds_agree k) (AllPass-from_list_all (kinds_agree k) types row) l)

-- comparisons are equal where their numbers are
abbrev operators_agree : CmpOp → CmpOp → Bool
operators_agree o p = agree ((operators.eq-value).it o p) (operator_code o == operator_code p)

abbrev row_of_operator : CmpOp → Bool
row_of_operator o = list_all (operators_agree o) comparisons

same_operator : (o p : CmpOp) → (operators.eq-value).it o p ≡ (operator_code o == operator_code p)
same_operator o p =
    let row : row_of_operator o ≡ true = of_operator row_of_operator (AllPass-from_list_all row_of_operator comparisons refl) o in
    agreed _ _ (of_operator (operators_agree o) (AllPass-from_list_all (operators_agree o) comparisons row) p)

-- seven tests, from the right and from the left
regrouped : (k m o a s p v : Bool) → (k && (m && (o && (a && (s && (p && v)))))) ≡ ((((((k && m) && o) && a) && s) && p) && v)
regrouped false m o a s p v = refl
regrouped true false o a s p v = refl
regrouped true true false a s p v = refl
regrouped true true true false s p v = refl
regrouped true true true true false p v = refl
regrouped true true true true true p v = refl

-- terms are equal in the program where all seven parts are
pub same : (t u : Term) → (terms.eq-value).it t u ≡ same_term t u
same t u =
    ap₂ (λ k p. k && ((t.mid == u.mid) && ((t.offset == u.offset) && ((t.mask == u.mask) && ((t.stale == u.stale) && (p && int_eq t.value u.value))))))
    (same_kind t.kind u.kind) (same_operator t.op u.op)
    ∙ regrouped (type_code t.kind == type_code u.kind) (t.mid == u.mid) (t.offset == u.offset) (t.mask == u.mask) (t.stale == u.stale)
    (operator_code t.op == operator_code u.op) (int_eq t.value u.value)

pub one_equality : (terms.eq-value).it ≡ same_term
one_equality = λ i t u. same t u i
