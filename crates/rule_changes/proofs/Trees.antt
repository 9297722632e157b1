-- Conditions that are equal as trees have the same truth.
use Rattle.std.proofs.Common.{◌≡◌, ℕ, Bool, true, ◌&&◌, ◌==◌, refl, ap, ap₂, true≢false, sym, ◌∙◌, arith}
use Rattle.std.proofs.lemmas.Bool.Decides.{Decides-int_eq, nat_tests}
use Rattle.lc_model.specs.declared.field.Term.{Term}
use Rattle.lc_model.specs.Codes.{type_code, operator_code}
use Rattle.lc_model.specs.Tables.Equation.{same_term}
use Rattle.std.specs.Prelude.{IsTrue}
use Rattle.lc_model.specs.Truth.{truth_and, truth_or, truth_xor, truth_not}
use Rattle.lc_model.specs.Condition.{Condition, Watch, Not, Join, And, Or, Xor}
use Rattle.lc_model.specs.LimitChecker.Watch.{truth_of_term}
use Rattle.lc_model.proofs.Facts.{and_first, and_second}
use Rattle.lc_model.proofs.LimitChecker.ResultLaws.{one_term}
use Rattle.rule_changes.specs.Forms.{AreSame, equal_trees}

firsts : (a b : Bool) → IsTrue (a && b) → IsTrue a
firsts a b is = and_first a b is

seconds : (a b : Bool) → IsTrue (a && b) → IsTrue b
seconds a b is = and_second a b is

pub equal_is_same : (a b : Condition) → IsTrue (equal_trees a b) → AreSame a b
equal_is_same (Watch t) (Watch u) is h = ap (λ v. truth_of_term v h) (one_term t u is)
equal_is_same (Watch t) (Not d) is h = absurd (true≢false (sym is))
equal_is_same (Watch t) (Join p c d) is h = absurd (true≢false (sym is))
equal_is_same (Not a) (Watch u) is h = absurd (true≢false (sym is))
equal_is_same (Not a) (Not b) is h = ap truth_not (equal_is_same a b is h)
equal_is_same (Not a) (Join p c d) is h = absurd (true≢false (sym is))
equal_is_same (Join o a b) (Watch u) is h = absurd (true≢false (sym is))
equal_is_same (Join o a b) (Not d) is h = absurd (true≢false (sym is))
equal_is_same (Join And a b) (Join And c d) is h = ap₂ truth_and (equal_is_same a c (firsts (equal_trees a c) (equal_trees b d) is) h) (equal_is_same b d (seconds (equal_trees a c) (equal_trees b d) is) h)
equal_is_same (Join Or a b) (Join Or c d) is h = ap₂ truth_or (equal_is_same a c (firsts (equal_trees a c) (equal_trees b d) is) h) (equal_is_same b d (seconds (equal_trees a c) (equal_trees b d) is) h)
equal_is_same (Join Xor a b) (Join Xor c d) is h = ap₂ truth_xor (equal_is_same a c (firsts (equal_trees a c) (equal_trees b d) is) h) (equal_is_same b d (seconds (equal_trees a c) (equal_trees b d) is) h)
equal_is_same (Join And a b) (Join Or c d) is h = absurd (true≢false (sym is))
equal_is_same (Join And a b) (Join Xor c d) is h = absurd (true≢false (sym is))
equal_is_same (Join Or a b) (Join And c d) is h = absurd (true≢false (sym is))
equal_is_same (Join Or a b) (Join Xor c d) is h = absurd (true≢false (sym is))
equal_is_same (Join Xor a b) (Join And c d) is h = absurd (true≢false (sym is))
equal_is_same (Join Xor a b) (Join Or c d) is h = absurd (true≢false (sym is))

same_number : (n : ℕ) → (n == n) ≡ true
same_number n = grind (arith, nat_tests)

-- a condition is equal to itself
term_itself : (t : Term) → same_term t t ≡ true
term_itself t = λ i. same_number (type_code t.kind) i && same_number t.mid i && same_number t.offset i && same_number t.mask i && same_number t.stale i
    && same_number (operator_code t.op) i && (Decides-int_eq t.value t.value).1 refl i

pub tree_itself : (c : Condition) → equal_trees c c ≡ true
tree_itself (Watch t) = term_itself t
tree_itself (Not c) = tree_itself c
tree_itself (Join And a b) = λ i. tree_itself a i && tree_itself b i
tree_itself (Join Or a b) = λ i. tree_itself a i && tree_itself b i
tree_itself (Join Xor a b) = λ i. tree_itself a i && tree_itself b i

pub equal_if_one : (a b : Condition) → a ≡ b → IsTrue (equal_trees a b)
equal_if_one a b same = ap (equal_trees a) (sym same) ∙ tree_itself a
