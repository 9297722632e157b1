-- Conditions over watchpoint numbers, as an equation's words have them. This project's own.
use Rattle.std.specs.Prelude.{◌≡◌, ℕ, ◌+◌, ◌≤◌, ◌<◌, max, List, [], ◌∷◌, ◌++◌, flat_map, slice_get, Some, unwrap_or, option_map}
use Rattle.std.specs.List.{AllByRecursion}
use Rattle.lc_model.specs.declared.field.Term.{Term}
use Rattle.lc_model.specs.declared.truth.Truth.{Truth}
use Rattle.lc_model.specs.declared.truth.Truth.TheVariants.{Stale}
use Rattle.lc_model.specs.Truth.{truth_not}
use Rattle.lc_model.specs.Codes.{table_entries}
use Rattle.lc_model.specs.Condition as condition
use Rattle.lc_model.specs.Condition.{Operator, And, Or, Xor, Condition}
use Rattle.lc_model.specs.LimitChecker.Watch.{combined}
use Rattle.lc_model.specs.Tables.Equation.{operator_word, not_word, number_in}
use Rattle.table_listing.specs.declared.equation.Operator.{Operator as OperatorValue}
use Rattle.table_listing.specs.declared.equation.Operator.TheVariants as operator
use Rattle.table_listing.specs.declared.equation.Equation.{Equation}
use Rattle.table_listing.specs.declared.equation.Equation.TheVariants as tree

-- a condition over watchpoint numbers
pub data Formula : Type 0 where
  Watch : (n : ℕ) → Formula
  Not : (f : Formula) → Formula
  Join : (o : Operator) (a b : Formula) → Formula

-- the program's operator in the model
abbrev pub operator_of : OperatorValue → Operator
operator_of operator.And = And
operator_of operator.Or = Or
operator_of operator.Xor = Xor

-- the program's equation as a formula
abbrev pub formula_of : Equation → Formula
formula_of (tree.Watch n) = Watch n
formula_of (tree.Not' p a) = Not (formula_of a)
formula_of (tree.Join' o p a b) = Join (operator_of o) (formula_of a) (formula_of b)

-- ---- words

-- the words that spell a formula, the first operand first, without EQUAL
abbrev pub words_of : Formula → List ℕ
words_of (Watch n) = n ∷ []
words_of (Not f) = words_of f ++ not_word ∷ []
words_of (Join o a b) = words_of a ++ words_of b ++ operator_word o ∷ []

-- the words of the program's equations, in order
abbrev pub words_of_all : List Equation → List ℕ
words_of_all = flat_map (λ e. words_of (formula_of e))

-- the numbers of the watchpoints that a formula mentions, from left to right
abbrev pub mentioned : Formula → List ℕ
mentioned (Watch n) = n ∷ []
mentioned (Not f) = mentioned f
mentioned (Join o a b) = mentioned a ++ mentioned b

-- the numbers that the program's equations mention
abbrev pub mentioned_by_all : List Equation → List ℕ
mentioned_by_all = flat_map (λ e. mentioned (formula_of e))

-- numbers of watchpoints, which are no operators
abbrev pub AreNumbers : List ℕ → Type 0
AreNumbers = AllByRecursion (λ n. n < table_entries)

-- the formula whose words these are, over watchpoint numbers
pub record IsTreeOf (ws : List ℕ) (f : Formula) : Type 0 where
  pub words : words_of f ≡ ws
  pub numbers : AreNumbers (mentioned f)

-- ---- meaning

-- the formula's value for these results of the watchpoints
abbrev pub value : (ℕ → Truth) → Formula → Truth
value found (Watch n) = found n
value found (Not f) = truth_not (value found f)
value found (Join o a b) = combined o (value found a) (value found b)

-- the result of the watchpoint with this number; stale if there is none, which never happens
abbrev pub found_at : List Term → (Term → Truth) → ℕ → Truth
found_at terms found n = unwrap_or (option_map found (slice_get terms n)) Stale

-- the condition is the formula over the watchpoints with these numbers
pub data IsOver (terms : List Term) : Formula → Condition → Type 0 where
  mention : {n : ℕ} {t : Term} → slice_get terms n ≡ Some t → IsOver terms (Watch n) (condition.Watch t)
  negation : {f : Formula} {c : Condition} → IsOver terms f c → IsOver terms (Not f) (condition.Not c)
  binary : {a b : Formula} {c d : Condition} (o : Operator) → IsOver terms a c → IsOver terms b d →
      IsOver terms (Join o a b) (condition.Join o c d)

-- ---- the order of operands

-- the most operands that wait at once if the first operand is evaluated first
abbrev pub need : Formula → ℕ
need (Watch n) = 1
need (Not f) = need f
need (Join o a b) = max (need a) (need b + 1)

-- no operand stands after one of less need
abbrev pub StandsHeavierFirst : Formula → Type 0
StandsHeavierFirst (Watch n) = Unit {0}
StandsHeavierFirst (Not f) = StandsHeavierFirst f
StandsHeavierFirst (Join o a b) = StandsHeavierFirst a × StandsHeavierFirst b × (need b ≤ need a)

-- each watchpoint is the first of its kind in the list, so it gets its number again
abbrev pub KeepsNumbers : List Term → Formula → Type 0
KeepsNumbers terms f = AllByRecursion (λ n. (t : Term) → slice_get terms n ≡ Some t → number_in terms t ≡ n) (mentioned f)
