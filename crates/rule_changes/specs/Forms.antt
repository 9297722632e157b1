-- Conditions with the same truth. This project's own.
use Rattle.std.specs.Prelude.{◌≡◌, Bool, true, false, ◌&&◌, if◌then◌else◌}
use Rattle.lc_model.specs.Condition.{Operator, Condition, Watch, Not, Join, And, Or, Xor}
use Rattle.lc_model.specs.Tables.Equation.{same_term}
use Rattle.lc_model.specs.LimitChecker.Watch.{History, truth_of}

-- After every history they have the same of the four truths.
abbrev pub AreSame : Condition → Condition → Type 0
AreSame a b = (h : History) → truth_of a h ≡ truth_of b h

-- Whether both are the same operator.
abbrev pub same_operator : Operator → Operator → Bool
same_operator And And = true
same_operator Or Or = true
same_operator Xor Xor = true
same_operator o p = false

-- Whether the conditions are equal as trees.
abbrev pub equal_trees : Condition → Condition → Bool
equal_trees (Watch t) (Watch u) = same_term t u
equal_trees (Not a) (Not b) = equal_trees a b
equal_trees (Join o a b) (Join p c d) = same_operator o p && equal_trees a c && equal_trees b d
equal_trees a b = false

-- The first condition, a chain of `and` (for `true`) or of `or`, has the same truth with the second one as a further operand.
abbrev pub Covers : Bool → Condition → Condition → Type 0
Covers all whole part = (h : History) → truth_of (Join (if all then And else Or) whole part) h ≡ truth_of whole h

-- The condition, or its negation.
abbrev pub signed : Bool → Condition → Condition
signed false c = c
signed true c = Not c
