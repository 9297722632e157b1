-- Truth has four values, and questions over readings know two. Here a condition is lifted: "it is true" and "it is false" become
-- conditions of two values over the same comparisons, each together with a comparison that is true where it is known. This
-- project's own.
use Rattle.std.specs.Prelude.{◌≡◌, ◌≢◌, Bool, true, false, not}
use Rattle.lc_model.specs.declared.truth.Truth.{Truth}
use Rattle.lc_model.specs.declared.truth.Truth.TheVariants.{True, False}
use Rattle.lc_model.specs.declared.field.Term.{Term}
use Rattle.lc_model.specs.Truth.{truth_and, truth_not}
use Rattle.lc_model.specs.Condition.{Condition, And, Or, Xor, Watch, Not, Join}
use Rattle.lc_model.specs.LimitChecker.Watch.{truth_by}

-- Whether a truth is True (for `true`), or False (for `false`), as a truth of two values.
abbrev pub says : Bool → Truth → Truth
says true True = True
says true other = False
says false False = True
says false other = False

-- The condition that is true where a condition is true (for `true`), or false (for `false`). `known t` is true where comparison
-- `t` is known. For example, "`V < 10` is true" is `known and V < 10`, and "it is false" is `known and not V < 10`.
abbrev pub lifted : (Term → Condition) → Bool → Condition → Condition
lifted known true (Watch t) = Join And (known t) (Watch t)
lifted known false (Watch t) = Join And (known t) (Not (Watch t))
lifted known wanted (Not c) = lifted known (not wanted) c
lifted known true (Join And a b) = Join And (lifted known true a) (lifted known true b)
lifted known false (Join And a b) = Join Or (lifted known false a) (lifted known false b)
lifted known true (Join Or a b) = Join Or (lifted known true a) (lifted known true b)
lifted known false (Join Or a b) = Join And (lifted known false a) (lifted known false b)
lifted known true (Join Xor a b) =
    Join Or (Join And (lifted known true a) (lifted known false b)) (Join And (lifted known false a) (lifted known true b))
lifted known false (Join Xor a b) =
    Join Or (Join And (lifted known true a) (lifted known true b)) (Join And (lifted known false a) (lifted known false b))

-- The two-valued results `seen` show the results `found`: a comparison that is found True or False is known and seen so, and each
-- other one is not known.
abbrev pub ShowsKnown : (Term → Condition) → (found seen : Term → Truth) → Type 0
ShowsKnown known found seen = (t : Term) →
    (truth_and (truth_by seen (known t)) (seen t) ≡ says true (found t)) × (truth_and (truth_by seen (known t)) (truth_not (seen t)) ≡ says false (found t))

-- Law: over such results the lifted conditions say whether a condition was found true, or false.
abbrev pub LiftedSays : Type 0
LiftedSays = (known : Term → Condition) (found seen : Term → Truth) → ShowsKnown known found seen → (wanted : Bool) (c : Condition) →
    truth_by seen (lifted known wanted c) ≡ says wanted (truth_by found c)

-- Law: if "the new condition is true and the old one is not", lifted, does not hold, then the new one is true only where the old
-- one is.
abbrev pub LiftedDecides : Type 0
LiftedDecides = (known : Term → Condition) (found seen : Term → Truth) → ShowsKnown known found seen → (new old : Condition) →
    truth_by seen (Join And (lifted known true new) (Not (lifted known true old))) ≢ True → truth_by found new ≡ True → truth_by found old ≡ True
