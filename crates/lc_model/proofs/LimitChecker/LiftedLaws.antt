-- Lifted conditions say what was found.
use Rattle.std.proofs.Common.{◌≡◌, Bool, true, false, not, refl, ap, ap₂, sym, ◌∙◌, subst}
use Rattle.std.specs.Prelude.{◌≢◌}
use Rattle.lc_model.specs.declared.truth.Truth.{Truth}
use Rattle.lc_model.specs.declared.truth.Truth.TheVariants.{True, False, Stale, Error}
use Rattle.lc_model.specs.declared.field.Term.{Term}
use Rattle.lc_model.specs.Truth.{truth_and, truth_or, truth_xor, truth_not}
use Rattle.lc_model.specs.Condition.{Condition, And, Or, Xor, Watch, Not, Join}
use Rattle.lc_model.specs.LimitChecker.Watch.{truth_by}
use Rattle.lc_model.specs.Laws.Lifted.{says, lifted, ShowsKnown, LiftedSays, LiftedDecides}

and_true : (x y : Truth) → truth_and (says true x) (says true y) ≡ says true (truth_and x y)
and_true True True = refl
and_true True False = refl
and_true True Stale = refl
and_true True Error = refl
and_true False True = refl
and_true False False = refl
and_true False Stale = refl
and_true False Error = refl
and_true Stale True = refl
and_true Stale False = refl
and_true Stale Stale = refl
and_true Stale Error = refl
and_true Error True = refl
and_true Error False = refl
and_true Error Stale = refl
and_true Error Error = refl

and_false : (x y : Truth) → truth_or (says false x) (says false y) ≡ says false (truth_and x y)
and_false True True = refl
and_false True False = refl
and_false True Stale = refl
and_false True Error = refl
and_false False True = refl
and_false False False = refl
and_false False Stale = refl
and_false False Error = refl
and_false Stale True = refl
and_false Stale False = refl
and_false Stale Stale = refl
and_false Stale Error = refl
and_false Error True = refl
and_false Error False = refl
and_false Error Stale = refl
and_false Error Error = refl

or_true : (x y : Truth) → truth_or (says true x) (says true y) ≡ says true (truth_or x y)
or_true True True = refl
or_true True False = refl
or_true True Stale = refl
or_true True Error = refl
or_true False True = refl
or_true False False = refl
or_true False Stale = refl
or_true False Error = refl
or_true Stale True = refl
or_true Stale False = refl
or_true Stale Stale = refl
or_true Stale Error = refl
or_true Error True = refl
or_true Error False = refl
or_true Error Stale = refl
or_true Error Error = refl

or_false : (x y : Truth) → truth_and (says false x) (says false y) ≡ says false (truth_or x y)
or_false True True = refl
or_false True False = refl
or_false True Stale = refl
or_false True Error = refl
or_false False True = refl
or_false False False = refl
or_false False Stale = refl
or_false False Error = refl
or_false Stale True = refl
or_false Stale False = refl
or_false Stale Stale = refl
or_false Stale Error = refl
or_false Error True = refl
or_false Error False = refl
or_false Error Stale = refl
or_false Error Error = refl

xor_true : (x y : Truth) → truth_or (truth_and (says true x) (says false y)) (truth_and (says false x) (says true y)) ≡ says true (truth_xor x y)
xor_true True True = refl
xor_true True False = refl
xor_true True Stale = refl
xor_true True Error = refl
xor_true False True = refl
xor_true False False = refl
xor_true False Stale = refl
xor_true False Error = refl
xor_true Stale True = refl
xor_true Stale False = refl
xor_true Stale Stale = refl
xor_true Stale Error = refl
xor_true Error True = refl
xor_true Error False = refl
xor_true Error Stale = refl
xor_true Error Error = refl

xor_false : (x y : Truth) → truth_or (truth_and (says true x) (says true y)) (truth_and (says false x) (says false y)) ≡ says false (truth_xor x y)
xor_false True True = refl
xor_false True False = refl
xor_false True Stale = refl
xor_false True Error = refl
xor_false False True = refl
xor_false False False = refl
xor_false False Stale = refl
xor_false False Error = refl
xor_false Stale True = refl
xor_false Stale False = refl
xor_false Stale Stale = refl
xor_false Stale Error = refl
xor_false Error True = refl
xor_false Error False = refl
xor_false Error Stale = refl
xor_false Error Error = refl

turned : (wanted : Bool) (x : Truth) → says (not wanted) x ≡ says wanted (truth_not x)
turned true True = refl
turned true False = refl
turned true Stale = refl
turned true Error = refl
turned false True = refl
turned false False = refl
turned false Stale = refl
turned false Error = refl

pub lifted_says : LiftedSays
lifted_says known found seen shows true (Watch t) = (shows t).0
lifted_says known found seen shows false (Watch t) = (shows t).1
lifted_says known found seen shows true (Not c) = lifted_says known found seen shows false c ∙ turned true (truth_by found c)
lifted_says known found seen shows false (Not c) = lifted_says known found seen shows true c ∙ turned false (truth_by found c)
lifted_says known found seen shows true (Join And a b) =
    ap₂ truth_and (lifted_says known found seen shows true a) (lifted_says known found seen shows true b) ∙ and_true (truth_by found a) (truth_by found b)
lifted_says known found seen shows false (Join And a b) =
    ap₂ truth_or (lifted_says known found seen shows false a) (lifted_says known found seen shows false b) ∙ and_false (truth_by found a) (truth_by found b)
lifted_says known found seen shows true (Join Or a b) =
    ap₂ truth_or (lifted_says known found seen shows true a) (lifted_says known found seen shows true b) ∙ or_true (truth_by found a) (truth_by found b)
lifted_says known found seen shows false (Join Or a b) =
    ap₂ truth_and (lifted_says known found seen shows false a) (lifted_says known found seen shows false b) ∙ or_false (truth_by found a) (truth_by found b)
lifted_says known found seen shows true (Join Xor a b) =
    ap₂ truth_or (ap₂ truth_and (lifted_says known found seen shows true a) (lifted_says known found seen shows false b))
    (ap₂ truth_and (lifted_says known found seen shows false a) (lifted_says known found seen shows true b)) ∙ xor_true (truth_by found a) (truth_by found b)
lifted_says known found seen shows false (Join Xor a b) =
    ap₂ truth_or (ap₂ truth_and (lifted_says known found seen shows true a) (lifted_says known found seen shows true b))
    (ap₂ truth_and (lifted_says known found seen shows false a) (lifted_says known found seen shows false b)) ∙ xor_false (truth_by found a) (truth_by found b)

by_truths : (x y : Truth) → truth_and (says true x) (truth_not (says true y)) ≢ True → x ≡ True → y ≡ True
by_truths x True never is = refl
by_truths x False never is = absurd (never (ap (λ z. truth_and (says true z) True) is))
by_truths x Stale never is = absurd (never (ap (λ z. truth_and (says true z) True) is))
by_truths x Error never is = absurd (never (ap (λ z. truth_and (says true z) True) is))

pub lifted_decides : LiftedDecides
lifted_decides known found seen shows new old never is =
    by_truths (truth_by found new) (truth_by found old)
    (subst (λ z. z ≢ True)
    (ap₂ (λ a b. truth_and a (truth_not b)) (lifted_says known found seen shows true new) (lifted_says known found seen shows true old)) never) is
