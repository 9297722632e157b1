-- Two `xor` with operands of the same truths, or of opposite ones, have the same truth.
use Rattle.std.proofs.Common.{◌≡◌, Bool, true, false, not, refl, ap, ap₂, sym, ◌∙◌}
use Rattle.lc_model.specs.declared.truth.Truth.{Truth}
use Rattle.lc_model.specs.declared.truth.Truth.TheVariants.{True, False, Stale, Error}
use Rattle.lc_model.specs.Truth.{truth_xor, truth_not}
use Rattle.lc_model.specs.Condition.{Condition, Xor, Join}
use Rattle.lc_model.specs.LimitChecker.Watch.{History, truth_of}
use Rattle.rule_changes.specs.Forms.{AreSame, signed}
use Rattle.rule_changes.proofs.Comparing.{sign, truth_of_signed}

not_not : (x : Truth) → truth_not (truth_not x) ≡ x
not_not True = refl
not_not False = refl
not_not Stale = refl
not_not Error = refl

not_xor : (x y : Truth) → truth_not (truth_xor x y) ≡ truth_xor (truth_not x) y
not_xor True True = refl
not_xor True False = refl
not_xor True Stale = refl
not_xor True Error = refl
not_xor False True = refl
not_xor False False = refl
not_xor False Stale = refl
not_xor False Error = refl
not_xor Stale True = refl
not_xor Stale False = refl
not_xor Stale Stale = refl
not_xor Stale Error = refl
not_xor Error True = refl
not_xor Error False = refl
not_xor Error Stale = refl
not_xor Error Error = refl

nots_xor : (x y : Truth) → truth_xor (truth_not x) (truth_not y) ≡ truth_xor x y
nots_xor True True = refl
nots_xor True False = refl
nots_xor True Stale = refl
nots_xor True Error = refl
nots_xor False True = refl
nots_xor False False = refl
nots_xor False Stale = refl
nots_xor False Error = refl
nots_xor Stale True = refl
nots_xor Stale False = refl
nots_xor Stale Stale = refl
nots_xor Stale Error = refl
nots_xor Error True = refl
nots_xor Error False = refl
nots_xor Error Stale = refl
nots_xor Error Error = refl

sign_xor : (n : Bool) (x y : Truth) → sign n (truth_xor x y) ≡ truth_xor (sign n x) y
sign_xor false x y = refl
sign_xor true x y = not_xor x y

sign_xor_turned : (n : Bool) (x y : Truth) → truth_xor (sign n x) y ≡ truth_xor (sign (not n) x) (truth_not y)
sign_xor_turned false x y = sym (nots_xor x y)
sign_xor_turned true x y = sym (nots_xor (truth_not x) y) ∙ ap (λ z. truth_xor z (truth_not y)) (not_not x)

xor_signed : (n : Bool) (a b : Condition) (h : History) → truth_of (signed n (Join Xor a b)) h ≡ truth_xor (truth_of (signed n a) h) (truth_of b h)
xor_signed n a b h =
    truth_of_signed n (Join Xor a b) h ∙ sign_xor n (truth_of a h) (truth_of b h) ∙ ap (λ x. truth_xor x (truth_of b h)) (sym (truth_of_signed n a h))

pub same_xor : (n m : Bool) (a b c d : Condition) → AreSame (signed n a) (signed m c) → AreSame (signed false b) (signed false d) →
    AreSame (signed n (Join Xor a b)) (signed m (Join Xor c d))
same_xor n m a b c d one other h = xor_signed n a b h ∙ ap₂ truth_xor (one h) (other h) ∙ sym (xor_signed m c d h)

pub same_xor_turned : (n m : Bool) (a b c d : Condition) → AreSame (signed (not n) a) (signed m c) → AreSame (signed true b) (signed false d) →
    AreSame (signed n (Join Xor a b)) (signed m (Join Xor c d))
same_xor_turned n m a b c d one other h =
    truth_of_signed n (Join Xor a b) h ∙ sign_xor n (truth_of a h) (truth_of b h) ∙ sign_xor_turned n (truth_of a h) (truth_of b h)
    ∙ ap₂ truth_xor (sym (truth_of_signed (not n) a h) ∙ one h) (other h) ∙ sym (xor_signed m c d h)
