-- Comparisons of one field and one stale age have the same truth if they say the same of each value.
use Rattle.std.proofs.Common.{◌≡◌, ℕ, ℤ, Bool, true, false, ◌&&◌, ◌==◌, not, List, Option, Some, None, if◌then◌else◌, refl, ap, sym, ◌∙◌}
use Rattle.std.specs.Prelude.{IsTrue}
use Rattle.std.specs.Ordering.{int_eq}
use Rattle.std.proofs.lemmas.Bool.Decides.{Decides-int_eq, Decides-eqb}
use Rattle.lc_model.specs.declared.truth.Truth.{Truth}
use Rattle.lc_model.specs.declared.truth.Truth.TheVariants.{True, False, Stale, Error}
use Rattle.lc_model.specs.declared.field.CmpOp.{CmpOp}
use Rattle.lc_model.specs.declared.field.Term.{Term}
use Rattle.lc_model.specs.Codes.{operator_code}
use Rattle.lc_model.specs.Field.{value_of, compares}
use Rattle.lc_model.specs.Truth.{truth_not}
use Rattle.lc_model.specs.Condition.{Condition, Watch}
use Rattle.lc_model.specs.LimitChecker.Watch.{History, truth_of, truth_of_term, last_packet, is_stale, judgement}
use Rattle.lc_model.proofs.Facts.{and_first, and_second}
use Rattle.lc_model.proofs.CodesAgain.{one_operator}
use Rattle.rule_changes.specs.Known.{is_known_alike}
use Rattle.rule_changes.specs.Forms.{AreSame, signed}
use Rattle.rule_changes.proofs.Lifting.{with_comparison, is_with, parts_of}

-- the truth, or its opposite
abbrev pub sign : Bool → Truth → Truth
sign false x = x
sign true x = truth_not x

pub truth_of_signed : (n : Bool) (c : Condition) (h : History) → truth_of (signed n c) h ≡ sign n (truth_of c h)
truth_of_signed false c h = refl
truth_of_signed true c h = refl

-- whether a comparison, or its opposite, holds of a value
abbrev holds : Bool → Term → ℤ → Bool
holds n t x = if n then not (compares t.op x t.value) else compares t.op x t.value

sign_of : (n b : Bool) → sign n (if b then True else False) ≡ (if (if n then not b else b) then True else False)
sign_of false b = refl
sign_of true true = refl
sign_of true false = refl

stale_of : (n : Bool) → sign n Stale ≡ Stale
stale_of false = refl
stale_of true = refl

error_of : (n : Bool) → sign n Error ≡ Error
error_of false = refl
error_of true = refl

same_with : (t u : Term) (n m : Bool) → ((x : ℤ) → holds n t x ≡ holds m u x) → (h : History) →
    sign n (truth_of_term t h) ≡ sign m (truth_of_term (with_comparison t u) h)
same_with t u n m same h = by_last (last_packet t.mid h)
  where
    judged : Term → Option (List ℕ × ℕ) → Truth
    judged v None = Stale
    judged v (Some (packet, agings)) = if is_stale v agings then Stale else judgement v (value_of v packet)

    by_value : (v : Option ℤ) → sign n (judgement t v) ≡ sign m (judgement (with_comparison t u) v)
    by_value None = error_of n ∙ sym (error_of m)
    by_value (Some x) = sign_of n (compares t.op x t.value) ∙ ap (λ b. if b then True else False) (same x) ∙ sym (sign_of m (compares u.op x u.value))

    by_age : (stale : Bool) (packet : List ℕ) → sign n (if stale then Stale else judgement t (value_of t packet))
        ≡ sign m (if stale then Stale else judgement (with_comparison t u) (value_of t packet))
    by_age true packet = stale_of n ∙ sym (stale_of m)
    by_age false packet = by_value (value_of t packet)

    by_last : (last : Option (List ℕ × ℕ)) → sign n (judged t last) ≡ sign m (judged (with_comparison t u) last)
    by_last None = stale_of n ∙ sym (stale_of m)
    by_last (Some (packet, agings)) = by_age (is_stale t agings) packet

one_form : (op other : CmpOp) (v w : ℤ) (x : ℤ) → IsTrue ((operator_code op == operator_code other) && int_eq v w) → compares op x v ≡ compares other x w
one_form op other v w x same =
    let codes : Bool = operator_code op == operator_code other in
    let ops = one_operator op other ((Decides-eqb (operator_code op) (operator_code other)).0 (and_first codes (int_eq v w) same)) in
    let values = (Decides-int_eq v w).0 (and_second codes (int_eq v w) same) in
    λ i. compares (ops i) x (values i)

pub same_terms : (t u : Term) (n m : Bool) (form other : CmpOp × ℤ) → IsTrue (is_known_alike t u) → ((x : ℤ) → compares form.0 x form.1 ≡ holds n t x) →
    ((x : ℤ) → compares other.0 x other.1 ≡ holds m u x) → IsTrue ((operator_code form.0 == operator_code other.0) && int_eq form.1 other.1) →
    AreSame (signed n (Watch t)) (signed m (Watch u))
same_terms t u n m form other alike is other_is one h =
    truth_of_signed n (Watch t) h
    ∙ same_with t u n m (λ x. sym (is x) ∙ one_form form.0 other.0 form.1 other.1 x one ∙ other_is x) h
    ∙ ap (λ v. sign m (truth_of_term v h)) (is_with t u (parts_of t u alike)) ∙ sym (truth_of_signed m (Watch u) h)
