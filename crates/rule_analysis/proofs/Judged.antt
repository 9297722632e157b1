-- What a walk from the start says of a condition.
use Rattle.std.proofs.Common.{◌≡◌, ℕ, List, [], ◌∷◌, ◌≤◌, length, slice_get, refl, ap, ap₂, sym, ◌∙◌, subst, arith, Option, Some, None, Vec}
use Rattle.std.specs.Global.{Global}
use Rattle.std.specs.Prelude.{Contains}
use Rattle.std.specs.List.{AllByRecursion}
use Rattle.lc_model.specs.declared.field.FieldType.TheVariants.{U8}
use Rattle.lc_model.specs.declared.field.Term.{Term}
use Rattle.lc_model.specs.Truth.{truth_not}
use Rattle.lc_model.specs.Condition.{And, Condition, Join, Not}
use Rattle.lc_model.specs.Tables.Equation.{mentions}
use Rattle.rule_analysis.specs.declared.fields.Field.{Field}
use Rattle.rule_analysis.specs.Fields.{AreFieldsOf, HasField, field_number}
use Rattle.lc_model.specs.declared.truth.Truth.TheVariants.{False, True}
use Rattle.lc_model.specs.LimitChecker.Watch.{combined, judgement, truth_by}
use Rattle.rule_analysis.specs.Judgement.{Place, place_of, value_by, found_by, NeverHolds, HoldsForSome}
use Rattle.rule_analysis.specs.declared.open.Open.{Open}
use Rattle.rule_analysis.specs.declared.walk.Outcome.{Outcome}
use Rattle.rule_analysis.specs.declared.walk.Outcome.TheVariants.{Found, Excluded, Spent}
use Rattle.rule_analysis.specs.Open.{Has, left_of}
use Rattle.rule_analysis.specs.Search.{found_so_far, found_everywhere, GoesOnFrom, IsNever, IsWalked, AreReady, AreRepresented}
use Rattle.rule_analysis.specs.Steps.{IsWithin}
use Rattle.rule_analysis.specs.Findings.{HoldsWith, IsFoundBits, IsSought}
use Rattle.rule_analysis.proofs.Each.{each}
use Rattle.rule_analysis.proofs.FieldLaws.{place_numbered, named, at_place, number_of_place}
use Rattle.rule_analysis.proofs.OpenLaws.{of_one, is_mentioned}
use Rattle.rule_analysis.proofs.StepLaws.{few_for}
use Rattle.rule_analysis.proofs.WalkLaws.{by_mentions, true_stays, never_holds}

abbrev nowhere : Place
nowhere = record { kind = U8; mid = 0; offset = 0; mask = 0 }

pub never_of : (fields : List Field) (c : Condition) → AllByRecursion (λ t. HasField fields t) (mentions c) → IsNever (field_number fields) c → NeverHolds c
never_of fields c has never = never_holds (field_number fields) (place_numbered fields nowhere) c (each (mentions c) (named fields nowhere) has) never

-- what holds of the terms, the fields and the rows that were made holds of those that are handed on
pub handed_on : (terms others : List Term) (fields again : List Field) (rows seen : List (Vec ℕ Global)) → terms ≡ others → fields ≡ again → rows ≡ seen →
    AreRepresented (field_number fields) terms rows → AreRepresented (field_number again) others seen
handed_on terms others fields again rows seen are same so represented =
    subst (AreRepresented (field_number again) others) so
    (subst (λ fs. AreRepresented (field_number fs) others rows) same (subst (λ ts. AreRepresented (field_number fields) ts rows) are represented))

-- at the start each comparison is left
pub ready_first : (fields : List Field) (terms : List Term) (c : Condition) (o : Open) (start count : ℕ) → left_of o ≡ c → terms ≡ mentions c → start ≡ 0 →
    count ≡ length fields → ((at : ℕ) (t : Term) → Has o at t → field_number fields t ≡ at) → AllByRecursion (λ t. HasField fields t) terms →
    AreReady (field_number fields) terms start count o
ready_first fields terms c o start count same are none size numbered has at t is = record {
  numbered = numbered at t is;
  later = omega (arith, none);
  inside = omega (arith, of_one (λ u. HasField fields u) terms t has named_there, numbered at t is, size);
  named = named_there;
}
  where
    named_there : Contains terms t
    named_there = subst (λ ts. Contains ts t) (sym are) (subst (λ d. Contains (mentions d) t) same (is_mentioned o at t is))

-- what a walk from the start says
pub sought : (fields : List Field) (terms : List Term) (c : Condition) (o : Open) (start new : List ℕ) (before after count : ℕ) (outcome : Outcome) → left_of o ≡ c → terms ≡ mentions c →
    start ≡ [] → count ≡ length fields → AllByRecursion (λ t. HasField fields t) terms → length new ≤ count → (outcome ≡ Spent → after ≡ 0) →
    IsWithin (field_number fields) terms (length start) before after → IsWalked (field_number fields) (left_of o) new outcome → IsSought c fields before outcome new
sought fields terms c o start new before after count Found same are none size has few spent within walked = record {
  few = omega (arith, few, size);
  holds = subst (λ d. truth_by (found_so_far (field_number fields) new) d ≡ True) same walked;
}
sought fields terms c o start new before after count Excluded same are none size has few spent within walked =
    never_of fields c (subst (AllByRecursion (λ t. HasField fields t)) are has) (subst (IsNever (field_number fields)) same walked)
sought fields terms c o start new before after count Spent same are none size has few spent within walked =
    few_for (field_number fields) c start before after none (spent refl) (subst (λ ts. IsWithin (field_number fields) ts (length start) before after) are within)

-- ---- some numbers

bits_at : List ℕ → ℕ → ℕ
bits_at chosen field = bits (slice_get chosen field)
  where
    bits : Option ℕ → ℕ
    bits None = 0
    bits (Some there) = there

go_on : (number : Term → ℕ) (chosen : List ℕ) → GoesOnFrom number chosen (bits_at chosen)
unfolding bits_at
go_on number chosen field there e = rw e refl

pub some_of : (fields : List Field) (c : Condition) (chosen : List ℕ) → truth_by (found_so_far (field_number fields) chosen) c ≡ True → HoldsForSome c
some_of fields c chosen holds = (
  (λ p. bits_at chosen (field_number fields (at_place p))),
  by_mentions (found_by (λ p. bits_at chosen (field_number fields (at_place p)))) (found_everywhere (field_number fields) (bits_at chosen)) c
      (each_term (mentions c)) ∙ true_stays (field_number fields) c chosen holds (bits_at chosen) (go_on (field_number fields) chosen),
)
  where
    each_term : (ts : List Term) → AllByRecursion (λ t. found_by (λ p. bits_at chosen (field_number fields (at_place p))) t ≡ found_everywhere (field_number fields) (bits_at chosen) t) ts
    each_term [] = tt
    each_term (t ∷ ts) = (ap (λ n. judgement t (Some (value_by (place_of t) (bits_at chosen n)))) (number_of_place fields t), each_term ts)

-- bits that were found, of the fields that were handed on
pub held : (c : Condition) (fields again : List Field) (terms : List Term) (bits : List ℕ) → again ≡ fields → terms ≡ mentions c → AreFieldsOf terms fields →
    IsFoundBits c again bits → HoldsWith c fields bits
held c fields again terms bits same are exact found = record {
  some = some_of fields c bits (subst (λ fs. truth_by (found_so_far (field_number fs) bits) c ≡ True) same found.holds);
  read = subst (λ ts. AreFieldsOf ts fields) are exact;
  few = subst (λ fs. length bits ≤ length fs) same found.few;
  holds = subst (λ fs. truth_by (found_so_far (field_number fs) bits) c ≡ True) same found.holds;
}

-- ---- bits that were tried

pub apart_with : (fields : List Field) (a b : Condition) (bits : List ℕ) → truth_by (found_so_far (field_number fields) bits) a ≡ True →
    truth_by (found_so_far (field_number fields) bits) b ≡ False → HoldsForSome (Join And a (Not b))
apart_with fields a b bits fails passes = some_of fields (Join And a (Not b)) bits (ap₂ (λ x y. combined And x (truth_not y)) fails passes)
