-- The list of results by rule number.
use Rattle.std.proofs.Common.{◌≡◌, refl, ap, sym, ◌∙◌, ℕ, zero, suc, Bool, true, false, IsTrue, ◌+◌, List, [], ◌∷◌, ◌++◌, ◌<◌, length, take, drop, slice_get, slice_set, Option, Some, None, arith}
use Rattle.lc_model.specs.Kept.Summary.{LcOwn}
use Rattle.lc_model.specs.declared.command.SampleRequest.{SampleRequest}
use Rattle.lc_model.specs.declared.mode.ApResult.{ApResult}
use Rattle.run_account.specs.Samples.{AreResults, result_of, results_from, shown_if}

some_is : {X : Type 0} (one other : X) → Some one ≡ Some other → other ≡ one
some_is one other is = sym (cc is)

from_there : (all : List SampleRequest) (checker : Option LcOwn) (before : List (Option ApResult)) (first n : ℕ) (found : Option ApResult) →
    slice_get (results_from all checker first before) n ≡ Some found → found ≡ result_of all checker (first + n)
from_there all checker [] first n found is = absurd (cc is)
from_there all checker (one ∷ before) first zero found is = some_is (result_of all checker first) found is ∙ ap (result_of all checker) same
  where
    same : first ≡ first + zero
    same = omega arith
from_there all checker (one ∷ before) first (suc n) found is = from_there all checker before (first + 1) n found is ∙ ap (result_of all checker) same
  where
    same : (first + 1) + n ≡ first + suc n
    same = omega arith

pub are_results : (all : List SampleRequest) (checker : Option LcOwn) (before now : List (Option ApResult)) → now ≡ results_from all checker 0 before → AreResults all checker now
are_results all checker before now is = λ rule found there.
    from_there all checker before 0 rule found (ap (λ results. slice_get results rule) (sym is) ∙ there) ∙ ap (result_of all checker) (omega arith)

pub shown_are : (all : List SampleRequest) (checker : Option LcOwn) (is_newest : Bool) (results shown : List (Option ApResult)) → shown ≡ shown_if is_newest results →
    (IsTrue is_newest → AreResults all checker results) → AreResults all checker shown
shown_are all checker false results shown is are = λ rule found there. absurd (cc (ap (λ some. slice_get some rule) (sym is) ∙ there))
shown_are all checker true results shown is are = λ rule found there. are refl rule found (ap (λ some. slice_get some rule) (sym is) ∙ there)

-- one more result is put into its place
pub one_more : (all : List SampleRequest) (checker : Option LcOwn) (rule : ℕ) (results : List (Option ApResult)) (n : ℕ) → n < length results →
    take (suc n) (slice_set results n (result_of all checker rule)) ++ results_from all checker (rule + 1) (drop (suc n) (slice_set results n (result_of all checker rule)))
    ≡ take n results ++ results_from all checker rule (drop n results)
one_more all checker rule [] n less = absurd (omega (arith, less))
one_more all checker rule (one ∷ results) zero less = refl
one_more all checker rule (one ∷ results) (suc n) less = ap (λ (more : List (Option ApResult)). one ∷ more) (one_more all checker rule results n (omega (arith, less)))
