-- Which requests take a rule.
use Rattle.std.proofs.Common.{◌≡◌, refl, ap, ◌∙◌, ℕ, zero, suc, ◌+◌, ◌<◌, ◌||◌, Bool, true, false, List, [], ◌∷◌, Option, Some, None, is_some, length, drop, arith}
use Rattle.lc_model.specs.Command.{takes}
use Rattle.lc_model.specs.Host.Schedule.{ScheduleEntry, Sample, Housekeeping}
use Rattle.lc_model.specs.Kept.Summary.{LcOwn, Tally}
use Rattle.lc_model.specs.LimitChecker.Steps.{Point, is_disabled}
use Rattle.lc_model.specs.declared.command.SampleRequest.{SampleRequest}
use Rattle.run_account.specs.Samples.{are_taking, entry_request, entry_requests, has_sample, result_of, sampled_from}

by_first : (one others : Bool) → (one || others) ≡ ((one || false) || others)
by_first true others = refl
by_first false others = refl

-- an entry's request, or one of those after it
pub taking_first : (rule : ℕ) (entry : ScheduleEntry) (entries : List ScheduleEntry) →
    are_taking (entry_requests (entry ∷ entries)) rule ≡ (are_taking (entry_request entry) rule || are_taking (entry_requests entries) rule)
taking_first rule (Sample first last ages) entries = by_first (takes (record { first = first; last = last; ages = ages }) rule) (are_taking (entry_requests entries) rule)
taking_first rule Housekeeping entries = refl

-- without a request nothing is sampled
none_from : (own : LcOwn) (rule : ℕ) (points : List (Point Tally)) → sampled_from [] own rule points ≡ false
none_from own rule [] = refl
none_from own rule (point ∷ points) = none_from own (rule + 1) points

pub none_sampled : (requests : List SampleRequest) (checker : Option LcOwn) → requests ≡ [] → has_sample requests checker ≡ false
none_sampled requests None none = refl
none_sampled requests (Some own) none = (λ i. sampled_from (none i) own 0 own.points) ∙ none_from own 0 own.points

-- a disabled Limit Checker samples nothing
no_result : (requests : List SampleRequest) (own : LcOwn) (rule : ℕ) (taking : Bool) → is_disabled own.mode ≡ true → are_taking requests rule ≡ taking → is_some (result_of requests (Some own) rule) ≡ false
no_result requests own rule false mode taken = rw taken refl
no_result requests own rule true mode taken = rw (taken, mode) refl

pub none_disabled : (requests : List SampleRequest) (own : LcOwn) (rule : ℕ) (points : List (Point Tally)) → is_disabled own.mode ≡ true → sampled_from requests own rule points ≡ false
none_disabled requests own rule [] mode = refl
none_disabled requests own rule (point ∷ points) mode =
    ap (λ one. one || sampled_from requests own (rule + 1) points) (no_result requests own rule (are_taking requests rule) mode refl) ∙ none_disabled requests own (rule + 1) points mode

-- a rule that was sampled is among those from it on
pub found_here : (requests : List SampleRequest) (own : LcOwn) (points : List (Point Tally)) (n rule : ℕ) → n < length points → is_some (result_of requests (Some own) rule) ≡ true →
    sampled_from requests own rule (drop n points) ≡ true
found_here requests own [] n rule less is = absurd (omega (arith, less))
found_here requests own (point ∷ points) zero rule less is = ap (λ one. one || sampled_from requests own (rule + 1) points) is
found_here requests own (point ∷ points) (suc n) rule less is = found_here requests own points n rule (omega (arith, less)) is

-- after one that was not sampled the others are left
pub not_here : (requests : List SampleRequest) (own : LcOwn) (points : List (Point Tally)) (n rule : ℕ) → n < length points → is_some (result_of requests (Some own) rule) ≡ false →
    sampled_from requests own rule (drop n points) ≡ sampled_from requests own (rule + 1) (drop (suc n) points)
not_here requests own [] n rule less is = absurd (omega (arith, less))
not_here requests own (point ∷ points) zero rule less is = ap (λ one. one || sampled_from requests own (rule + 1) points) is
not_here requests own (point ∷ points) (suc n) rule less is = not_here requests own points n rule (omega (arith, less)) is
