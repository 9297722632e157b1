-- What a rule that never fails asks for: nothing. This project's own.
use Rattle.std.specs.Prelude.{◌≡◌, ◌≢◌, ℕ, ◌≤◌, IsFalse, List, [], ◌∷◌, map}
use Rattle.std.specs.Option.{option_map_or}
use Rattle.std.specs.List.{AllByRecursion}
use Rattle.lc_model.specs.declared.field.Term.{Term}
use Rattle.lc_model.specs.declared.mode.LcMode.{LcMode}
use Rattle.lc_model.specs.declared.mode.ApResult.TheVariants.{Fail}
use Rattle.lc_model.specs.Rule.{Actionpoint}
use Rattle.lc_model.specs.Tables.Interpretation.{Interpretation}
use Rattle.lc_model.specs.Events.Request.{Request, Sequence}
use Rattle.lc_model.specs.LimitChecker.Watch.{History}
use Rattle.lc_model.specs.LimitChecker.Past.{Past, Sample, is_result}
use Rattle.lc_model.specs.LimitChecker.Steps.{Point, by_lists, in_force, lc_start, lc_packet, sampled_point}
use Rattle.lc_model.specs.Name.{Name}
use Rattle.lc_model.specs.Tables.Interpretation.{FileMeaning}
use Rattle.lc_model.specs.Host.World.{Lc}
use Rattle.rule_analysis.specs.Judgement.{NeverFails}

-- no sample of it failed
abbrev pub HasNoFailure : Past → Type 0
HasNoFailure past = AllByRecursion (λ (sample : Sample). IsFalse (is_result Fail sample.result)) past

-- a rule that never fails, and counts at least one failure
pub record IsQuiet (rule : Actionpoint) : Type 0 where
  pub never : NeverFails rule.condition
  pub counts : 1 ≤ rule.fails

-- sampled once more in any mode, it asks for nothing, neither a sequence nor an event, and keeps its state; and still no sample
-- of it failed
pub record StaysQuiet (terms : List Term) (mode : LcMode) (history : History) (number : ℕ) (rule : Actionpoint) (point : Point Past) : Type 0 where
  pub asks : (sampled_point by_lists terms mode history number rule point).1 ≡ []
  pub state : (sampled_point by_lists terms mode history number rule point).0.state ≡ point.state
  pub past : HasNoFailure (sampled_point by_lists terms mode history number rule point).0.past

-- the same holds for each such rule
abbrev pub QuietRulesStayQuiet : Type 0
QuietRulesStayQuiet = (terms : List Term) (mode : LcMode) (history : History) (number : ℕ) (rule : Actionpoint) (point : Point Past) →
    IsQuiet rule → HasNoFailure point.past → StaysQuiet terms mode history number rule point

-- ---- a whole Limit Checker

-- of each rule that is quiet no sample failed
abbrev pub HaveNoFailures : List Actionpoint → List Past → Type 0
HaveNoFailures (rule ∷ rules) (past ∷ pasts) = (IsQuiet rule → HasNoFailure past) × HaveNoFailures rules pasts
HaveNoFailures rules pasts = Unit {0}

-- the pasts of some points
abbrev pub pasts_of : List (Point Past) → List Past
pasts_of points = map (λ (point : Point Past). point.past) points

-- of the tables in force
abbrev pub IsQuietSoFar : {Image : Type 0} → Interpretation Image → Lc Image → Type 0
IsQuietSoFar images lc = HaveNoFailures (option_map_or images.rules (in_force images lc) []) (pasts_of lc.points)

-- it holds at the start
abbrev pub StartsQuiet : {Image : Type 0} → Interpretation Image → Type 0
StartsQuiet {Image} images = (files : List (Name × FileMeaning Image)) → IsQuietSoFar images (lc_start by_lists images files).0

-- a sequence that only quiet rules request
abbrev pub IsOfQuietRules : ℕ → List Actionpoint → Type 0
IsOfQuietRules sequence rules = AllByRecursion (λ (rule : Actionpoint). rule.sequence ≡ sequence → IsQuiet rule) rules

-- it is not among these requests
abbrev pub AreWithout : ℕ → List Request → Type 0
AreWithout sequence requests = AllByRecursion (λ request. request ≢ Sequence sequence) requests

-- whatever the packet, it stays so, and nobody requests a sequence that is only quiet rules'
abbrev pub NobodyRequests : {Image : Type 0} → Interpretation Image → Type 0
NobodyRequests {Image} images = (sequence : ℕ) (packet : List ℕ) (lc : Lc Image) → IsQuietSoFar images lc →
    IsOfQuietRules sequence (option_map_or images.rules (in_force images lc) []) →
    IsQuietSoFar images (lc_packet by_lists images packet lc).0 × AreWithout sequence (lc_packet by_lists images packet lc).1
