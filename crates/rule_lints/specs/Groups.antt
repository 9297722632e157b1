-- The groups of rules that fail alike, and the pairs that they stand for. This project's own.
use Rattle.std.specs.Prelude.{◌<◌, ◌||◌, List, Contains, IsTrue, IsFalse}
use Rattle.std.specs.List.{AllByRecursion}
use Rattle.rule_analysis.specs.declared.finding.PairJudgement.{PairJudgement}
use Rattle.rule_analysis.specs.declared.finding.RuleJudgement.{RuleJudgement}
use Rattle.rule_analysis.specs.Findings.{AreInOrder}
use Rattle.rule_lints.specs.Judged.{grouped, is_alike, is_among, is_covered}

-- the pair is the first rule of a group with another one of it, or both are other rules of one group
abbrev pub IsInGroup : List PairJudgement → PairJudgement → Type 0
IsInGroup groups p = IsTrue (is_among groups p.first p.second || is_covered groups p)

-- each pair of rules that are known to fail alike is in a group
abbrev pub EachIsGrouped : Type 0
EachIsGrouped = (js : List RuleJudgement) (pairs : List PairJudgement) →
    AllByRecursion (λ (p : PairJudgement). IsTrue (is_alike js p) → IsInGroup (grouped js pairs) p) pairs

-- the first rule of a group and each other one of it are such a pair
abbrev pub GroupedAreAlike : Type 0
GroupedAreAlike = (js : List RuleJudgement) (pairs : List PairJudgement) →
    AllByRecursion (λ (p : PairJudgement). Contains pairs p × IsTrue (is_alike js p)) (grouped js pairs)

-- no other group has both, for pairs as they are listed
abbrev pub GroupedOnce : Type 0
GroupedOnce = (js : List RuleJudgement) (pairs : List PairJudgement) → AreInOrder pairs →
    AllByRecursion (λ (p : PairJudgement). p.first < p.second) pairs →
    AllByRecursion (λ (p : PairJudgement). IsFalse (is_covered (grouped js pairs) p)) (grouped js pairs)
