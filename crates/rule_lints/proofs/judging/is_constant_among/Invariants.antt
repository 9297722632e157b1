use Rattle.std.proofs.Common.{◌≡◌, drop}
use Rattle.std.specs.Prelude.{◌&&◌}
use Rattle.std.specs.List.{list_any}
use Rattle.lc_model.specs.Tables.Equation.{same_term}
use Rattle.rule_analysis.specs.declared.finding.ComparisonJudgement.{ComparisonJudgement}
use Rattle.rule_lints.specs.Judged.{is_constant}
use Rattle.rule_lints.proofs.judging.is_constant_among.Given as goal

abbrev pub invariant-loop-comparison : goal.invariant-loop-comparison
invariant-loop-comparison l =
    list_any (λ (c : ComparisonJudgement). same_term c.term l.term && is_constant c.says) l.judged
    ≡ list_any (λ (c : ComparisonJudgement). same_term c.term l.term && is_constant c.says) (drop l.comparison-index l.judged)
