use Rattle.std.proofs.Common.{◌≡◌, rules, subst, sym, Some, false}
use Rattle.std.specs.Prelude.{IfOk}
use Rattle.lc_model.specs.Condition.{condition_of}
use Rattle.rule_analysis.specs.Findings.{IsDecided}
use Rattle.rule_analysis.specs.Judgement.{NeverFails}
use Rattle.rule_analysis.proofs.Known.{never_holds_never_fails}
use Rattle.rule_analysis.proofs.deciding.holds_for_some.Goals as goal
use Rattle.rule_analysis.proofs.deciding.holds_for_some.Goals.{in-Holds, in-Never, in-Spent}

pub returns-clause-never : goal.returns-clause-never
returns-clause-never c = elim c.match-branch-2.branch [
  | in-Holds w ↦ (search rules)
  | in-Never w ↦ subst (λ answer. IfOk answer (λ some. some ≡ Some false → NeverFails (condition_of c.args.cond.now))) (sym w.result-is)
      (λ e. never_holds_never_fails (condition_of c.args.cond.now)
      (subst (IsDecided (condition_of c.args.cond.now) c.args.steps.now) w.in-Never.is c.in_ok-decide.ensures))
  | in-Spent w ↦ (search rules)
]
