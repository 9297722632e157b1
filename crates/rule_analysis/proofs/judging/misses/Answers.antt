use Rattle.std.proofs.Common.{subst}
use Rattle.std.specs.Prelude.{IfOk, IsFalse, IsTrue}
use Rattle.rule_analysis.specs.Judgement.{HoldsForSome, NeverFails}
use Rattle.rule_analysis.proofs.judging.misses.Goals as goal

pub returns-clause-some : goal.returns-clause-some
returns-clause-some c =
    subst (λ other. IfOk c.is_possible.result (λ some. IsTrue some → HoldsForSome other)) c.in_ok-other.ensures c.is_possible.ensures.some

pub returns-clause-never : goal.returns-clause-never
returns-clause-never c =
    subst (λ other. IfOk c.is_possible.result (λ some. IsFalse some → NeverFails other)) c.in_ok-other.ensures c.is_possible.ensures.never
