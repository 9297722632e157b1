use Rattle.std.proofs.Common.{subst}
use Rattle.std.specs.Prelude.{IfOk, IsTrue}
use Rattle.lc_model.specs.Condition.{condition_of}
use Rattle.rule_analysis.specs.Judgement.{NeverFails}
use Rattle.rule_analysis.proofs.SpareLaws.{all_matter}
use Rattle.rule_analysis.proofs.spare.does_without.Goals as goal

pub returns-clause-without : goal.returns-clause-without
returns-clause-without c =
    subst (λ both. IfOk c.is_never_true.result (λ spare. IsTrue spare → NeverFails both)) c.in_ok-both.ensures c.is_never_true.ensures.never

pub returns-clause-matters : goal.returns-clause-matters
returns-clause-matters c =
    all_matter c.is_never_true.new.unsettled c.is_never_true.result (condition_of c.args.cond.now) c.args.term.now c.args.value (condition_of c.in_ok-both.both) c.requires c.in_ok-both.ensures
    c.is_never_true.ensures.other
