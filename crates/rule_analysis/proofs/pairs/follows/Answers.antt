use Rattle.std.proofs.Common.{◌∙◌}
use Rattle.lc_model.specs.Condition.{condition_of}
use Rattle.rule_analysis.proofs.Known.{never_but_is_wherever}
use Rattle.rule_analysis.proofs.PairLaws.{differ_by, differ_by_few, never_by}
use Rattle.rule_analysis.proofs.pairs.follows.Goals as goal

pub returns-in-Some-clause-follows : goal.returns-in-Some-clause-follows
returns-in-Some-clause-follows c = λ is.
    never_but_is_wherever (condition_of c.args.first.now) (condition_of c.args.second.now)
    (c.in_ok-apart.ensures.never (c.in-Some.is ∙ never_by c.in-Some.apart is))

pub returns-in-Some-clause-differ : goal.returns-in-Some-clause-differ
returns-in-Some-clause-differ c = λ is.
    differ_by c.args.unsettled.now (condition_of c.args.first.now) (condition_of c.args.second.now) c.in-Some.apart (λ e. c.in_ok-apart.ensures.some (c.in-Some.is ∙ e)) is

pub returns-in-None-clause-differ : goal.returns-in-None-clause-differ
returns-in-None-clause-differ c = λ is.
    differ_by_few c.count_one.new.count (condition_of c.args.first.now) (condition_of c.args.second.now) c.count_one.ensures.counts (c.in_ok-apart.ensures.none c.in-None.is)
