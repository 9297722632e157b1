use Rattle.std.proofs.Common.{rules, length}
use Rattle.lc_model.specs.Condition.{condition_of}
use Rattle.rule_analysis.proofs.Judged.{ready_first, sought}
use Rattle.rule_analysis.proofs.deciding.find.Goals as goal

pub walk-requires-clause-ready : goal.walk-requires-clause-ready
walk-requires-clause-ready c =
    ready_first c.args.fields.now c.args.terms.now (condition_of c.args.cond.now) c.in_ok-left.left (length c.new-bits.result.items) (length c.args.rows.now)
    c.in_ok-left.ensures.same c.requires.terms (search rules) c.requires.each c.in_ok-left.ensures.numbered c.requires.all

pub returns : goal.returns
returns c =
    sought c.args.fields.now c.args.terms.now (condition_of c.args.cond.now) c.in_ok-left.left c.new-bits.result.items c.walk.new.chosen.items c.args.steps.now
    c.walk.new.steps (length c.args.rows.now) c.in_ok-outcome.outcome c.in_ok-left.ensures.same c.requires.terms c.new-bits.ensures.items c.requires.each c.requires.all
    c.in_ok-outcome.ensures.few c.in_ok-outcome.ensures.spent c.in_ok-outcome.ensures.taken c.in_ok-outcome.ensures.walked
