use Rattle.std.proofs.Common.{subst}
use Rattle.lc_model.specs.Condition.{condition_of}
use Rattle.rule_analysis.specs.Findings.{IsDecided}
use Rattle.rule_analysis.proofs.Known.{never_holds_never_fails}
use Rattle.rule_analysis.proofs.OverlapLaws.{overlaps}
use Rattle.rule_analysis.proofs.StepLaws.{few_by_distinct}
use Rattle.rule_analysis.proofs.judging.can_be_true.Goals as goal

pub returns-in-Spent : goal.returns-in-Spent
returns-in-Spent c =
    few_by_distinct (condition_of c.args.cond.now) c.args.steps
    (subst (IsDecided (condition_of c.args.cond.now) c.args.steps) c.in-Spent.is c.in_ok-decide.ensures)

pub returns : goal.returns
returns c =
    overlaps (condition_of c.args.cond.now) c.in-Holds.fields.items c.deref.result.now c.in-Holds.bits.items c.deref-in-Holds.result.now
    c.in_ok-packets-in-Holds.packets.items c.deref-in-Holds-2.result.now c.shows.result
    (subst (IsDecided (condition_of c.args.cond.now) c.args.steps) c.in-Holds.is c.in_ok-decide.ensures)
    c.deref.ensures.value c.deref-in-Holds.ensures.value c.deref-in-Holds-2.ensures.value c.in_ok-packets-in-Holds.ensures c.shows.ensures.all c.if-shows.false

pub returns-in-Never : goal.returns-in-Never
returns-in-Never c =
    never_holds_never_fails (condition_of c.args.cond.now) (subst (IsDecided (condition_of c.args.cond.now) c.args.steps) c.in-Never.is c.in_ok-decide.ensures)
