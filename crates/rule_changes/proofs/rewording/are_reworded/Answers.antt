use Rattle.std.proofs.Common.{rules, arith, sym, ◌∙◌}
use Rattle.rule_changes.proofs.Reworded.{one_rule_more, all_rules, one_rule_at}
use Rattle.rule_changes.proofs.rewording.are_reworded.Goals as goal

pub loop-i-preserved : goal.loop-i-preserved
loop-i-preserved c =
    one_rule_more c.args.old.now c.args.new.now c.loop-i.i c.index-old-i.result c.index-new-i.result c.loop-i-test.true (omega arith) c.loop-i.invariant
    (search rules) c.index-old-i.is c.index-new-i.is

pub returns-clause-reworded : goal.returns-clause-reworded
returns-clause-reworded c = λ is. all_rules c.args.old.now c.args.new.now c.loop-i.i c.loop-i-test.false (omega arith) c.loop-i.invariant

pub returns-then-not-is_reworded-clause-itself : goal.returns-then-not-is_reworded-clause-itself
returns-then-not-is_reworded-clause-itself c = λ same.
    sym c.if-not-is_reworded.true
    ∙ c.is_reworded.ensures.itself
    (one_rule_at c.args.old.now c.args.new.now c.loop-i.i c.index-old-i.result c.index-new-i.result same c.loop-i-test.true
    (omega (arith, c.if-old-new.false, c.loop-i-test.true)) c.index-old-i.is c.index-new-i.is)
