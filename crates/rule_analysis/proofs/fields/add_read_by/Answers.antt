use Rattle.std.proofs.Common.{rules}
use Rattle.rule_analysis.proofs.FieldLists.{add_more}
use Rattle.rule_analysis.proofs.fields.add_read_by.Goals as goal

pub loop-i-preserved : goal.loop-i-preserved
loop-i-preserved c =
    add_more c.args.terms.now c.loop-i.fields.items c.add_where.new.fields.items c.loop-i.i _ c.args.fields.now.items c.loop-i-test.true (search rules)
    c.in_ok-add_where.ensures c.loop-i.invariant
