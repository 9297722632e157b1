use Rattle.std.proofs.Common.{rules}
use Rattle.rule_analysis.specs.Fields.{HasField}
use Rattle.rule_analysis.proofs.Each.{each, one_more}
use Rattle.rule_analysis.proofs.FieldLists.{add_more}
use Rattle.rule_analysis.proofs.fields.add_all.Goals as goal

pub loop-term-preserved : goal.loop-term-preserved
loop-term-preserved c = (
  one_more (HasField c.add.new.fields.items) c.args.terms.now c.loop-term.term-index _ c.loop-term-test.true (each _ c.in_ok-add.ensures.others c.loop-term.invariant.0) c.in_ok-add.ensures.there,
  add_more c.args.terms.now c.loop-term.fields.items c.add.new.fields.items c.loop-term.term-index _ c.args.fields.now.items c.loop-term-test.true (search rules)
      c.in_ok-add.ensures.exact c.loop-term.invariant.1,
)
