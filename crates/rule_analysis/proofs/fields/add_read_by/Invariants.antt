use Rattle.rule_analysis.specs.Fields.{AreFieldsOf}
use Rattle.rule_analysis.proofs.fields.add_read_by.Given as goal

abbrev pub invariant-loop-i : goal.invariant-loop-i
invariant-loop-i l = AreFieldsOf l.terms l.fn.fields.items → AreFieldsOf l.terms l.fields.items
