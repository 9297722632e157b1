use Rattle.rule_analysis.specs.Fields.{AreFieldsOf}
use Rattle.rule_analysis.proofs.fields.fields_of.Given as goal

abbrev pub invariant-loop-less : goal.invariant-loop-less
invariant-loop-less l = AreFieldsOf l.terms l.fields.items
