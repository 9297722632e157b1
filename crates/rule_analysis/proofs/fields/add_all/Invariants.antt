use Rattle.std.proofs.Common.{take}
use Rattle.std.specs.List.{AllByRecursion}
use Rattle.rule_analysis.specs.Fields.{AreFieldsOf, HasField}
use Rattle.rule_analysis.proofs.fields.add_all.Given as goal

abbrev pub invariant-loop-term : goal.invariant-loop-term
invariant-loop-term l = AllByRecursion (λ t. HasField l.fields.items t) (take l.term-index l.terms)
    × (AreFieldsOf l.terms l.fn.fields.items → AreFieldsOf l.terms l.fields.items)
