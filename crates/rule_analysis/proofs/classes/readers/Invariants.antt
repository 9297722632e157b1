use Rattle.std.proofs.Common.{◌≡◌, take}
use Rattle.std.specs.Prelude.{filter, ◌==◌}
use Rattle.rule_analysis.specs.Fields.{field_number}
use Rattle.rule_analysis.proofs.classes.readers.Given as goal

abbrev pub invariant-loop-term : goal.invariant-loop-term
invariant-loop-term l = l.own.items ≡ filter (λ t. field_number l.fields t == l.field) (take l.term-index l.terms)
