use Rattle.std.proofs.Common.{◌≡◌, drop}
use Rattle.std.specs.List.{list_any}
use Rattle.rule_analysis.specs.Fields.{is_field_of}
use Rattle.rule_analysis.proofs.fields.is_read.Given as goal

abbrev pub invariant-loop-term : goal.invariant-loop-term
invariant-loop-term l = list_any (λ t. is_field_of t l.field) l.terms ≡ list_any (λ t. is_field_of t l.field) (drop l.term-index l.terms)
