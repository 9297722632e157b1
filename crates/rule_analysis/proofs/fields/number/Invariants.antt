use Rattle.std.proofs.Common.{◌≡◌, ◌+◌, drop}
use Rattle.rule_analysis.specs.Fields.{field_number}
use Rattle.rule_analysis.proofs.fields.number.Given as goal

abbrev pub invariant-loop-i : goal.invariant-loop-i
invariant-loop-i l = field_number l.fields l.term ≡ field_number (drop l.i l.fields) l.term + l.i
