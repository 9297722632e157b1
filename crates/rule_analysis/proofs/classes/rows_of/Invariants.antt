use Rattle.std.proofs.Common.{◌≡◌, length}
use Rattle.rule_analysis.specs.Fields.{field_number}
use Rattle.rule_analysis.specs.Search.{AreRepresented}
use Rattle.rule_analysis.specs.Steps.{AreNotMany}
use Rattle.rule_analysis.proofs.classes.rows_of.Given as goal

abbrev pub invariant-loop-field : goal.invariant-loop-field
invariant-loop-field l = record {
  represent : AreRepresented (field_number l.fields) l.terms l.rows.items;
  few : AreNotMany (field_number l.fields) l.terms l.rows.items;
  each : length l.rows.items ≡ l.field;
}
