use Rattle.std.proofs.Common.{◌≡◌, drop}
use Rattle.rule_lints.specs.Items.{overlapped_by}
use Rattle.rule_lints.proofs.fields.overlapped_by.Given as goal

abbrev pub invariant-loop-other : goal.invariant-loop-other
invariant-loop-other l = overlapped_by l.fields l.field ≡ overlapped_by (drop l.other-index l.fields) l.field
