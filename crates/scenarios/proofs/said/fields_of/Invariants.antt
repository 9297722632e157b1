-- Those so far are the same.
use Rattle.std.proofs.Common.{◌≡◌, take}
use Rattle.scenarios.proofs.said.fields_of.Given as goal

abbrev pub invariant-loop-field : goal.invariant-loop-field
invariant-loop-field l = l.own.items ≡ take l.field-index l.fields
