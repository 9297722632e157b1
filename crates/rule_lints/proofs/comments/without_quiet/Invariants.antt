use Rattle.std.proofs.Common.{◌≡◌, take}
use Rattle.rule_lints.specs.Quiet.{kept}
use Rattle.rule_lints.proofs.comments.without_quiet.Given as goal

abbrev pub invariant-loop-warning : goal.invariant-loop-warning
invariant-loop-warning l = l.told.items ≡ kept l.text (take l.warning-index l.found)
