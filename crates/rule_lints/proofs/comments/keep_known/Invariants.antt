use Rattle.std.proofs.Common.{◌≡◌, take}
use Rattle.rule_lints.specs.Quiet.{known}
use Rattle.rule_lints.proofs.comments.keep_known.Given as goal

abbrev pub invariant-loop-warning : goal.invariant-loop-warning
invariant-loop-warning l = l.told.items ≡ known l.has_plan l.text (take l.warning-index l.spare)
