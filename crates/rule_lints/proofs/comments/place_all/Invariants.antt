use Rattle.std.proofs.Common.{◌≡◌, take}
use Rattle.rule_lints.specs.Quiet.{placed}
use Rattle.rule_lints.proofs.comments.place_all.Given as goal

abbrev pub invariant-loop-warning : goal.invariant-loop-warning
invariant-loop-warning l = l.all.items ≡ placed l.text (take l.warning-index l.found)
