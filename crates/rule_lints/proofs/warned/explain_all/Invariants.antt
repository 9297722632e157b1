use Rattle.std.proofs.Common.{◌≡◌, take, map}
use Rattle.rule_lints.specs.Warned.{named, seen}
use Rattle.rule_lints.proofs.warned.explain_all.Given as goal

abbrev pub invariant-loop-warning : goal.invariant-loop-warning
invariant-loop-warning l = map seen l.messages.items ≡ map named (take l.warning-index l.told)
