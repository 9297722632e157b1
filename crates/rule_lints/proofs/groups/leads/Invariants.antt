use Rattle.std.proofs.Common.{◌≡◌, drop}
use Rattle.rule_lints.specs.Judged.{leads}
use Rattle.rule_lints.proofs.groups.leads.Given as goal

abbrev pub invariant-loop-other : goal.invariant-loop-other
invariant-loop-other l = leads l.groups l.pair ≡ leads (drop l.other-index l.groups) l.pair
