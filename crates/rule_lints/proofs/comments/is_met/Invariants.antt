use Rattle.std.proofs.Common.{◌≡◌, drop}
use Rattle.rule_lints.specs.Quiet.{is_met}
use Rattle.rule_lints.proofs.comments.is_met.Given as goal

abbrev pub invariant-loop-placed : goal.invariant-loop-placed
invariant-loop-placed l = is_met l.all l.line l.name ≡ is_met (drop l.placed-index l.all) l.line l.name
