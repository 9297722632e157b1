use Rattle.std.proofs.Common.{◌≡◌, ◌+◌, drop}
use Rattle.rule_changes.specs.Known.{known_number}
use Rattle.rule_changes.proofs.known.known_number.Given as goal

abbrev pub invariant-loop-i : goal.invariant-loop-i
invariant-loop-i l = known_number l.terms l.term ≡ known_number (drop l.i l.terms) l.term + l.i
