use Rattle.std.proofs.Common.{◌≡◌, ◌++◌}
use Rattle.rule_lints.specs.Quiet.{names_below}
use Rattle.rule_lints.specs.Words.{texts_of}
use Rattle.rule_lints.proofs.comments.add_names.Given as goal

abbrev pub invariant-loop-number : goal.invariant-loop-number
invariant-loop-number l = l.found.items ≡ l.initial.found.items ++ names_below l.all l.at l.next (texts_of l.names) l.number
