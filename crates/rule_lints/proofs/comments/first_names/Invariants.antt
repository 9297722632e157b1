use Rattle.std.proofs.Common.{◌≡◌, ◌++◌, length}
use Rattle.rule_lints.specs.Quiet.{names_in}
use Rattle.rule_lints.specs.Words.{texts_of}
use Rattle.rule_lints.proofs.comments.first_names.Given as goal

abbrev pub invariant-loop-number : goal.invariant-loop-number
invariant-loop-number l = (texts_of l.names.items ++ names_in l.left ≡ names_in l.bytes) × (length l.names.items ≡ l._number)
