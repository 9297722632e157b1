use Rattle.std.proofs.Common.{◌≡◌, length}
use Rattle.rule_analysis.proofs.fields.readers.Given as goal

abbrev pub invariant-loop-term : goal.invariant-loop-term
invariant-loop-term l = length l.counts.items ≡ l.term-index
