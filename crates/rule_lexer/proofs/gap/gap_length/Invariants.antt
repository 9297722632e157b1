use Rattle.std.proofs.Common.{◌-◌, length}
use Rattle.rule_lexer.proofs.Gaps.{GapSoFar}
use Rattle.rule_lexer.proofs.gap.gap_length.Given as goal

abbrev pub invariant-loop-count : goal.invariant-loop-count
invariant-loop-count l = GapSoFar l.rest l.count

abbrev pub decreases-loop-count : goal.decreases-loop-count
decreases-loop-count l = length l.rest - l.count
