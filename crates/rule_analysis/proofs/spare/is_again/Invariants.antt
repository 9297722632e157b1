use Rattle.std.proofs.Common.{◌≢◌, ℕ, ◌<◌, slice_get}
use Rattle.rule_analysis.proofs.spare.is_again.Given as goal

abbrev pub invariant-loop-i : goal.invariant-loop-i
invariant-loop-i l = (k : ℕ) → k < l.i → slice_get l.terms k ≢ slice_get l.terms l.at
