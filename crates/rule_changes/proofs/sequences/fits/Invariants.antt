use Rattle.std.proofs.Common.{ℕ, ◌<◌, slice_get}
use Rattle.lc_model.specs.Rule.{rules_of}
use Rattle.rule_changes.specs.Sequences.{IsFitAt, is_sequence}
use Rattle.rule_changes.proofs.sequences.fits.Given as goal

abbrev pub invariant-loop-number : goal.invariant-loop-number
invariant-loop-number l = (j : ℕ) → j < l.number → IsFitAt l.claim (is_sequence l.sequence) (slice_get (rules_of l.old) j) (slice_get (rules_of l.new) j)
