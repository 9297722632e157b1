use Rattle.std.proofs.Common.{◌≡◌, ◌++◌, drop, map}
use Rattle.run_comparison.specs.Asked.{sequence_of}
use Rattle.run_comparison.specs.Meaning.{all_held}
use Rattle.run_comparison.proofs.asked.sequences_in.Given as goal

abbrev pub invariant-loop-request : goal.invariant-loop-request
invariant-loop-request l = l.sequences.items ++ map sequence_of (all_held (drop l.request-index l.requests)) ≡ map sequence_of (all_held l.requests)
