use Rattle.std.proofs.Common.{length}
use Rattle.run_comparison.proofs.comparing.event_count.Given as goal

abbrev pub decreases-loop-packet : goal.decreases-loop-packet
decreases-loop-packet l = length l.rest
