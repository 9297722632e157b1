use Rattle.std.proofs.Common.{◌≡◌, drop}
use Rattle.rule_analysis.specs.Reach.{is_sampled}
use Rattle.rule_analysis.proofs.reach.is_sampled.Given as goal

abbrev pub invariant-loop-sample : goal.invariant-loop-sample
invariant-loop-sample l = is_sampled l.samples l.rule ≡ is_sampled (drop l.sample-index l.samples) l.rule
