use Rattle.std.proofs.Common.{◌≡◌}
use Rattle.std.specs.Prelude.{filter, not}
use Rattle.lc_model.specs.Tables.Image.{numbers_below}
use Rattle.rule_analysis.specs.Reach.{is_sampled}
use Rattle.rule_analysis.proofs.reach.never_sampled.Given as goal

abbrev pub invariant-loop-rule : goal.invariant-loop-rule
invariant-loop-rule l = l.numbers.items ≡ filter (λ rule. not (is_sampled l.samples rule)) (numbers_below l.rule)
