use Rattle.rule_analysis.proofs.numbers.+next_bits.Given as goal

abbrev pub decreases-next_bits : goal.decreases-next_bits
decreases-next_bits l = l.mask
