use Rattle.analysis_rows.proofs.making.+condition.Given as goal

abbrev pub decreases-condition : goal.decreases-condition
decreases-condition l = l.depth
