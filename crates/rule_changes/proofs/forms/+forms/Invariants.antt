use Rattle.rule_changes.proofs.forms.+forms.Given as goal

abbrev pub decreases-has : goal.decreases-has
decreases-has l = l.steps.now

abbrev pub decreases-has_all : goal.decreases-has_all
decreases-has_all l = l.steps.now

abbrev pub decreases-are_same_chains : goal.decreases-are_same_chains
decreases-are_same_chains l = l.steps.now

abbrev pub decreases-are_same_pairs : goal.decreases-are_same_pairs
decreases-are_same_pairs l = l.steps.now

abbrev pub decreases-are_same : goal.decreases-are_same
decreases-are_same l = l.steps.now
