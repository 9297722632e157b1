use Rattle.lc_model.proofs.LimitChecker.EffortLaws.{samples_are_bounded, searches_are_bounded, probes_are_comparisons, probes_are_few}
use Rattle.lc_model.proofs.laws.effort.effort_is_bounded.Goals as goal

pub returns-clause-words : goal.returns-clause-words
returns-clause-words c = samples_are_bounded

pub returns-clause-searches : goal.returns-clause-searches
returns-clause-searches c = searches_are_bounded

pub returns-clause-probes : goal.returns-clause-probes
returns-clause-probes c = probes_are_few

pub returns-clause-comparisons : goal.returns-clause-comparisons
returns-clause-comparisons c = probes_are_comparisons
