use Rattle.lc_model.specs.Condition.{Condition, condition_of}
use Rattle.rule_changes.specs.Known.{IsTied}
use Rattle.rule_changes.proofs.ties.with_ties.Given as goal

abbrev pub invariant-loop-term : goal.invariant-loop-term
invariant-loop-term l = (q : Condition) → IsTied l.terms q (condition_of l.fn.question) → IsTied l.terms q (condition_of l.tied)
