use Rattle.std.proofs.Common.{sym, ◌∙◌}
use Rattle.lc_model.specs.Condition.{condition_of}
use Rattle.rule_changes.proofs.Trees.{equal_is_same}
use Rattle.rule_changes.proofs.forms.same_by_form.Goals as goal

pub returns-then-are_equal-clause-same : goal.returns-then-are_equal-clause-same
returns-then-are_equal-clause-same c = λ is.
    equal_is_same (condition_of c.args.first.now) (condition_of c.args.second.now) (sym c.are_equal.ensures ∙ c.if-are_equal.true)
