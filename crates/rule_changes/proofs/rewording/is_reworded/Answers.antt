use Rattle.std.proofs.Common.{ap}
use Rattle.lc_model.specs.Condition.{condition_of}
use Rattle.lc_model.specs.Rule.{NamedRule}
use Rattle.rule_changes.proofs.Trees.{equal_if_one}
use Rattle.rule_changes.proofs.rewording.is_reworded.Goals as goal

pub returns-then-have_same_parts-clause-itself : goal.returns-then-have_same_parts-clause-itself
returns-then-have_same_parts-clause-itself c = λ same.
    c.same_by_form.ensures.itself
    (equal_if_one (condition_of c.args.old.now.cond) (condition_of c.args.new.now.cond) (ap (λ (rule : NamedRule). rule.action.condition) same))
