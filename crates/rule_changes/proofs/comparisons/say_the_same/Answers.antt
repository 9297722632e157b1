use Rattle.std.proofs.Common.{sym, ◌∙◌}
use Rattle.rule_changes.proofs.Comparing.{same_terms}
use Rattle.rule_changes.proofs.comparisons.say_the_same.Goals as goal

pub returns : goal.returns
returns c = λ same.
    same_terms c.args.first.now c.args.second.now c.args.first_negated c.args.second_negated c.form-one.result c.form-other.result
    (sym c.are_known_alike.ensures ∙ c.if-not-are_known_alike.false) c.form-one.ensures c.form-other.ensures (sym c.are_equal.ensures ∙ same)
