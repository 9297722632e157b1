use Rattle.std.proofs.Common.{refl}
use Rattle.lc_model.specs.Condition.{condition_of}
use Rattle.rule_changes.proofs.FormLaws.{same_xor, same_xor_turned}
use Rattle.rule_changes.proofs.forms.+forms.Goals as goal

pub are_same_pairs-returns-then-are_same-2-clause-same : goal.are_same_pairs-returns-then-are_same-2-clause-same
are_same_pairs-returns-then-are_same-2-clause-same t c = λ is.
    same_xor c.args.is_negated c.args.other_negated (condition_of c.args.left.now) (condition_of c.args.right.now) (condition_of c.args.other_left.now)
    (condition_of c.args.other_right.now) (c.if-are_same.ensures.same refl) (c.if-are_same-2.ensures.same refl)

pub are_same_pairs-returns-then-are_same-3-clause-same : goal.are_same_pairs-returns-then-are_same-3-clause-same
are_same_pairs-returns-then-are_same-3-clause-same t c = λ is.
    same_xor_turned c.args.is_negated c.args.other_negated (condition_of c.args.left.now) (condition_of c.args.right.now) (condition_of c.args.other_left.now)
    (condition_of c.args.other_right.now) (c.if-are_same-3.ensures.same refl) (c.are_same-then-are_same-3.ensures.same is)
