use Rattle.std.proofs.Common.{◌+◌, ◌*◌}
use Rattle.lc_model.specs.Condition.{condition_of}
use Rattle.lc_model.specs.Tables.Equation.{size}
use Rattle.rpn_compiler.proofs.equation.+words.Given as goal

abbrev pub decreases-push_words : goal.decreases-push_words
decreases-push_words l = 2 * size (condition_of l.cond.now)

abbrev pub decreases-push_operands : goal.decreases-push_operands
decreases-push_operands l = 2 * (size (condition_of l.first.now) + size (condition_of l.second.now)) + 1
