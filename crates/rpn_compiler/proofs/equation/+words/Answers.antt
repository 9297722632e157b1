use Rattle.std.proofs.Common.{rules, arith}
use Rattle.lc_model.specs.Condition.{condition_of}
use Rattle.rpn_compiler.proofs.Numbered.{enough_left, small_need}
use Rattle.rpn_compiler.proofs.equation.+words.Goals as goal

pub push_operands-push_words-requires-2 : goal.push_operands-push_words-requires-2
push_operands-push_words-requires-2 t c = (
  omega (arith, c.decreases),
  enough_left (condition_of c.args.first.now) (condition_of c.args.second.now) c.args.numbers.now c.in_ok-first.first.left.now c.requires c.in_ok-first.ensures.left,
)

pub push_operands-need_of_both-requires : goal.push_operands-need_of_both-requires
push_operands-need_of_both-requires t c =
    small_need (condition_of c.args.first.now) c.args.numbers.now c.in_ok-first.first.need c.in_ok-first.ensures.need (omega (arith, c.requires)) (search rules)
