use Rattle.std.proofs.Common.{ℕ, ◌+◌, ◌*◌}
use Rattle.rule_parser.specs.declared.operator.Operator.{Operator}
use Rattle.rule_parser.specs.declared.operator.Operator.TheVariants.{Or, Xor, And}
use Rattle.rule_parser.specs.Condition.{Took, operands_of, part_of}
use Rattle.rule_parser.specs.Syntax.{expression_of}
use Rattle.rule_parser.proofs.condition.+condition.Given as goal

-- how far the operator is from the operands
abbrev rank : Operator → ℕ
rank And = 2
rank Xor = 4
rank Or = 6

abbrev pub decreases-read_negation : goal.decreases-read_negation
decreases-read_negation l = 8 * l.room.now

abbrev pub decreases-read_parentheses : goal.decreases-read_parentheses
decreases-read_parentheses l = 8 * l.room.now

abbrev pub decreases-operand : goal.decreases-operand
decreases-operand l = 8 * l.room.now + 1

abbrev pub decreases-part : goal.decreases-part
decreases-part l = 8 * l.room.now + rank l.operator

abbrev pub decreases-read_operands : goal.decreases-read_operands
decreases-read_operands l = 8 * l.room.now + rank l.operator + 1

abbrev pub invariant-read_operands-loop-operator : goal.invariant-read_operands-loop-operator
invariant-read_operands-loop-operator l = Took (part_of l.operator) (operands_of l.operator) l.fn.tokens l.tokens l.fn.room l.room (expression_of l.left)

abbrev pub decreases-read_operands-loop-operator : goal.decreases-read_operands-loop-operator
decreases-read_operands-loop-operator l = l.room
