use Rattle.std.proofs.Common.{◌+◌, ◌*◌}
use Rattle.rule_parser.specs.Syntax.{expression_of}
use Rattle.field_checker.proofs.Accepted.{size}
use Rattle.field_checker.proofs.meaning.+conditions.Given as goal

abbrev pub decreases-condition : goal.decreases-condition
decreases-condition l = 2 * size (expression_of l.expression.now)

abbrev pub decreases-operands : goal.decreases-operands
decreases-operands l = 2 * (size (expression_of l.first.now) + size (expression_of l.second.now)) + 1
