use Rattle.std.proofs.Common.{sym, ◌∙◌, subst, true}
use Rattle.std.proofs.lemmas.Result.{err_from_is_err_and}
use Rattle.lc_model.specs.Text.Syntax as syntax
use Rattle.lc_model.specs.Text.Syntax.{Expression}
use Rattle.lc_model.specs.Text.Class.{word, sign}
use Rattle.lc_model.specs.Text.Grammar as grammar
use Rattle.rule_lexer.specs.Token.{token_of}
use Rattle.rule_parser.specs.Condition.{Took, kind_of_operator, operands_of, part_of}
use Rattle.rule_parser.specs.Front.{class_of}
use Rattle.rule_parser.specs.Syntax.{comparison_of, expression_of}
use Rattle.rule_parser.proofs.Conditions.{begin_parts, join_parts, join_too_deep, join_stops, negate, negate_stops, not_too_deep, open_too_deep, open_stops, parenthesize, close_stops, compare, compare_stops, of_kind}
use Rattle.rule_parser.proofs.condition.+condition.Goals as goal

pub read_operands-loop-operator-init : goal.read_operands-loop-operator-init
read_operands-loop-operator-init t c =
    begin_parts c.args.operator c.args.tokens.now c.part.new.tokens c.args.room.now c.part.new.room (expression_of c.in_ok-left.left) c.in_ok-left.ensures

pub read_operands-returns-in_err-nest : goal.read_operands-returns-in_err-nest
read_operands-returns-in_err-nest t c =
    let p = err_from_is_err_and c.from_residual-in_err-nest.result c.from_residual-in_err-nest.ensures.1 in
    rw (p.1, p.2)
    (join_too_deep c.args.operator c.args.tokens.now c.loop-operator.tokens c.args.room.now c.loop-operator.room
    (expression_of c.loop-operator.left) c.in_err-nest.field-0.0 c.loop-operator.invariant
    (c.in_err-nest.ensures (class_of (kind_of_operator c.args.operator))
    (of_kind c.kind.result (kind_of_operator c.args.operator) c.loop-operator.tokens.tokens _ true c.kind.ensures c.begins.ensures c.loop-operator-test.true)))

pub read_operands-returns-in_err-right : goal.read_operands-returns-in_err-right
read_operands-returns-in_err-right t c =
    let p = err_from_is_err_and c.from_residual-in_err-right.result c.from_residual-in_err-right.ensures.1 in
    rw (p.1, p.2)
    (join_stops c.args.operator c.args.tokens.now c.loop-operator.tokens c.nest.new.self c.args.room.now c.loop-operator.room c.nest.new.room
    (expression_of c.loop-operator.left) c.in_err-right.field-0.0 c.loop-operator.invariant
    (c.in_ok-nest.ensures (class_of (kind_of_operator c.args.operator))
    (of_kind c.kind.result (kind_of_operator c.args.operator) c.loop-operator.tokens.tokens _ true c.kind.ensures c.begins.ensures c.loop-operator-test.true))
    c.in_err-right.ensures)

pub read_operands-loop-operator-preserved : goal.read_operands-loop-operator-preserved
read_operands-loop-operator-preserved t c =
    subst
    (Took (part_of c.args.operator) (operands_of c.args.operator) c.args.tokens.now c.part-in-loop-operator.new.tokens c.args.room.now c.part-in-loop-operator.new.room)
    (sym c.in_ok-left-2.ensures)
    (join_parts c.args.operator c.args.tokens.now c.loop-operator.tokens c.nest.new.self c.part-in-loop-operator.new.tokens c.args.room.now c.loop-operator.room
    c.nest.new.room c.part-in-loop-operator.new.room (expression_of c.loop-operator.left) (expression_of c.in_ok-right.right) c.loop-operator.invariant
    (c.in_ok-nest.ensures (class_of (kind_of_operator c.args.operator))
    (of_kind c.kind.result (kind_of_operator c.args.operator) c.loop-operator.tokens.tokens _ true c.kind.ensures c.begins.ensures c.loop-operator-test.true))
    c.in_ok-right.ensures)

pub read_negation-returns-in_err-nest : goal.read_negation-returns-in_err-nest
read_negation-returns-in_err-nest t c =
    let p = err_from_is_err_and c.from_residual.result c.from_residual.ensures.1 in
    rw (p.1, p.2) (not_too_deep c.args.tokens.now c.args.room.now c.in_err-nest.field-0.0 (c.in_err-nest.ensures (word "not") c.requires))

pub read_negation-returns-in_err-negated : goal.read_negation-returns-in_err-negated
read_negation-returns-in_err-negated t c =
    let p = err_from_is_err_and c.from_residual-in_err-negated.result c.from_residual-in_err-negated.ensures.1 in
    rw (p.1, p.2)
    (negate_stops c.args.tokens.now c.nest.new.self c.args.room.now c.nest.new.room c.in_err-negated.field-0.0
    (c.in_ok-nest.ensures (word "not") c.requires) c.in_err-negated.ensures)

pub read_negation-returns : goal.read_negation-returns
read_negation-returns t c =
    subst (λ e. Took grammar.nots grammar.nots c.args.tokens.now c.operand.new.tokens c.args.room.now c.operand.new.room (syntax.Not (expression_of e)))
    (sym c.in_ok-new.ensures.ok)
    (negate c.args.tokens.now c.nest.new.self c.operand.new.tokens c.args.room.now c.nest.new.room c.operand.new.room (expression_of c.in_ok-negated.negated)
    (c.in_ok-nest.ensures (word "not") c.requires) c.in_ok-negated.ensures)

pub read_parentheses-returns-in_err-nest : goal.read_parentheses-returns-in_err-nest
read_parentheses-returns-in_err-nest t c =
    let p = err_from_is_err_and c.from_residual.result c.from_residual.ensures.1 in
    rw (p.1, p.2) (open_too_deep c.args.tokens.now c.args.room.now c.in_err-nest.field-0.0 (c.in_err-nest.ensures (sign "(") c.requires))

pub read_parentheses-returns-in_err-inner : goal.read_parentheses-returns-in_err-inner
read_parentheses-returns-in_err-inner t c =
    let p = err_from_is_err_and c.from_residual-in_err-inner.result c.from_residual-in_err-inner.ensures.1 in
    rw (p.1, p.2)
    (open_stops c.args.tokens.now c.nest.new.self c.args.room.now c.nest.new.room c.in_err-inner.field-0.0
    (c.in_ok-nest.ensures (sign "(") c.requires) c.in_err-inner.ensures)

pub read_parentheses-returns-in_err-sign : goal.read_parentheses-returns-in_err-sign
read_parentheses-returns-in_err-sign t c =
    let p = err_from_is_err_and c.from_residual-in_err-sign.result c.from_residual-in_err-sign.ensures.1 in
    rw (p.1, p.2)
    (close_stops c.args.tokens.now c.nest.new.self c.read_operands.new.tokens c.args.room.now c.nest.new.room c.read_operands.new.room
    (expression_of c.in_ok-inner.inner) c.in_err-sign.field-0.0
    (c.in_ok-nest.ensures (sign "(") c.requires) c.in_ok-inner.ensures c.in_err-sign.ensures)

pub read_parentheses-returns : goal.read_parentheses-returns
read_parentheses-returns t c =
    parenthesize c.args.tokens.now c.nest.new.self c.read_operands.new.tokens c.args.room.now c.nest.new.room c.read_operands.new.room
    (expression_of c.in_ok-inner.inner)
    (c.in_ok-nest.ensures (sign "(") c.requires)
    c.in_ok-inner.ensures (token_of c.in_ok-sign.field-0, c.sign.new.self) c.in_ok-sign.ensures

pub operand-returns-in_err-comparison : goal.operand-returns-in_err-comparison
operand-returns-in_err-comparison t c =
    let p = err_from_is_err_and c.from_residual.result c.from_residual.ensures.1 in
    rw (p.1, p.2)
    (compare_stops c.args.tokens.now c.args.room.now c.in_err-comparison.field-0.0
    (sym c.begins.ensures ∙ c.if-begins.false) (sym c.begins-2.ensures ∙ c.if-begins-2.false) c.in_err-comparison.ensures)

pub operand-returns : goal.operand-returns
operand-returns t c =
    compare c.args.tokens.now c.comparison.new.tokens c.args.room.now (comparison_of c.in_ok-comparison.field-0)
    (sym c.begins.ensures ∙ c.if-begins.false) (sym c.begins-2.ensures ∙ c.if-begins-2.false) c.in_ok-comparison.ensures
