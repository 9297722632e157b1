use Rattle.std.proofs.lemmas.Result.{err_from_is_err_and}
use Rattle.rule_lexer.specs.Token.{token_of}
use Rattle.rule_parser.specs.File.{head_of}
use Rattle.rule_parser.specs.Syntax.{expression_of}
use Rattle.rule_parser.proofs.Files.{rule_took, head_stops, condition_stops, end_stops}
use Rattle.rule_parser.proofs.file.rule_item.Goals as goal

pub returns-in_err-head : goal.returns-in_err-head
returns-in_err-head c =
    let p = err_from_is_err_and c.from_residual.result c.from_residual.ensures.1 in
    rw (p.1, p.2) (head_stops c.args.tokens.now c.in_err-head.field-0.0 c.in_err-head.ensures)

pub returns-in_err-condition : goal.returns-in_err-condition
returns-in_err-condition c =
    let p = err_from_is_err_and c.from_residual-in_err-condition.result c.from_residual-in_err-condition.ensures.1 in
    rw (p.1, p.2)
    (condition_stops c.args.tokens.now c.rule_head.new.tokens (head_of c.in_ok-head.head) c.in_err-condition.field-0.0 c.in_ok-head.ensures c.in_err-condition.ensures)

pub returns-in_err-sign : goal.returns-in_err-sign
returns-in_err-sign c =
    let p = err_from_is_err_and c.from_residual-in_err-sign.result c.from_residual-in_err-sign.ensures.1 in
    rw (p.1, p.2)
    (end_stops c.args.tokens.now c.rule_head.new.tokens c.condition.new.tokens (head_of c.in_ok-head.head) (expression_of c.in_ok-condition.condition)
    c.in_err-sign.field-0.0 c.in_ok-head.ensures c.in_ok-condition.ensures c.in_err-sign.ensures)

pub returns : goal.returns
returns c = λ t fit.
    rule_took t fit c.args.tokens.now c.rule_head.new.tokens c.condition.new.tokens (head_of c.in_ok-head.head) (expression_of c.in_ok-condition.condition)
    (token_of c.in_ok-sign.field-0, c.sign.new.self) c.in_ok-head.ensures c.in_ok-condition.ensures c.in_ok-sign.ensures
