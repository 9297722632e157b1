use Rattle.std.proofs.lemmas.Result.{err_from_is_err_and}
use Rattle.rule_lexer.specs.Token.{tokens_of}
use Rattle.rule_parser.specs.Syntax.{items_of}
use Rattle.rule_parser.proofs.Parsed.{parsed, refused}
use Rattle.rule_parser.proofs.parser.read.Goals as goal

pub returns-in_err-items-clause-refused : goal.returns-in_err-items-clause-refused
returns-in_err-items-clause-refused c =
    let p = err_from_is_err_and c.from_residual.result c.from_residual.ensures.1 in
    rw (p.1, p.2) (refused c.args.end (tokens_of c.args.tokens.now) c.in_err-items.field-0.0 c.in_err-items.ensures)

pub returns-clause-derives : goal.returns-clause-derives
returns-clause-derives c =
    parsed c.args.end (tokens_of c.args.tokens.now) (items_of c.in_ok-items.field-0.items) c.in_ok-items.ensures
