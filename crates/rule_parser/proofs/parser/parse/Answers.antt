use Rattle.std.proofs.Common.{length}
use Rattle.rule_lexer.specs.Token.{tokens_of}
use Rattle.rule_parser.specs.Syntax.{items_of}
use Rattle.rule_parser.proofs.Parsed.{accepts, refuses}
use Rattle.rule_parser.proofs.parser.parse.Goals as goal

pub returns-clause-accepts : goal.returns-clause-accepts
returns-clause-accepts c =
    let end = length c.args.text.now in
    let tokens = tokens_of c.args.tokens.now in
    accepts (λ file. items_of file.items.items) end tokens c.read.result c.read.ensures.derives
    c.read.ensures.refused

pub returns-clause-refuses : goal.returns-clause-refuses
returns-clause-refuses c =
    let end = length c.args.text.now in
    let tokens = tokens_of c.args.tokens.now in
    refuses (λ file. items_of file.items.items) end tokens c.read.result c.read.ensures.derives
    c.read.ensures.refused
