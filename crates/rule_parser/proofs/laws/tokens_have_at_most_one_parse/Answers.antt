use Rattle.rule_parser.proofs.Parsed.{one_parse}
use Rattle.rule_parser.proofs.laws.tokens_have_at_most_one_parse.Goals as goal

pub returns : goal.returns
returns c = one_parse
