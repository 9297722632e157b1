use Rattle.rule_parser.proofs.FirstFault.{parses_or_fails}
use Rattle.rule_parser.proofs.laws.tokens_parse_or_fail.Goals as goal

pub returns : goal.returns
returns c = parses_or_fails
