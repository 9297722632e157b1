use Rattle.std.proofs.Common.{arith}
use Rattle.rule_lexer.proofs.WordBytes.{in_table}
use Rattle.rule_lexer.proofs.bytes.is_word_byte.Goals as goal

pub returns : goal.returns
returns c = in_table c.args.byte (omega (arith, c.ranges.byte.fits))
