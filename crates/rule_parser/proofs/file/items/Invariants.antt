use Rattle.std.proofs.Common.{length}
use Rattle.rule_lexer.specs.Token.{tokens_of}
use Rattle.rule_parser.specs.Syntax.{items_of}
use Rattle.rule_parser.proofs.Files.{SoFar}
use Rattle.rule_parser.proofs.file.items.Given as goal

abbrev pub invariant-loop-reader : goal.invariant-loop-reader
invariant-loop-reader l = SoFar l.end (tokens_of l.tokens) l.reader (items_of l.items.items)

abbrev pub decreases-loop-reader : goal.decreases-loop-reader
decreases-loop-reader l = length l.reader.tokens
