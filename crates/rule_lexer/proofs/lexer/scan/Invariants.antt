use Rattle.std.proofs.Common.{length}
use Rattle.rule_lexer.proofs.Scans.{SoFar}
use Rattle.rule_lexer.proofs.lexer.scan.Given as goal

abbrev pub invariant-loop-tokens : goal.invariant-loop-tokens
invariant-loop-tokens l = SoFar l.text l.tokens.items l.scanner.at l.scanner.rest.now

abbrev pub decreases-loop-tokens : goal.decreases-loop-tokens
decreases-loop-tokens l = length l.scanner.rest.now
