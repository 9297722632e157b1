use Rattle.std.proofs.Common.{drop, length}
use Rattle.rule_layout.specs.Pieces.{HasSkipped}
use Rattle.rule_layout.proofs.reader.PieceReader.skip_blanks.Given as goal

abbrev pub invariant-loop-lines : goal.invariant-loop-lines
invariant-loop-lines l = HasSkipped l.fn.self.rest.now l.self.rest.now l.lines (drop l.self.count l.self.tokens.now)

abbrev pub decreases-loop-lines : goal.decreases-loop-lines
decreases-loop-lines l = length l.self.rest.now
