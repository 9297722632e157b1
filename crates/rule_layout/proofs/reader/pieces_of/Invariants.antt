use Rattle.std.proofs.Common.{drop, length}
use Rattle.rule_layout.proofs.Reading.{HasRead}
use Rattle.rule_layout.specs.Pieces.{shapes_of}
use Rattle.rule_layout.proofs.reader.pieces_of.Given as goal

abbrev pub invariant-loop-piece : goal.invariant-loop-piece
invariant-loop-piece l = HasRead l.text (shapes_of l.pieces.items) l.reader.rest.now (drop l.reader.count l.reader.tokens.now)

abbrev pub decreases-loop-piece : goal.decreases-loop-piece
decreases-loop-piece l = length l.reader.rest.now
