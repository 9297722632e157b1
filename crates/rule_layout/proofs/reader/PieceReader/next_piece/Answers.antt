use Rattle.std.proofs.Common.{rules, ◌≢◌, drop, []}
use Rattle.rule_layout.proofs.Reading.{nothing_left, token_is_there}
use Rattle.rule_layout.proofs.reader.PieceReader.next_piece.Goals as goal

pub take_token-requires-clause-within : goal.take_token-requires-clause-within
take_token-requires-clause-within c =
    let rest = c.skip_blanks-lines.new.self.rest.now in
    let some : rest ≢ [] = search rules in
    token_is_there rest c.skip_blanks-lines.new.self.tokens.now c.skip_blanks-lines.new.self.count
    c.skip_blanks-lines.ensures.skipped.splits some c.skip_blanks-lines.ensures.begun (search rules)

pub returns-then-is_empty : goal.returns-then-is_empty
returns-then-is_empty c =
    nothing_left c.args.self.now.rest.now c.skip_blanks-lines.new.self.rest.now c.skip_blanks-lines.result
    (drop c.skip_blanks-lines.new.self.count c.skip_blanks-lines.new.self.tokens.now) c.skip_blanks-lines.ensures.skipped (search rules)
