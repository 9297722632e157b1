use Rattle.std.proofs.Common.{sym, ◌≤◌, drop, length, subst}
use Rattle.rule_layout.proofs.Reading.{comment_fits, comment_taken}
use Rattle.rule_layout.proofs.reader.PieceReader.take_comment.Goals as goal

pub advance-text-requires : goal.advance-text-requires
advance-text-requires c = subst (λ n. n ≤ length c.args.self.now.rest.now) (sym c.line_length.ensures) (comment_fits c.args.self.now.rest.now)

pub returns : goal.returns
returns c =
    let tokens = drop c.args.self.now.count c.args.self.now.tokens.now in
    comment_taken c.args.lines c.args.self.now.rest.now c.advance-text.result.now c.advance-text.new.self.rest.now tokens
    (drop c.advance-text.new.self.count c.advance-text.new.self.tokens.now) c.line_length.result c.requires.splits c.requires.comment
    c.line_length.ensures c.advance-text.ensures.front c.advance-text.ensures.rest
    (λ i. drop (c.advance-text.ensures.count i) (c.advance-text.ensures.tokens i))
