use Rattle.std.proofs.Common.{rules, sym, ◌∙◌, drop, length, ◌<◌}
use Rattle.rule_layout.proofs.Reading.{not_skipped, skipped_more}
use Rattle.rule_layout.proofs.reader.PieceReader.skip_blanks.Goals as goal

pub loop-lines-init : goal.loop-lines-init
loop-lines-init c = not_skipped c.args.self.now.rest.now (drop c.args.self.now.count c.args.self.now.tokens.now) c.requires

pub loop-lines-preserved : goal.loop-lines-preserved
loop-lines-preserved c =
    let rest = c.loop-lines.self.rest.now in
    let some : 0 < length rest = search rules in
    skipped_more c.args.self.now.rest.now rest c.advance.new.self.rest.now c.loop-lines.lines c.lines_after-lines.result
    (drop c.loop-lines.self.count c.loop-lines.self.tokens.now) (drop c.advance.new.self.count c.advance.new.self.tokens.now) c.loop-lines.invariant some
    (sym c.is_blank.ensures ∙ c.if-is_blank.true) c.advance.ensures.rest c.lines_after-lines.ensures.lines c.lines_after-lines.ensures.few
    (λ i. drop (c.advance.ensures.count i) (c.advance.ensures.tokens i))
