use Rattle.std.proofs.Common.{◌≡◌, refl, ◌∙◌, suc, ◌+◌, drop, drop-cons, arith}
use Rattle.rule_layout.proofs.Reading.{token_fits, token_taken}
use Rattle.rule_layout.proofs.reader.PieceReader.take_token.Goals as goal

pub advance-text-requires : goal.advance-text-requires
advance-text-requires c =
    let tokens = c.args.self.now.tokens.now in
    let count = c.args.self.now.count in
    token_fits c.args.self.now.rest.now tokens count _ c.requires.splits (drop-cons tokens count _ c.requires.within)
    c.requires.some c.requires.no_blank c.requires.no_comment

pub returns : goal.returns
returns c =
    let tokens = c.args.self.now.tokens.now in
    let count = c.args.self.now.count in
    let next : count + 1 ≡ suc count = omega arith in
    token_taken c.args.lines c.args.self.now.rest.now c.advance-text.result.now c.advance-text.new.self.rest.now tokens
    (drop c.advance-text.new.self.count c.advance-text.new.self.tokens.now) count _ _ c.requires.splits (drop-cons tokens count _ c.requires.within)
    c.requires.some c.requires.no_blank c.requires.no_comment refl c.advance-text.ensures.front c.advance-text.ensures.rest
    (λ i. drop ((c.advance-text.ensures.count ∙ next) i) (c.advance-text.ensures.tokens i))
