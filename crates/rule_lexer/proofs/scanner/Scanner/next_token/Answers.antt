use Rattle.std.proofs.Common.{◌≤◌, length, ap, length-drop, arith}
use Rattle.rule_lexer.proofs.Steps.{gap_cut, step_over}
use Rattle.rule_lexer.proofs.scanner.Scanner.next_token.Goals as goal

pub returns : goal.returns
returns c =
    let at = c.args.self.now.at in
    let text = c.args.self.now.rest.now in
    let mid = c.advance.new.self.at in
    let rest = c.advance.new.self.rest.now in
    let fewer : length rest ≤ length text = omega (arith, ap length c.advance.ensures.rest, length-drop c.gap_length.result text) in
    step_over at mid c.take.new.self.at text rest c.take.new.self.rest.now
    (gap_cut at mid text rest c.gap_length.result c.gap_length.ensures c.advance.ensures.at c.advance.ensures.rest)
    c.in_ok-lexeme.lexeme c.in_ok-lexeme.ensures fewer c.take.result c.take.ensures.token_at c.take.ensures.token_text c.take.ensures.token_kind
    c.take.ensures.at c.take.ensures.rest
