use Rattle.std.proofs.Common.{sym}
use Rattle.rule_parser.proofs.TokenFronts.{is_next}
use Rattle.rule_parser.proofs.cursor.Cursor.next.Goals as goal

pub returns : goal.returns
returns c =
    let found = c.in_ok-token.ensures.lookup.3 in
    let next = is_next c.self.inside.tokens.now c.self.inside.count c.in_ok-token.field-0.now c.kinds_decide_classes.ensures c.self.invariant found.0 found.1 in
    rw (sym c.self.view_is) next
