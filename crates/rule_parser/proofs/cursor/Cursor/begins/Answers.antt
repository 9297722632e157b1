use Rattle.std.proofs.Common.{◌≡◌, sym, ◌∙◌, ap}
use Rattle.rule_parser.specs.Front.{begins, class_of}
use Rattle.rule_parser.proofs.PlainKinds.{is_same, same_decides, of_grammar}
use Rattle.rule_parser.proofs.TokenFronts.{begins_at_end, begins_first, is_next, none_left}
use Rattle.rule_parser.proofs.cursor.Cursor.begins.Goals as goal

pub returns-in-Some : goal.returns-in-Some
returns-in-Some c =
    let found = c.in-Some.ensures.lookup.3 in
    let t = c.in-Some.token.now in
    let wanted = class_of c.args.kind in
    let e : c.eq.result ≡ is_same t.kind c.args.kind = c.eq.ensures in
    let next = is_next c.self.inside.tokens.now c.self.inside.count t c.kinds_decide_classes.ensures c.self.invariant found.0 found.1 in
    e ∙ same_decides t.kind c.args.kind c.requires ∙ sym (begins_first wanted _ _ t (of_grammar c.args.kind) next)
    ∙ ap (begins wanted) c.self.view_is

pub returns-in-None : goal.returns-in-None
returns-in-None c =
    sym (begins_at_end (class_of c.args.kind) _ (sym c.self.view_is ∙ none_left c.self.inside.tokens.now c.self.inside.count c.in-None.ensures.lookup.0))
