use Rattle.std.proofs.Common.{sym, ◌∙◌, ap, arith}
use Rattle.lc_model.specs.Text.Reading.{TooNested}
use Rattle.rule_parser.specs.Front.{begins}
use Rattle.rule_parser.proofs.Nesting.{first_is, taken}
use Rattle.rule_parser.proofs.reader.Reader.nest.Goals as goal

pub returns-then-room-eq0 : goal.returns-then-room-eq0
returns-then-room-eq0 c = λ wanted is.
    let first = first_is wanted c.args.self.now is in
    (first.0, first.1, first.2, first.3, grind (arith, c.if-room-eq0.true), ap TooNested (c.place.ensures ∙ first.4))

pub returns : goal.returns
returns c = λ wanted is.
    let t = taken wanted c.self.inside.cursor c.next.new.self c.next.result c.next.ensures (ap (λ l. begins wanted l.tokens) c.self.view_is ∙ is) in
    (t.0, sym (ap (λ l. l.tokens) c.self.view_is) ∙ t.1, t.2, ap (λ l. l.end) c.self.view_is, grind (arith, c.if-room-eq0.false))
