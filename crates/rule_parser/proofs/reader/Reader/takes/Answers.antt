use Rattle.std.proofs.Common.{◌≡◌, sym, ◌∙◌, ap, true}
use Rattle.rule_parser.specs.Front.{begins, class_of}
use Rattle.rule_parser.proofs.Nesting.{taken}
use Rattle.rule_parser.proofs.reader.Reader.takes.Goals as goal

pub returns : goal.returns
returns c =
    let is : begins (class_of c.args.kind) c.args.self.now.tokens ≡ true = sym c.begins.ensures ∙ c.if-not-begins.false in
    let t = taken (class_of c.args.kind) c.self.inside.cursor c.next.new.self c.next.result c.next.ensures
    (ap (λ l. begins (class_of c.args.kind) l.tokens) c.self.view_is ∙ is) in
    (t.0, sym (ap (λ l. l.tokens) c.self.view_is) ∙ t.1, t.2, ap (λ l. l.end) c.self.view_is)
