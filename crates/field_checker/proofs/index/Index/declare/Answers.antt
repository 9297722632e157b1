use Rattle.std.proofs.Common.{sym, ◌∙◌, ap, subst, refl, ◌&&◌, ◌||◌, ◌++◌, ◌∷◌, [], None, Some, bytes_eq, cond, nat_lt}
use Rattle.lc_model.specs.Text.Syntax as model
use Rattle.rule_parser.specs.Syntax.{field_of, item_of, packet_of, rule_of}
use Rattle.field_checker.specs.Index.{at_name, is_before, joined, IsIndexOf}
use Rattle.field_checker.proofs.Indexing.{declared, rule_declared}
use Rattle.field_checker.proofs.index.Index.declare.Goals as goal

pub returns-in_ok-insert-in-Packet : goal.returns-in_ok-insert-in-Packet
returns-in_ok-insert-in-Packet c = λ items index.
    let old = c.args.self.now in
    subst (λ item. IsIndexOf (record { named = c.insert.new.named; rules = old.rules }) (items ++ item ∷ [])) (sym (ap item_of c.in-Packet.is))
    (declared old _ items (model.Packet (packet_of c.in-Packet.packet)) c.by_packet-declared.result index c.by_packet-declared.ensures refl
    (λ text.
    c.in_ok-insert-in-Packet.ensures text
    ∙ ap (λ name. joined (at_name old.named text) (cond (bytes_eq name text) (Some c.by_packet-declared.result) None)) c.key.ensures.bytes))

pub returns-in_ok-insert-in-Field : goal.returns-in_ok-insert-in-Field
returns-in_ok-insert-in-Field c = λ items index.
    let old = c.args.self.now in
    subst (λ item. IsIndexOf (record { named = c.insert-in-Field.new.named; rules = old.rules }) (items ++ item ∷ [])) (sym (ap item_of c.in-Field.is))
    (declared old _ items (model.Field (field_of c.in-Field.field)) c.by_field-declared.result index c.by_field-declared.ensures refl
    (λ text.
    c.in_ok-insert-in-Field.ensures text
    ∙ ap (λ name. joined (at_name old.named text) (cond (bytes_eq name text) (Some c.by_field-declared.result) None)) c.key-in-Field.ensures.bytes))

pub returns-in_ok-insert_least-in-Rule : goal.returns-in_ok-insert_least-in-Rule
returns-in_ok-insert_least-in-Rule c = λ items index.
    let old = c.args.self.now in
    let place = c.in-Rule.rule.name.at in
    subst (λ item. IsIndexOf (record { named = old.named; rules = c.insert_least.new.map }) (items ++ item ∷ [])) (sym (ap item_of c.in-Rule.is))
    (rule_declared old _ items (rule_of c.in-Rule.rule) index refl
    (λ text at.
    c.in_ok-insert_least-in-Rule.ensures text at
    ∙ ap (λ name. is_before (at_name old.rules text) at || (bytes_eq name text && nat_lt place at)) c.key-in-Rule.ensures.bytes))
