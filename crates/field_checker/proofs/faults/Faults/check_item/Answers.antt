use Rattle.std.proofs.Common.{ap, subst}
use Rattle.std.specs.List.{Contains}
use Rattle.rule_parser.specs.Syntax.{item_of}
use Rattle.field_checker.proofs.faults.Faults.check_item.Goals as goal

pub returns-in-Packet-clause-names : goal.returns-in-Packet-clause-names
returns-in-Packet-clause-names c = λ items among before. c.check_packet.ensures.names items (c.check_name.ensures.names items before)

pub returns-in-Field-clause-names : goal.returns-in-Field-clause-names
returns-in-Field-clause-names c = λ items among before.
    c.check_field.ensures.names items (subst (Contains items) (ap item_of c.in-Field.is) among) (c.check_name.ensures.names items before)

pub returns-in-Rule-clause-names : goal.returns-in-Rule-clause-names
returns-in-Rule-clause-names c = λ items among before.
    c.check_rule.ensures.names items (subst (Contains items) (ap item_of c.in-Rule.is) among) (c.check_name.ensures.names items before)
