-- The program's items as those of the grammar. This project's own.
use Rattle.std.specs.Prelude.{List, map, option_map}
use Rattle.lc_model.specs.Text.Token.{Token}
use Rattle.lc_model.specs.Condition.{And, Or, Xor}
use Rattle.lc_model.specs.Text.Syntax as model
use Rattle.rule_parser.specs.declared.syntax.Name.{Name}
use Rattle.rule_parser.specs.declared.syntax.Number.{Number}
use Rattle.rule_parser.specs.declared.syntax.PacketItem.{PacketItem}
use Rattle.rule_parser.specs.declared.syntax.FieldItem.{FieldItem}
use Rattle.rule_parser.specs.declared.syntax.Comparison.{Comparison}
use Rattle.rule_parser.specs.declared.syntax.Expression.{Expression}
use Rattle.rule_parser.specs.declared.syntax.Expression.TheVariants as tree
use Rattle.rule_parser.specs.declared.syntax.ReportItem.{ReportItem}
use Rattle.rule_parser.specs.declared.syntax.RuleItem.{RuleItem}
use Rattle.rule_parser.specs.declared.syntax.Item.{Item}
use Rattle.rule_parser.specs.declared.syntax.Item.TheVariants as item

-- The program's name as a token.
abbrev pub name_of : Name → Token
name_of n = record { at = n.at; text = n.text.now }

-- The program's number with its place.
abbrev pub number_of : Number → model.Number
number_of n = record { at = n.at; value = n.value }

-- A packet.
abbrev pub packet_of : PacketItem → model.PacketItem
packet_of p = record { name = name_of p.name; mid = number_of p.mid; length = number_of p.length }

-- A field.
abbrev pub field_of : FieldItem → model.FieldItem
field_of f = record {
  name = name_of f.name;
  packet = name_of f.packet;
  kind = f.kind;
  offset = number_of f.offset;
  mask = option_map number_of f.mask;
  stale = option_map number_of f.stale;
}

-- A comparison.
abbrev pub comparison_of : Comparison → model.Expression
comparison_of c = model.Compare (name_of c.field) c.op (number_of c.value)

-- A condition.
abbrev pub expression_of : Expression → model.Expression
expression_of (tree.Compare c) = comparison_of c
expression_of (tree.Not' p e) = model.Not (expression_of e)
expression_of (tree.And' p a b) = model.Join And (expression_of a) (expression_of b)
expression_of (tree.Or' p a b) = model.Join Or (expression_of a) (expression_of b)
expression_of (tree.Xor' p a b) = model.Join Xor (expression_of a) (expression_of b)

-- The maxima of `report`.
abbrev pub report_of : ReportItem → model.ReportItem
report_of r = record {
  passive = number_of r.passive;
  pass_to_fail = number_of r.pass_to_fail;
  fail_to_pass = number_of r.fail_to_pass;
}

-- A rule.
abbrev pub rule_of : RuleItem → model.RuleItem
rule_of r = record {
  name = name_of r.name;
  mode = r.mode;
  fails = number_of r.fails;
  sequence = number_of r.sequence;
  event_kind = r.event_kind;
  event_id = number_of r.event_id;
  text = r.text.now;
  report = option_map report_of r.report;
  condition = expression_of r.condition;
}

-- An item.
abbrev pub item_of : Item → model.Item
item_of (item.Packet p) = model.Packet (packet_of p)
item_of (item.Field f) = model.Field (field_of f)
item_of (item.Rule r) = model.Rule (rule_of r)

-- A list of items.
abbrev pub items_of : List Item → List model.Item
items_of = map item_of
