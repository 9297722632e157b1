use Rattle.std.proofs.Common.{sym, ◌∙◌, ap, option_map}
use Rattle.rule_parser.specs.declared.syntax.Name.{Name}
use Rattle.rule_parser.specs.Syntax.{items_of}
use Rattle.rule_errors.specs.Places.{rule_place}
use Rattle.rule_errors.proofs.rules.rule_name.Goals as goal

pub returns-in-Some : goal.returns-in-Some
returns-in-Some c = record {
  items = items_of c.args.text.now.file.items.items;
  rules = c.args.text.now.rules.rules;
  read = c.requires.read;
  named =
      sym (ap (λ items. rule_place (items_of items) c.args.number) c.as_slice.ensures.value) ∙ sym c.rule_among.ensures
      ∙ ap (option_map (λ (name : Name). name.at)) c.in-Some.is;
}
