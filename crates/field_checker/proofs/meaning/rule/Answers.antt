use Rattle.lc_model.specs.Text.Meaning.{condition_faults}
use Rattle.rule_parser.specs.Syntax.{expression_of, items_of}
use Rattle.lc_model.proofs.Facts.{append_none_second}
use Rattle.field_checker.proofs.meaning.rule.Goals as goal

pub condition-requires-clause-clean : goal.condition-requires-clause-clean
condition-requires-clause-clean c =
    append_none_second _ (condition_faults (items_of c.args.names.now.items.now) (expression_of c.args.item.now.condition)) c.requires.clean
