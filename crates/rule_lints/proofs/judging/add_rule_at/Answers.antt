use Rattle.std.proofs.Common.{slice_get}
use Rattle.rule_parser.specs.Syntax.{items_of}
use Rattle.rule_lints.specs.Judged.{rule_at}
use Rattle.rule_lints.proofs.Nothing.{no_judgement, past_end}
use Rattle.rule_lints.proofs.judging.add_rule_at.Goals as goal

pub returns-in_default : goal.returns-in_default
returns-in_default c =
    no_judgement c.args.found.now.items c.args.number (rule_at (items_of c.args.items.now) c.args.number) (slice_get c.args.rules.now c.args.number)
    (past_end c.args.rules.now c.args.number c.in_default.ensures'.lookup.0)
