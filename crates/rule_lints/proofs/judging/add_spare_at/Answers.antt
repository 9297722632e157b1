use Rattle.std.proofs.Common.{slice_get}
use Rattle.rule_parser.specs.Syntax.{items_of}
use Rattle.rule_lints.proofs.Nothing.{no_spare, past_end}
use Rattle.rule_lints.proofs.judging.add_spare_at.Goals as goal

pub returns-in-None : goal.returns-in-None
returns-in-None c =
    no_spare c.args.found.now.items (items_of c.args.items.now) c.args.rules.now c.args.number (slice_get c.args.spare.now c.args.number) (past_end c.args.spare.now c.args.number c.in-None.ensures.lookup.0)
