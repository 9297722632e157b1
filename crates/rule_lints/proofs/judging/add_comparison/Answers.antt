use Rattle.std.proofs.Common.{slice_get}
use Rattle.rule_lints.proofs.Nothing.{no_comparison, no_place, past_end}
use Rattle.rule_lints.proofs.judging.add_comparison.Goals as goal

pub returns-in_default : goal.returns-in_default
returns-in_default c =
    no_comparison c.args.found.now.items c.args.number (slice_get c.args.places.now c.args.n) (slice_get c.args.judged.now c.args.n) (past_end c.args.judged.now c.args.n c.in_default.ensures'.lookup.0)

pub returns-in_default-2 : goal.returns-in_default-2
returns-in_default-2 c =
    no_place c.args.found.now.items c.args.number (slice_get c.args.places.now c.args.n) (slice_get c.args.judged.now c.args.n) (past_end c.args.places.now c.args.n c.in_default.ensures.lookup.0)
