use Rattle.rule_lints.proofs.Naming.{next_place}
use Rattle.rule_lints.proofs.comments.add_places.Goals as goal

pub loop-at-preserved : goal.loop-at-preserved
loop-at-preserved c =
    next_place c.args.found.now.items c.loop-at.found.items c.add_place.new.found.items c.args.text.now c.args.all.now c.loop-at.at c.loop-at.invariant c.in_ok-add_place.ensures
