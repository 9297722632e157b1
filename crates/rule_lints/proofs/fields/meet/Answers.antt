use Rattle.std.proofs.Common.{◌∙◌, sym, arith}
use Rattle.lc_model.specs.Field.{width}
use Rattle.rule_lints.proofs.Meeting.{meets, none_more, some_place}
use Rattle.rule_lints.proofs.fields.meet.Goals as goal

pub returns-then-meet_at : goal.returns-then-meet_at
returns-then-meet_at c =
    sym (some_place (meets c.args.first.now c.args.second.now) c.loop-behind.behind (width c.args.second.now.kind)
    (omega (arith, c.loop-behind-test.true, c.width-behind-end.ensures)) (sym c.meet_at.ensures ∙ c.if-meet_at.true))

pub loop-behind-preserved : goal.loop-behind-preserved
loop-behind-preserved c =
    none_more (meets c.args.first.now c.args.second.now) c.loop-behind.behind c.loop-behind.invariant (sym c.meet_at.ensures ∙ c.if-meet_at.false)
