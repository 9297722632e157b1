use Rattle.std.proofs.Common.{◌≡◌, ◌+◌, ◌∙◌, ap, arith, drop, rules, suc, sym}
use Rattle.run_account.specs.Lanes.{is_scheduled}
use Rattle.run_account.proofs.Scheduling.{scheduled_here, not_in_slot}
use Rattle.run_account.proofs.lanes.is_scheduled.Goals as goal

pub returns-then-are_entries_taking : goal.returns-then-are_entries_taking
returns-then-are_entries_taking c =
    sym (scheduled_here c.args.schedule.now c.loop-slot.slot c.args.rule (omega (arith, c.loop-slot-test.true, c.len-slot-end.ensures.slots)) (search rules))
    ∙ c.loop-slot.invariant

pub loop-slot-preserved : goal.loop-slot-preserved
loop-slot-preserved c =
    let next : c.loop-slot.slot + 1 ≡ suc c.loop-slot.slot = omega arith in
    ap (λ n. is_scheduled (drop n c.args.schedule.now) c.args.rule) next
    ∙ sym (not_in_slot c.args.schedule.now c.loop-slot.slot c.args.rule (omega (arith, c.loop-slot-test.true, c.len-slot-end.ensures.slots)) (search rules))
    ∙ c.loop-slot.invariant
