-- A value more.
use Rattle.std.proofs.Common.{rules, subst, ◌+◌, ℤ}
use mir.Syntax.{w64}
use mir.Val.{to_z}
use Rattle.scenarios.specs.Ramp.{values_said}
use Rattle.scenarios.proofs.Values.{Running, one_more, over, refused}
use Rattle.scenarios.proofs.ramp.values_said.Goals as goal

pub returns-in-Err-clause-refused : goal.returns-in-Err-clause-refused
returns-in-Err-clause-refused c =
    refused c.args.n c.args.ramp.now _ c.loop.counter c.args.count (to_z w64 c.loop.value-bits) c.loop.said c.loop.invariant c.loop-test.true c.in-Err.fault
    c.in-Err.ensures.refused

pub loop-preserved : goal.loop-preserved
loop-preserved c =
    subst (λ (z : ℤ). Running c.args.n c.args.ramp.now (values_said c.args.count c.args.n c.args.ramp.now c.args.ramp.now.from c.args.start) (c.loop.counter + 1) c.args.count z c.in-Ok.after)
    (search rules)
    (one_more c.args.n c.args.ramp.now _ c.loop.counter c.args.count (to_z w64 c.loop.value-bits) c.loop.said c.loop.invariant c.loop-test.true c.in-Ok.after
    c.in-Ok.ensures.said)

pub returns-clause-said : goal.returns-clause-said
returns-clause-said c =
    over c.args.n c.args.ramp.now _ c.loop.counter c.args.count (to_z w64 c.loop.value-bits) c.loop.said c.loop.invariant (search rules)
