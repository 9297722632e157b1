use Rattle.std.proofs.Common.{arith}
use Rattle.packet_rows.proofs.Members.{none_left, one_more}
use Rattle.packet_rows.proofs.objects.push_members.Goals as goal

pub loop-number-preserved : goal.loop-number-preserved
loop-number-preserved c =
    one_more c.loop-number.out.items c.push_member.new.out.items _ c.args.keys.now c.args.cells.now c.loop-number.number _ _
    c.loop-number-test.true c.requires c.loop-number.invariant c.in_ok-push_member.ensures

pub returns : goal.returns
returns c =
    none_left c.loop-number.out.items _ c.args.keys.now c.args.cells.now c.loop-number.number
    (let over = c.loop-number-test.false in omega (arith, over)) c.loop-number.invariant
