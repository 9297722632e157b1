use Rattle.std.proofs.Common.{rules, sym}
use Rattle.run_stepper.proofs.Arriving.{one_more, over}
use Rattle.run_stepper.proofs.trace.push_packets.Goals as goal

pub loop-packet-preserved : goal.loop-packet-preserved
loop-packet-preserved c =
    one_more c.args.place c.args.led.now c.args.came.now.items c.loop-packet.came.items c.push.new.self.items c.loop-packet.rest.now c.in-Some.packet.now c.in-Some.behind.now
    c.loop-packet.invariant (sym c.in-Some.ensures.whole) (search rules) (search rules) (search rules)

pub returns : goal.returns
returns c =
    over c.args.place c.args.led.now c.args.came.now.items c.loop-packet.came.items c.loop-packet.rest.now c.loop-packet.invariant (sym c.in_default.ensures.whole)
