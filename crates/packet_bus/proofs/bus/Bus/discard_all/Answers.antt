use Rattle.std.proofs.Common.{◌∙◌, ap, sym}
use Rattle.lc_model.specs.Services.Bus.{without_oldest}
use Rattle.packet_bus.specs.Inside.{changed, without_packets}
use Rattle.packet_bus.proofs.Emptied.{no_packets, changed_twice}
use Rattle.packet_bus.proofs.bus.Bus.discard_all.Goals as goal

pub loop-seat-preserved : goal.loop-seat-preserved
loop-seat-preserved c =
    ap (changed c.args.seat without_packets) c.discard_oldest.ensures.after
    ∙ changed_twice c.args.seat without_oldest without_packets c.loop-seat.self
    ∙ c.loop-seat.invariant

pub returns : goal.returns
returns c =
    c.discard_oldest.ensures.after
    ∙ no_packets c.args.seat c.loop-seat.self (sym c.discard_oldest.ensures.some ∙ c.loop-seat-test.false)
    ∙ c.loop-seat.invariant
