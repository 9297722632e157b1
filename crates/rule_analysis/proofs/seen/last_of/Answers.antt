use Rattle.std.proofs.Common.{rules}
use Rattle.rule_analysis.proofs.SeenLaws.{last_here}
use Rattle.rule_analysis.proofs.seen.last_of.Goals as goal

pub returns-then-padded_message_id-mid : goal.returns-then-padded_message_id-mid
returns-then-padded_message_id-mid c =
    last_here c.args.packets.now c.args.mid c.loop-packet.packet-index c.packet-item.result _ c.deref-then-padded_message_id-mid.result.now
    c.loop-packet-test.true c.packet-item.is c.deref-then-padded_message_id-mid.ensures.value (search rules) c.loop-packet.invariant
