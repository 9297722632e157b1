use Rattle.std.proofs.Common.{rules}
use Rattle.packet_archive.proofs.Kept.{in_front, written_so, clock_so}
use Rattle.packet_archive.proofs.import.import_next.Goals as goal

pub returns-in_ok-met-in-Kept-clause-written : goal.returns-in_ok-met-in-Kept-clause-written
returns-in_ok-met-in-Kept-clause-written c =
    written_so c.args.asked.now c.args.clock.now c.args.bytes.now c.args.out.now.items c.keep.new.out.items _
    (in_front c.args.asked.now c.args.clock.now c.args.bytes.now c.in-Packet.before c.in-Packet.size _ c.asked.inside.times (search rules) (search rules) (search rules) (search rules)) c.in_ok-met-in-Kept.ensures.written

pub returns-in_ok-met-in-Kept-clause-clock : goal.returns-in_ok-met-in-Kept-clause-clock
returns-in_ok-met-in-Kept-clause-clock c =
    clock_so c.args.asked.now c.args.clock.now c.keep.new.clock c.args.bytes.now _
    (in_front c.args.asked.now c.args.clock.now c.args.bytes.now c.in-Packet.before c.in-Packet.size _ c.asked.inside.times (search rules) (search rules) (search rules) (search rules)) c.in_ok-met-in-Kept.ensures.clock
