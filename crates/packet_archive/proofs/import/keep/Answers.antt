use Rattle.std.proofs.Common.{rules}
use Rattle.packet_archive.specs.Clock.{moment_by}
use Rattle.packet_archive.proofs.Kept.{records_so}
use Rattle.packet_archive.proofs.import.keep.Goals as goal

pub returns-clause-written : goal.returns-clause-written
returns-clause-written c =
    records_so c.args.clock.now (moment_by c.args.times c.args.clock.now c.args.packet.now) c.moment_of-moment.result c.tick_before-tick.result
    c.args.packet.now c.args.out.now.items c.push_due.new.out.items c.push_record.new.out.items c.moment_of-moment.ensures.exact
    (search rules) (search rules) (search rules)
