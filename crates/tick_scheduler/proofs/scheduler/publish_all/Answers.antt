use Rattle.std.proofs.Common.{◌+◌, take, arith}
use Rattle.tick_scheduler.proofs.Publishing.{written_is_good, packet_of_entry, one_entry_more, one_more_waits}
use Rattle.lc_model.proofs.Services.BusLaws.{has_room}
use Rattle.tick_scheduler.proofs.scheduler.publish_all.Goals as goal

pub publish-requires-clause-good : goal.publish-requires-clause-good
publish-requires-clause-good c =
    written_is_good _ _ _ _ c.write_packet-size.ensures.size c.write_packet-size.ensures.bytes

pub publish-requires-clause-room : goal.publish-requires-clause-room
publish-requires-clause-room c =
    has_room (64 + c.loop-entry.entry-index) (take c.write_packet-size.result c.write_packet-size.new.buffer) c.loop-entry.services.bus c.loop-entry.invariant.short
    (let more = c.loop-entry-test.true in let few = c.requires.few in omega (arith, more, few))

pub loop-entry-preserved : goal.loop-entry-preserved
loop-entry-preserved c = record {
  published = one_entry_more c.publishing_is_by_the_rules.ensures.goes_on c.args.entries.now c.loop-entry.entry-index _ c.loop-entry-test.true c.args.services.now c.loop-entry.services c.publish.new.self
      c.loop-entry.invariant.published _ (packet_of_entry _ _ _ _ c.write_packet-size.ensures.size c.write_packet-size.ensures.bytes) c.publish.ensures.published;
  short = one_more_waits c.loop-entry.entry-index c.publish.new.self.bus (c.publish.ensures.fills (64 + c.loop-entry.entry-index) c.loop-entry.invariant.short);
}
