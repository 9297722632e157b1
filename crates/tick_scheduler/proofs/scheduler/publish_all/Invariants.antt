use Rattle.std.proofs.Common.{◌+◌, take, map}
use Rattle.lc_model.specs.Host.Schedule.{entry_packet}
use Rattle.app_host.specs.Publishing.{AreShort, Publishes}
use Rattle.schedules.specs.Entry.{entries_of}
use Rattle.tick_scheduler.proofs.scheduler.publish_all.Given as goal

abbrev pub invariant-loop-entry : goal.invariant-loop-entry
invariant-loop-entry l = record {
  published : Publishes (map entry_packet (entries_of (take l.entry-index l.entries))) l.initial.services l.services;
  short : AreShort (64 + l.entry-index) l.services.bus;
}
