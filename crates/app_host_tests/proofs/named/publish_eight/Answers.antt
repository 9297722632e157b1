use Rattle.std.proofs.Common.{◌+◌, arith}
use Rattle.app_host_tests.specs.Naming.{heard}
use Rattle.app_host_tests.proofs.Names.{one_more, one_more_waits}
use Rattle.app_host_tests.proofs.named.publish_eight.Goals as goal

pub publish-requires-clause-room : goal.publish-requires-clause-room
publish-requires-clause-room c =
    c.bus_has_room.ensures.room (64 + c.loop.counter) heard c.loop.services.bus c.loop.invariant.short (let more = c.loop-test.true in omega (arith, more))

pub loop-preserved : goal.loop-preserved
loop-preserved c = record {
  published = one_more c.publishing_is_by_the_rules.ensures.goes_on c.loop.counter c.args.services.now c.loop.services c.publish.new.self c.loop.invariant.published c.publish.ensures.published;
  short = one_more_waits c.loop.counter c.publish.new.self.bus (c.publish.ensures.fills (64 + c.loop.counter) c.loop.invariant.short);
}
