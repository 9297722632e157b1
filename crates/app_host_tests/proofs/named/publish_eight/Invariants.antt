use Rattle.std.proofs.Common.{◌+◌, replicate}
use Rattle.app_host.specs.Publishing.{AreShort, Publishes}
use Rattle.app_host_tests.specs.Naming.{heard}
use Rattle.app_host_tests.proofs.named.publish_eight.Given as goal

abbrev pub invariant-loop : goal.invariant-loop
invariant-loop l = record {
  published : Publishes (replicate l.counter heard) l.initial.services l.services;
  short : AreShort (64 + l.counter) l.services.bus;
}
