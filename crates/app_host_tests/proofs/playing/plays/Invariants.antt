use Rattle.std.proofs.Common.{map}
use Rattle.app_host.specs.Whole.{AreSpares}
use Rattle.app_host_tests.specs.contracts.playing.add as adding
use Rattle.app_host_tests.proofs.playing.plays.OwnLists as own
use Rattle.app_host_tests.proofs.playing.plays.Given as goal

-- none of the spares so far holds a seat
abbrev pub invariant-loop-spare : goal.invariant-loop-spare
invariant-loop-spare l =
    AreSpares (map (λ b. ((adding.dyn-1-ghosts (own.own-1, own.lawful-own-1)).0.entry b.vtable).1.meaning b.value) l.stock.items)
