use Rattle.std.proofs.Common.{◌≡◌}
use Rattle.lc_model.specs.Kept.Executive.{ready_seat}
use Rattle.lc_model.specs.Services.Bus.{seen}
use Rattle.app_host.specs.Hosted.{Hosted, shown}
use Rattle.app_host.specs.Load.{load}
use Rattle.app_host.specs.Heard.{IsOffered}
use Rattle.app_host.proofs.Draining.{Draining}
use Rattle.app_host.proofs.host.Host.pass_on.Given as goal

-- a host with the packet on its bus, the deliveries from there on, and which seat is next
abbrev pub invariant-loop-next : goal.invariant-loop-next
invariant-loop-next g l = record {
  first : Hosted;
  offered : IsOffered l.packet
      (shown g.B.App.meaning l.fn.self) first;
  far : Draining first
      (shown g.B.App.meaning l.self)
      l.sent (g.W.ByteSink.sink l.fn.out) (g.W.ByteSink.sink l.out);
  next : l.next ≡ ready_seat (seen l.self.services.bus);
}

-- what waits
abbrev pub decreases-loop-next : goal.decreases-loop-next
decreases-loop-next g l = load (seen l.self.services.bus)
