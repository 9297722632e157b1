-- The host after one delivery.
use Rattle.std.specs.Prelude.{◌≡◌, ℕ, ◌+◌, ◌<◌, ◌≤◌, List, length, Some, slice_set}
use Rattle.std.specs.List.{concat}
use Rattle.lc_model.specs.Kept.Executive.{Executive, Written, delivered_at}
use Rattle.lc_model.specs.Services.Bus.{Bus, seen, oldest_at, received, after}
use Rattle.lc_model.specs.Services.Interface.{outgoing_room}
use Rattle.app_host.specs.Shared.{on_board}
use Rattle.app_host.specs.declared.services.Services.{Services}
use Rattle.app_host.specs.Hosted.{Object, Hosted, object_at, executive_of}
use Rattle.app_host.specs.Objects.{HasAnswered}
use Rattle.app_host.specs.Whole.{AreSeated, AreKnown}
use Rattle.app_host.specs.Party.{IsDetermined}
use Rattle.app_host.specs.Load.{IsLight, load}
use Rattle.app_host.specs.Roster.{roster_of, ComesTo}

-- The executive of the model for this host.
abbrev pub executive_in : Hosted → Executive (List ℕ)
executive_in h = executive_of h.stock h.seats h.services

-- The host is what `step` gives, and the step's packets wait to be written.
pub record Becomes (h : Hosted) (step : Written (List ℕ)) : Type 0 where
  pub executive : executive_in h ≡ step.0
  pub outgoing : h.services.outgoing ≡ concat step.1

-- The services with their bus replaced.
abbrev pub with_bus : Bus → Services → Services
with_bus bus s = record s { bus = bus }

-- The object on `seat` handled `packet`, the oldest of its pipe, which was removed before the call. What the object published
-- reaches each other subscriber once; if it is of this profile, it did exactly what the model gives. No other object changed.
pub record HasHad (seat : ℕ) (packet : List ℕ) (old new : Hosted) : Type 0 where
  pub oldest : oldest_at seat old.services.bus ≡ Some packet
  pub object : Object
  pub there : object_at seat old.seats ≡ Some object
  pub now : Object
  pub answered : HasAnswered seat packet (with_bus (after old.services.bus (received seat old.services.bus)) old.services) new.services object now
  pub seats : new.seats ≡ slice_set old.seats seat (Some now)

-- The object on `seat` handled its oldest packet, and the host keeps its invariants: seats, stock and roster stay consistent,
-- and the load, which bounds the deliveries to come, falls.
pub record HasDelivered (seat : ℕ) (old new : Hosted) : Type 0 where
  pub seated : AreSeated new.seats new.services
  pub stock : new.stock ≡ old.stock
  pub is_closed : new.is_closed ≡ old.is_closed
  pub moment : new.services.moment ≡ old.services.moment
  pub calls : new.calls ≡ old.calls + 1
  pub light : IsLight (seen new.services.bus)
  pub falls : load (seen new.services.bus) < load (seen old.services.bus)
  pub fits : length new.services.outgoing ≤ outgoing_room
  pub own : ComesTo (roster_of old) old new
  pub known : AreKnown old → AreKnown new
  pub determined : IsDetermined old → IsDetermined new
  pub packet : List ℕ
  pub had : HasHad seat packet old new
  pub exact : IsDetermined old → Becomes new (delivered_at on_board old.services.moment seat (executive_in old))
