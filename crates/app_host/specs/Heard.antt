-- What follows from a packet for applications of any kind: it is published, and each delivery is one call of `on_packet`.
-- (That none waits afterwards unless a write failed is `IsBetween`.)
use Rattle.std.specs.Prelude.{◌≡◌, ℕ, ◌<◌, List, [], ◌∷◌, length, Some, None, slice_index_or}
use Rattle.std.specs.List.{concat}
use Rattle.lc_model.specs.declared.record.Moment.{Moment}
use Rattle.lc_model.specs.Kept.Executive.{ready_seat}
use Rattle.lc_model.specs.Services.Bus.{pipe_depth, seen, IsPublished}
use Rattle.app_host.specs.Shared.{at_moment}
use Rattle.app_host.specs.Hosted.{Hosted}
use Rattle.app_host.specs.Load.{packets_in}
use Rattle.app_host.specs.Delivered.{HasHad}
use Rattle.app_host.specs.Writing.{written_off}

-- One delivery: the least seat with a waiting packet handles its oldest one, no pipe is full before it, and `bytes` are the
-- output of the call.
pub record IsDelivery (old new : Hosted) (bytes : List ℕ) : Type 0 where
  pub seat : ℕ
  pub packet : List ℕ
  pub least : ready_seat (seen old.services.bus) ≡ Some seat
  pub room : (other : ℕ) → packets_in (slice_index_or (seen old.services.bus) other None) < pipe_depth
  pub answered : Hosted
  pub had : HasHad seat packet old answered
  pub bytes_are : bytes ≡ answered.services.outgoing
  pub services : new.services ≡ written_off answered.services
  pub seats : new.seats ≡ answered.seats
  pub stock : new.stock ≡ old.stock

-- Deliveries one by one, with the output of each.
unfoldable pub AreDeliveries : List (List ℕ) → Hosted → Hosted → Type 0
AreDeliveries [] first now = now ≡ first
AreDeliveries (bytes ∷ more) first now = (mid : Hosted) × IsDelivery first mid bytes × AreDeliveries more mid now

-- `packet` was published, and nothing but the bus has changed.
pub record IsOffered (packet : List ℕ) (old first : Hosted) : Type 0 where
  pub stock : first.stock ≡ old.stock
  pub seats : first.seats ≡ old.seats
  pub is_closed : first.is_closed ≡ old.is_closed
  pub events : first.services.events ≡ old.services.events
  pub tables : first.services.tables ≡ old.services.tables
  pub counts : first.services.counts ≡ old.services.counts
  pub moment : first.services.moment ≡ old.services.moment
  pub outgoing : first.services.outgoing ≡ old.services.outgoing
  pub published : IsPublished packet old.services.bus first.services.bus

-- The host with this moment in its services.
abbrev pub host_at : Moment → Hosted → Hosted
host_at moment h = record h { services = at_moment moment h.services }

-- `packet` was published, and each counted call was one delivery; `theirs` is the output of all of them.
pub record HasHeard (packet : List ℕ) (moment : Moment) (old new : Hosted) (theirs : List ℕ) : Type 0 where
  pub first : Hosted
  pub offered : IsOffered packet (host_at moment old) first
  pub deliveries : List (List ℕ)
  pub are : AreDeliveries deliveries first new
  pub sent : theirs ≡ concat deliveries
  pub calls : new.calls ≡ length deliveries
