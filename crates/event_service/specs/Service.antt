-- The event services, from the program's fields.
use Rattle.std.specs.Prelude.{◌≡◌, ℕ, List, Option}
use Rattle.lc_model.specs.Name.{host_name}
use Rattle.lc_model.specs.Services.Events.{Sender, EventService, IsEventService}

-- The event services of the model, from `HOST`'s sender, the sender of each seat, and the sequence count of event packets.
abbrev pub service_of : Sender → List (Option Sender) → ℕ → EventService
service_of host places sent = record { host = host.events; places = places; sent = sent }

-- The invariant between two calls: that of the model, and `HOST`'s sender has its name.
pub record AreServices (host : Sender) (places : List (Option Sender)) (sent : ℕ) : Type 0 where
  pub service : IsEventService (service_of host places sent)
  pub host_named : host.name ≡ host_name
