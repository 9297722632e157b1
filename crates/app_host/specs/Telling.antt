-- The effect of sending a sender's requests.
use Rattle.std.specs.Prelude.{◌≡◌, ◌≢◌, List, ◌++◌, option_map}
use Rattle.std.specs.List.{concat}
use Rattle.lc_model.specs.Name.{Name}
use Rattle.lc_model.specs.Events.Request.{Request}
use Rattle.lc_model.specs.Kept.Call.{sent_by}
use Rattle.lc_model.specs.Services.Events.{Origin, Sender, sender_at}
use Rattle.app_host.specs.declared.services.Services.{Services}
use Rattle.app_host.specs.Shared.{shared}

-- The sender's name.
abbrev pub name_of : Sender → Name
name_of sender = sender.name

-- The requests of this sender are sent as in the host in numbers; nothing else changes.
pub record Tells (origin : Origin) (name : Name) (requests : List Request) (before after : Services) : Type 0 where
  pub services : shared after ≡ (sent_by before.moment name requests (shared before)).0
  pub outgoing : after.outgoing ≡ before.outgoing ++ concat (sent_by before.moment name requests (shared before)).1
  pub own : option_map name_of (sender_at origin after.events) ≡ option_map name_of (sender_at origin before.events)
  pub others : (other : Origin) → other ≢ origin → sender_at other after.events ≡ sender_at other before.events
  pub bus : after.bus ≡ before.bus
  pub tables : after.tables ≡ before.tables
  pub moment : after.moment ≡ before.moment
