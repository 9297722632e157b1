-- The services after an application has opened its seat, and after it has closed it.
use Rattle.std.specs.Prelude.{◌≡◌, ℕ, ◌<◌, List, [], length, Some, None, slice_set, IfSome, IsTrue, is_some}
use Rattle.lc_model.specs.Name.{Name}
use Rattle.lc_model.specs.Kept.Call.{new_sender, registered, with_at}
use Rattle.lc_model.specs.Services.Bus.{pipe_at, with_pipe}
use Rattle.lc_model.specs.Services.Events.{Sender, sender_at, sender_named}
use Rattle.lc_model.specs.Services.Tables.{tables_unregistered}
use Rattle.lc_model.specs.Services.Interface.{Held}
use Rattle.app_host.specs.declared.services.Services.{Services}
use Rattle.app_host.specs.Shared.{shared}

-- The seat has an empty pipe with these subscriptions and a new event sender of this name; nothing else changed.
pub record IsOpened (seat : ℕ) (name : Name) (mids : List ℕ) (before after : Services) : Type 0 where
  pub bus : after.bus ≡ with_pipe seat before.bus (record { subscriptions = mids; waiting = [] })
  pub events : after.events ≡ record before.events { places = slice_set before.events.places seat (Some (record { name = name; events = new_sender })) }
  pub shared : shared after ≡ registered name (shared before)
  pub tables : after.tables ≡ before.tables
  pub moment : after.moment ≡ before.moment
  pub outgoing : after.outgoing ≡ before.outgoing
  pub on_the_bus : seat < length before.bus
  pub among_senders : seat < length before.events.places

-- The seat has a pipe and an event sender.
pub record HasPipeAndSender (seat : ℕ) (held : Held) : Type 0 where
  pub pipe : IsTrue (is_some (pipe_at seat held.bus))
  pub sender : IsTrue (is_some (sender_at (Some seat) held.events))

-- The seat has no pipe, event sender or table; nothing else changed.
pub record IsClosed (seat : ℕ) (before after : Services) : Type 0 where
  pub bus : after.bus ≡ slice_set before.bus seat None
  pub events : after.events ≡ record before.events { places = slice_set before.events.places seat None }
  pub names : IfSome (sender_at (Some seat) before.events) (λ (sender : Sender). sender_named after.events ≡ with_at sender.name None (sender_named before.events))
  pub tables : after.tables ≡ tables_unregistered seat before.tables
  pub counts : after.counts ≡ before.counts
  pub moment : after.moment ≡ before.moment
  pub outgoing : after.outgoing ≡ before.outgoing
