-- What a call of an application leaves.
use Rattle.std.specs.Prelude.{◌≡◌, ℕ, List, [], Some, None, slice_set}
use Rattle.std.specs.List.{concat}
use Rattle.lc_model.specs.Name.{Name}
use Rattle.lc_model.specs.Kept.Summary.{AppState}
use Rattle.lc_model.specs.Kept.Call.{ServicesNow, Called}
use Rattle.lc_model.specs.Kept.Executive.{all_published_to}
use Rattle.lc_model.specs.Kept.GoesWith.{GoesWith, MayStart}
use Rattle.lc_model.specs.Services.Bus.{seen}
use Rattle.lc_model.specs.Services.Interface.{IsApplicationName, BelongsTo, seen_at, waiting_in}
use Rattle.lc_model.specs.Services.Settled.{Settled, IsNamedAs}
use Rattle.app_host.specs.declared.services.Services.{Services}
use Rattle.app_host.specs.Shared.{on_board, held_by, shared}

-- An object at any time: a valid application name, the name of its kind if it is of this profile, and a state in which it may be
-- started.
pub record IsObject (state : AppState) (name : Name) : Type 0 where
  pub application : IsApplicationName name
  pub kind : IsNamedAs state name
  pub may_start : MayStart state

-- An object on its seat: sender and tables of the seat are under its name, and pipe, tables and state agree with one another.
pub record IsAtHome (state : AppState) (name : Name) (seat : ℕ) (s : Services) : Type 0 where
  pub belongs : BelongsTo seat name (held_by s)
  pub settled : Settled state seat (held_by s)
  pub goes : GoesWith on_board state (shared s)

-- The call did exactly what the model gives: new state, services, output, its own pipe's subscriptions, and packets published to
-- all pipes.
pub record Leaves (seat : ℕ) (state : AppState) (before after : Services) (called : Called (List ℕ)) : Type 0 where
  pub becomes : state ≡ called.state
  pub services : shared after ≡ called.services
  pub outgoing : after.outgoing ≡ concat called.outgoing
  pub pipes : seen after.bus
      ≡ all_published_to (slice_set (seen before.bus) seat (Some (record { subscriptions = called.mids; waiting = waiting_in (seen_at seat (held_by before)) }))) called.published

-- A `retire` did exactly what the model gives: the seat has no pipe, and nothing was written.
pub record LeavesEmpty (seat : ℕ) (before after : Services) (left : ServicesNow (List ℕ)) : Type 0 where
  pub services : shared after ≡ left
  pub outgoing : after.outgoing ≡ []
  pub pipes : seen after.bus ≡ slice_set (seen before.bus) seat None
