-- What the calls of an application need and leave, for an object by its meaning.
use Rattle.std.specs.Prelude.{◌≡◌, ℕ, ⊤, List, [], Option, Some, None, IfSome}
use Rattle.lc_model.specs.Kept.Call.{next_start, next_on_packet, next_retire}
use Rattle.lc_model.specs.Services.Interface.{MayBeStarted, MayBeGiven, IsStarted, IsGiven, IsRetired}
use Rattle.app_host.specs.declared.services.Services.{Services}
use Rattle.app_host.specs.Shared.{on_board, held_by, shared}
use Rattle.app_host.specs.Calls.{IsObject, IsAtHome, Leaves, LeavesEmpty}
use Rattle.app_host.specs.Hosted.{Object}

-- Both values exist and are related by `P`, or neither exists.
abbrev pub IfBoth : {A : Type 0} → Option A → Option A → (A → A → Type 0) → Type 0
IfBoth None None P = ⊤
IfBoth (Some a) (Some b) P = P a b
IfBoth None (Some b) P = ⊥
IfBoth (Some a) None P = ⊥

-- What `start` needs: a spare object that may be started, and a free seat.
pub record MayStartOn (seat : ℕ) (s : Services) (o : Object) : Type 0 where
  pub spare : o.seat ≡ None
  pub kind : IsObject o.state o.called
  pub free : MayBeStarted seat o.called (held_by s)

-- What `start` leaves: the object holds the seat and keeps the interface's rules. If it is of this profile, it did exactly what
-- the model gives.
pub record HasStarted (seat : ℕ) (before after : Services) (old new : Object) : Type 0 where
  pub name : new.called ≡ old.called
  pub holds : new.seat ≡ Some seat
  pub rules : IsStarted seat old.called (held_by before) (held_by after)
  pub home : IsAtHome new.state old.called seat after
  pub exact : IfSome (next_start on_board before.moment old.state (shared before)) (Leaves seat new.state before after)

-- What `on_packet` needs: an object on its seat, a packet without a header fault, and room in the pipes for what it may
-- publish.
pub record MayAnswer (seat : ℕ) (packet : List ℕ) (s : Services) (o : Object) : Type 0 where
  pub holds : o.seat ≡ Some seat
  pub home : IsAtHome o.state o.called seat s
  pub given : MayBeGiven seat o.called packet (held_by s)

-- What `on_packet` leaves: the object keeps its seat and the interface's rules. If it is of this profile, it did exactly what
-- the model gives.
pub record HasAnswered (seat : ℕ) (packet : List ℕ) (before after : Services) (old new : Object) : Type 0 where
  pub name : new.called ≡ old.called
  pub holds : new.seat ≡ Some seat
  pub rules : IsGiven seat old.called packet (held_by before) (held_by after)
  pub home : IsAtHome new.state old.called seat after
  pub exact : IfSome (next_on_packet on_board before.moment old.state packet (shared before)) (Leaves seat new.state before after)

-- What `retire` needs: an object on its seat, and no waiting output.
pub record MayRetire (seat : ℕ) (s : Services) (o : Object) : Type 0 where
  pub holds : o.seat ≡ Some seat
  pub home : IsAtHome o.state o.called seat s
  pub idle : s.outgoing ≡ []

-- What `retire` leaves: the object holds no seat, its state is unchanged, and the seat is free. If it is of this profile, it
-- did exactly what the model gives.
pub record HasRetired (seat : ℕ) (before after : Services) (old new : Object) : Type 0 where
  pub name : new.called ≡ old.called
  pub state : new.state ≡ old.state
  pub holds : new.seat ≡ None
  pub rules : IsRetired seat old.called (held_by before) (held_by after)
  pub exact : IfSome (next_retire old.state (shared before)) (LeavesEmpty seat before after)
