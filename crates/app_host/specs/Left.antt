-- The host after an object has left its seat.
use Rattle.std.specs.Prelude.{◌≡◌, ◌≢◌, ℕ, zero, suc, ◌≤◌, List, [], length, map, Option, Some, None, IfSome, IsSomeAnd, slice_set}
use Rattle.lc_model.specs.Kept.Summary.{Other}
use Rattle.lc_model.specs.Kept.Call.{next_retire}
use Rattle.lc_model.specs.Kept.Executive.{left_from, seat_count}
use Rattle.lc_model.specs.Services.Interface.{IsFreeSeat, IsRetired, outgoing_room}
use Rattle.app_host.specs.declared.services.Services.{Services}
use Rattle.app_host.specs.Shared.{held_by, shared}
use Rattle.app_host.specs.Calls.{LeavesEmpty}
use Rattle.app_host.specs.Hosted.{Object, Hosted, object_at, object_in}
use Rattle.app_host.specs.Objects.{HasRetired}
use Rattle.app_host.specs.Whole.{AreSeated}
use Rattle.app_host.specs.Writing.{written_off}
use Rattle.app_host.specs.Delivered.{executive_in}

-- Object `o` was retired from the seat.
pub record HasLeft (seat : ℕ) (before after : Services) (o : Object) : Type 0 where
  pub rules : IsRetired seat o.called (held_by before) (held_by after)
  pub exact : IfSome (next_retire o.state (shared before)) (LeavesEmpty seat before after)

-- The seat's object was retired, if there was one; else nothing changed.
abbrev pub LeftBy : ℕ → Services → Services → Option Object → Type 0
LeftBy seat before after None = after ≡ before
LeftBy seat before after (Some o) = HasLeft seat before after o

-- An object of this profile left as in the model, and nothing waits to be written.
pub record LeavesExactly (seat : ℕ) (old new : Hosted) : Type 0 where
  pub executive : executive_in new ≡ left_from seat (executive_in old)
  pub outgoing : new.services.outgoing ≡ []

-- The seat is free, and the other seats and the stock are unchanged.
pub record HasVacated (seat : ℕ) (old new : Hosted) : Type 0 where
  pub stock : new.stock ≡ old.stock
  pub seats : new.seats ≡ slice_set old.seats seat None
  pub is_closed : new.is_closed ≡ old.is_closed
  pub calls : new.calls ≡ old.calls
  pub moment : new.services.moment ≡ old.services.moment
  pub seated : AreSeated new.seats new.services
  pub fits : length new.services.outgoing ≤ outgoing_room
  pub exact : IfSome (object_at seat old.seats) (λ (o : Object). o.state ≢ Other → LeavesExactly seat old new)

-- The object on the seat, `there`, was retired and is returned as `gone`; if the seat was free, nothing changed.
abbrev pub GoesFrom : ℕ → Services → Services → Option Object → Option Object → Type 0
GoesFrom seat before after None None = after ≡ before
GoesFrom seat before after None (Some gone) = ⊥
GoesFrom seat before after (Some there) None = ⊥
GoesFrom seat before after (Some there) (Some gone) = HasRetired seat before after there gone

-- The seat's object, if any, was retired and is returned, and then the output that its retirement left was discarded.
pub record GivesBack (seat : ℕ) (there gone : Option Object) (before after : Services) : Type 0 where
  pub behind : Services
  pub goes : GoesFrom seat before behind there gone
  pub let_go : after ≡ written_off behind

-- The seats 0 to `seat` - 1 were retired in this order, each over the services that the one before it left; `there` are the
-- objects before, `gone` those that are returned.
unfoldable pub GiveBack : ℕ → List (Option Object) → List (Option Object) → Services → Services → Type 0
GiveBack zero there gone first now = now ≡ first
GiveBack (suc seat) there gone first now = (before : Services) × GiveBack seat there gone first before × GivesBack seat (object_at seat there) (object_at seat gone) before now

-- All that ran was retired, seat by seat, and is returned in `handed`; no seat has an object, a pipe, a sender or a table; stock,
-- calls and `is_closed` are unchanged.
pub record HasClosed (old new : Hosted) (handed : List (Option Object)) : Type 0 where
  pub stock : new.stock ≡ old.stock
  pub is_closed : new.is_closed ≡ old.is_closed
  pub calls : new.calls ≡ old.calls
  pub gone : (seat : ℕ) → object_at seat new.seats ≡ None
  pub free : (seat : ℕ) → IsFreeSeat seat (held_by new.services)
  pub retired : GiveBack seat_count old.seats handed old.services new.services

-- The host was closed: `HasClosed` holds for values `handed` in the place of the applications that ran. A body that is proved for
-- every type `B` has such values, without a seat, by calls of `retire` only.
pub record WasClosed {B : Type 0} (meaning : B → Object) (h : Hosted) : Type 0 where
  pub now : Hosted
  pub handed : List (Option B)
  pub closed : HasClosed h now (map (object_in meaning) handed)

-- The object on the seat was retired and holds no seat any more.
pub record HasGone (seat : ℕ) (seats : List (Option Object)) (before : Services) : Type 0 where
  pub after : Services
  pub gone : Object
  pub retired : IsSomeAnd (object_at seat seats) (λ (o : Object). HasRetired seat before after o gone)
