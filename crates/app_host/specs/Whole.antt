-- The invariant that every call of the host keeps.
use Rattle.std.specs.Prelude.{◌≡◌, ◌≢◌, ℕ, List, [], length, Option, Some, None, option_map, All, IfSome}
use Rattle.lc_model.specs.Name.{Name}
use Rattle.lc_model.specs.Kept.Summary.{Other}
use Rattle.lc_model.specs.Kept.Executive.{seat_count, ready_seat}
use Rattle.lc_model.specs.Services.Bus.{seen}
use Rattle.lc_model.specs.Services.Interface.{IsApplicationName, IsFreeSeat}
use Rattle.app_host.specs.declared.services.Services.{Services}
use Rattle.app_host.specs.Shared.{held_by}
use Rattle.app_host.specs.Calls.{IsAtHome}
use Rattle.app_host.specs.Hosted.{Object, Hosted, object_at}

-- Object `o` runs on seat `seat`: it holds that seat, it has a valid application name, and `IsAtHome` holds of its pipe, sender
-- and tables.
pub record IsRunning (s : Services) (seat : ℕ) (o : Object) : Type 0 where
  pub holds : o.seat ≡ Some seat
  pub named : IsApplicationName o.called
  pub home : IsAtHome o.state o.called seat s

-- The name of the object on a seat, or `None` if the seat is free.
abbrev pub name_at : ℕ → List (Option Object) → Option Name
name_at seat seats = option_map (λ (o : Object). o.called) (object_at seat seats)

-- There are eight seats; each is free or has a running object, and no two objects have the same name.
pub record AreSeated (seats : List (Option Object)) (s : Services) : Type 0 where
  pub eight : length seats ≡ seat_count
  pub running : (seat : ℕ) → IfSome (object_at seat seats) (IsRunning s seat)
  pub free : (seat : ℕ) → object_at seat seats ≡ None → IsFreeSeat seat (held_by s)
  pub own : (name : Name) (j k : ℕ) → name_at j seats ≡ Some name → name_at k seats ≡ Some name → j ≡ k

-- No object in stock holds a seat.
abbrev pub AreSpares : List Object → Type 0
AreSpares stock = All (λ (spare : Object). spare.seat ≡ None) stock

-- The host between two calls of an application: seats and stock are consistent, and no output waits to be written.
pub record IsWhole (h : Hosted) : Type 0 where
  pub seated : AreSeated h.seats h.services
  pub spares : AreSpares h.stock
  pub idle : h.services.outgoing ≡ []

-- No pipe has a waiting packet.
abbrev pub IsQuiet : Hosted → Type 0
IsQuiet h = ready_seat (seen h.services.bus) ≡ None

-- The object is a Limit Checker, a scheduler or a counter.
abbrev pub IsKnown : Object → Type 0
IsKnown o = o.state ≢ Other

-- Every object that runs is one of these three.
abbrev pub AreKnown : Hosted → Type 0
AreKnown h = (seat : ℕ) → IfSome (object_at seat h.seats) IsKnown
