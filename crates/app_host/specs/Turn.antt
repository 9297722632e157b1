-- One object leaves its seat and one takes a seat, of any application: the first is retired, its output is written, and then
-- the second is started over the services as they are then.
use Rattle.std.specs.Prelude.{◌≡◌, ℕ, List, ◌++◌, Option, Some, None, IsSomeAnd, slice_set}
use Rattle.lc_model.specs.declared.record.Moment.{Moment}
use Rattle.lc_model.specs.Services.Events.{EventService}
use Rattle.app_host.specs.declared.services.Services.{Services}
use Rattle.app_host.specs.Shared.{at_moment}
use Rattle.app_host.specs.Hosted.{Object, Hosted, object_at, spare_in}
use Rattle.app_host.specs.Objects.{HasStarted, HasRetired}
use Rattle.app_host.specs.Roster.{Comer, NobodyComes, FromStock, Again}
use Rattle.app_host.specs.Writing.{written_off}

-- The seat that is left, if any, and what comes.
pub record Turn : Type 0 where
  pub leaves : Option ℕ
  pub comes : Comer

-- The turn without the object that comes.
abbrev pub without_comer : Turn → Turn
without_comer turn = record turn { comes = NobodyComes }

-- The object on the given seat was retired; if no seat is given, nothing changed. `before` and `after` are the services, `gone`
-- is the object without its seat.
abbrev pub LeavesAs : Option ℕ → List (Option Object) → Services → Services → Option Object → Type 0
LeavesAs None seats before after gone = (after ≡ before) × (gone ≡ None)
LeavesAs (Some seat) seats before after None = ⊥
LeavesAs (Some seat) seats before after (Some gone) = IsSomeAnd (object_at seat seats) (λ (there : Object). HasRetired seat before after there gone)

-- The seats, with that seat free.
abbrev pub seats_without : Option ℕ → List (Option Object) → List (Option Object)
seats_without None seats = seats
seats_without (Some seat) seats = slice_set seats seat None

-- Object `o` was started on `seat`: `before` and `after` are the services; the other seats are unchanged.
pub record HasTaken (seat : ℕ) (before after : Services) (o : Object) (seats now : List (Option Object)) : Type 0 where
  pub there : Object
  pub started : HasStarted seat before after o there
  pub others : now ≡ slice_set seats seat (Some there)

-- The object that comes was started: the spare at `place`, or the retired object `gone`.
abbrev pub ComesAs : Comer → List Object → Option Object → Services → Services → List (Option Object) → List (Option Object) → Type 0
ComesAs NobodyComes stock _ before after seats now = (after ≡ before) × (now ≡ seats)
ComesAs (FromStock place seat) stock _ before after seats now = HasTaken seat before after (spare_in stock place) seats now
ComesAs (Again seat) stock None before after seats now = ⊥
ComesAs (Again seat) stock (Some gone) before after seats now = HasTaken seat before after gone seats now

-- The whole turn: an object was retired if `turn` has one that leaves, and then one was started if `turn` has one that comes.
-- `theirs` are the bytes that both sent, and the last argument is the event services after both; bus, tables and sequence
-- counts did not change afterwards.
pub record HasTurned (turn : Turn) (moment : Moment) (old new : Hosted) (theirs : List ℕ) (behind : EventService) : Type 0 where
  pub after : Services
  pub later : Services
  pub gone : Option Object
  pub left : LeavesAs turn.leaves old.seats (at_moment moment old.services) after gone
  pub come : ComesAs turn.comes old.stock gone (written_off after) later (seats_without turn.leaves old.seats) new.seats
  pub sent : theirs ≡ after.outgoing ++ later.outgoing
  pub events : behind ≡ later.events
  pub bus : new.services.bus ≡ later.bus
  pub tables : new.services.tables ≡ later.tables
  pub counts : new.services.counts ≡ later.counts
