-- The roster: which objects are in stock and which names are on the seats, and how executive commands change it. The commands
-- follow the cFE user's guide (executive services); seats and refusal numbers are this project's own.
use Rattle.std.specs.Prelude.{◌≡◌, ℕ, Bool, false, List, map, remove, if◌then◌else◌, Option, Some, None, is_some, is_none, option_map, slice_set, Result, Ok}
use Rattle.std.specs.List.{position_from}
use Rattle.lc_model.specs.Name.{Name, is_named}
use Rattle.lc_model.specs.Refusal.{Refusal, ◌>>=◌, refused, found, not_running, no_spare, already_running, no_free_seat}
use Rattle.lc_model.specs.Command.{Order, Start, Stop, Restart, Reload, order_in}
use Rattle.app_host.specs.Hosted.{Object, Hosted, spare_in}

-- The spares in stock order, and the name on each of the eight seats.
pub record Roster : Type 0 where
  pub stock : List Object
  pub seats : List (Option Name)

-- The object's name.
abbrev pub name_of : Object → Name
name_of o = o.called

-- The roster of a host.
abbrev pub roster_of : Hosted → Roster
roster_of h = record { stock = h.stock; seats = map (option_map name_of) h.seats }

-- The host has the roster `wanted`; `HOST`'s types and filters and the stored files are unchanged.
pub record ComesTo (wanted : Roster) (old new : Hosted) : Type 0 where
  pub host : new.services.events.host ≡ old.services.events.host
  pub files : new.services.tables.files ≡ old.services.tables.files
  pub roster : roster_of new ≡ wanted

-- ---- seats and spares

-- Whether the seat has an object of this name.
abbrev pub has_name : Name → Option Name → Bool
has_name name None = false
has_name name (Some there) = is_named name there

-- The seat of the object with this name.
abbrev pub seat_in : Name → Roster → Option ℕ
seat_in name r = position_from (has_name name) 0 r.seats

-- The place in stock of the first spare of this name.
abbrev pub first_spare_in : Name → Roster → Option ℕ
first_spare_in name r = position_from (λ (o : Object). is_named name o.called) 0 r.stock

-- The least free seat.
abbrev pub free_in : Roster → Option ℕ
free_in r = position_from is_none 0 r.seats

-- ---- changes

-- The roster with this seat free, or with this name on it.
abbrev pub with_seat : ℕ → Option Name → Roster → Roster
with_seat seat name r = record r { seats = slice_set r.seats seat name }

-- The spare at `place` leaves the stock and takes the seat.
abbrev pub with_spare : ℕ → ℕ → Roster → Roster
with_spare place seat r = record { stock = remove r.stock place; seats = slice_set r.seats seat (Some (spare_in r.stock place).called) }

-- What comes to a seat: nothing, the spare at `place`, or the object that has just left it.
pub data Comer : Type 0 where
  NobodyComes : Comer
  FromStock : (place seat : ℕ) → Comer
  Again : (seat : ℕ) → Comer

-- A change of the roster: the seat whose object leaves, if any; what comes; and the roster after the leaving and after the
-- coming.
pub record Succession : Type 0 where
  pub leaves : Option ℕ
  pub comes : Comer
  pub left : Roster
  pub come : Roster

-- The change for an executive command, or its refusal. Start takes the first spare of the name to the least free seat. Restart
-- starts the same object again on its seat, reload the first spare of the name.
abbrev pub ordered_by : Order → Name → Roster → Result Succession Refusal
ordered_by Start name r =
    if is_some (seat_in name r) then refused already_running
    else (do
      place ← found (first_spare_in name r) no_spare
      seat ← found (free_in r) no_free_seat
      Ok (record { leaves = None; comes = FromStock place seat; left = r; come = with_spare place seat r }))
ordered_by Stop name r = do
  seat ← found (seat_in name r) not_running
  Ok (record { leaves = Some seat; comes = NobodyComes; left = with_seat seat None r; come = with_seat seat None r })
ordered_by Restart name r = do
  seat ← found (seat_in name r) not_running
  Ok (record { leaves = Some seat; comes = Again seat; left = with_seat seat None r; come = r })
ordered_by Reload name r = do
  seat ← found (seat_in name r) not_running
  place ← found (first_spare_in name r) no_spare
  Ok (record { leaves = Some seat; comes = FromStock place seat; left = with_seat seat None r; come = with_spare place seat r })

-- The change for a packet 0x1806, or its refusal.
abbrev pub succession_by : List ℕ → Roster → Result Succession Refusal
succession_by packet r = do
  command ← order_in packet
  ordered_by command.0 command.1 r
