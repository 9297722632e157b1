-- What a part of a step writes, and how the host stands if a write fails.
use Rattle.std.specs.Prelude.{◌≡◌, ℕ, ◌+◌, ◌<◌, ◌≤◌, true, List, [], length, take, All, Contains, Option, Some, None, Result, Ok, Err}
use Rattle.std.specs.List.{concat}
use Rattle.std.specs.Io.KnownBytes.{Appends}
use Rattle.lc_model.specs.Device.{Sink, NoWriteRetried}
use Rattle.lc_model.specs.Kept.Executive.{Written, most_deliveries, drained, passed_on}
use Rattle.lc_model.specs.Kept.Stations.{Station, stop_at, delivery_stations, passing_stations, last_calls}
use Rattle.app_host.specs.declared.services.Services.{Services}
use Rattle.app_host.specs.declared.error.WriteFault.{WriteFault}
use Rattle.app_host.specs.Shared.{on_board}
use Rattle.app_host.specs.Hosted.{Hosted}
use Rattle.app_host.specs.Whole.{AreSeated, AreKnown, IsWhole, IsQuiet}
use Rattle.app_host.specs.Party.{Party, Waiting, passing, AreKnownIn}
use Rattle.app_host.specs.Delivered.{executive_in}

-- ---- one write

-- A bound on the bytes of a step, which fits 64 bits.
abbrev pub most_sent : ℕ
most_sent = 1000000000000

-- The services with their output taken.
abbrev pub written_off : Services → Services
written_off s = record s { outgoing = [] }

-- The host with its output taken; stock, seats and calls are unchanged.
pub record IsFlushed (old new : Hosted) : Type 0 where
  pub stock : new.stock ≡ old.stock
  pub seats : new.seats ≡ old.seats
  pub services : new.services ≡ written_off old.services
  pub seated : AreSeated new.seats new.services
  pub calls : new.calls ≡ old.calls

-- The whole output was written; `sent` bytes were written before, `total` are written now.
pub record IsAllSent (sent : ℕ) (old new : Hosted) (before now : Sink) (total : ℕ) : Type 0 where
  pub count : total ≡ sent + length old.services.outgoing
  pub gains : Appends before.gained now.gained old.services.outgoing
  pub fine : now.failed ≡ before.failed
  pub not_retried : NoWriteRetried before now
  pub is_closed : new.is_closed ≡ old.is_closed

-- A write failed: only the first `taken` bytes of the output were written, and the host is closed.
pub record IsPartSent (sent : ℕ) (old new : Hosted) (before now : Sink) (total : ℕ) : Type 0 where
  pub taken : ℕ
  pub count : total ≡ sent + taken
  pub fewer : taken < length old.services.outgoing
  pub gains : Appends before.gained now.gained (take taken old.services.outgoing)
  pub failed : now.failed ≡ true
  pub not_retried : NoWriteRetried before now
  pub is_closed : new.is_closed ≡ true

-- `IsAllSent` if no write failed, else `IsPartSent`.
abbrev pub IsSent : ℕ → Hosted → Hosted → Sink → Sink → Result ℕ WriteFault → Type 0
IsSent sent old new before now (Ok total) = IsAllSent sent old new before now total
IsSent sent old new before now (Err fault) = IsPartSent sent old new before now fault.sent

-- ---- several writes

-- All output of the model's step was written, and the host is what the step gives.
pub record IsDone (stations : List (Station (List ℕ))) (step : Written (List ℕ)) (last : ℕ) (new : Hosted) (before now : Option (List ℕ)) : Type 0 where
  pub executive : executive_in new ≡ step.0
  pub calls : new.calls ≡ last
  pub gains : Appends before now (concat step.1)
  pub fits : (room : ℕ) → length (concat step.1) ≤ room → stop_at room stations ≡ None

-- A write failed: only the first `sent` bytes of the step's output were written, and the host is the model's at that write (its
-- station).
pub record IsCut (stations : List (Station (List ℕ))) (step : Written (List ℕ)) (sent : ℕ) (new : Hosted) (before now : Option (List ℕ)) : Type 0 where
  pub station : Station (List ℕ)
  pub stops : stop_at sent stations ≡ Some station
  pub executive : executive_in new ≡ station.executive
  pub calls : new.calls ≡ station.calls
  pub gains : Appends before now (take sent (concat step.1))

-- ---- a step or a part of it; `party` may take part in it

-- No write failed: `total` bytes were written, no packet waits, and each spare was a spare before. The result is exact if the
-- party is of this profile.
pub record HandlesAll (party : Party) (stations : List (Station (List ℕ))) (step : Written (List ℕ)) (last total : ℕ) (old new : Hosted) (before now : Sink) : Type 0 where
  pub whole : IsWhole new
  pub quiet : IsQuiet new
  pub stock : All (Contains old.stock) new.stock
  pub is_closed : new.is_closed ≡ old.is_closed
  pub calls : new.calls ≤ most_deliveries
  pub fine : now.failed ≡ before.failed
  pub not_retried : NoWriteRetried before now
  pub known : AreKnown old → AreKnownIn party old → AreKnown new
  pub exact : AreKnownIn party old → IsDone stations step last new before.gained now.gained
  pub count : AreKnownIn party old → total ≡ length (concat step.1)

-- A write failed, and the host is closed.
pub record HandlesPart (party : Party) (stations : List (Station (List ℕ))) (step : Written (List ℕ)) (sent : ℕ) (old new : Hosted) (before now : Sink) : Type 0 where
  pub whole : IsWhole new
  pub stock : All (Contains old.stock) new.stock
  pub is_closed : new.is_closed ≡ true
  pub calls : new.calls ≤ most_deliveries
  pub failed : now.failed ≡ true
  pub not_retried : NoWriteRetried before now
  pub known : AreKnown old → AreKnownIn party old → AreKnown new
  pub exact : AreKnownIn party old → IsCut stations step sent new before.gained now.gained

-- `HandlesAll` if no write failed, else `HandlesPart`.
abbrev pub Handles : Party → List (Station (List ℕ)) → Written (List ℕ) → ℕ → Hosted → Hosted → Sink → Sink → Result ℕ WriteFault → Type 0
Handles party stations step last old new before now (Ok total) = HandlesAll party stations step last total old new before now
Handles party stations step last old new before now (Err fault) = HandlesPart party stations step fault.sent old new before now

-- All waiting packets are delivered.
abbrev pub Drains : Hosted → Hosted → Sink → Sink → Result ℕ WriteFault → Type 0
Drains old new before now result =
    let stations : List (Station (List ℕ)) = delivery_stations on_board old.services.moment 0 most_deliveries (executive_in old) in
    Handles Waiting stations (drained on_board old.services.moment most_deliveries (executive_in old)) (last_calls on_board old.services.moment stations) old new before now result

-- `packet` is published, and all waiting packets are delivered.
abbrev pub PassesOn : List ℕ → Hosted → Hosted → Sink → Sink → Result ℕ WriteFault → Type 0
PassesOn packet old new before now result =
    let stations : List (Station (List ℕ)) = passing_stations on_board old.services.moment packet (executive_in old) in
    Handles (passing packet) stations (passed_on on_board old.services.moment packet (executive_in old)) (last_calls on_board old.services.moment stations) old new before now result
