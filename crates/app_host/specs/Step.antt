-- One step of the host: what it does with one record.
use Rattle.std.specs.Prelude.{◌≡◌, ℕ, ◌≤◌, ⊤, true, false, List, ◌∷◌, length, take, All, Contains, Option, Some, None, Result, Ok, Err}
use Rattle.std.specs.Option.{option_map_or}
use Rattle.std.specs.List.{concat}
use Rattle.std.specs.Io.KnownBytes.{Appends}
use Rattle.lc_model.specs.Name.{name_size}
use Rattle.lc_model.specs.declared.record.Body.{Body}
use Rattle.lc_model.specs.declared.record.Body.TheVariants as body
use Rattle.lc_model.specs.declared.record.Moment.{Moment}
use Rattle.lc_model.specs.Device.{Sink}
use Rattle.lc_model.specs.Packet.{stream_fault, message_id, tick_mid, by_service}
use Rattle.lc_model.specs.Command.{order_in}
use Rattle.lc_model.specs.Host.React.{Input, Packet, Tick, File}
use Rattle.lc_model.specs.Services.Seen.{meaning_of}
use Rattle.lc_model.specs.Kept.Executive.{Executive, Written, most_deliveries, step_by}
use Rattle.lc_model.specs.Kept.Stations.{Station, stations_of, last_calls, host_after, host_step}
use Rattle.app_host.specs.declared.error.WriteFault.{WriteFault}
use Rattle.app_host.specs.Shared.{on_board, at_moment}
use Rattle.app_host.specs.Hosted.{Hosted, in_numbers}
use Rattle.app_host.specs.Whole.{AreKnown, IsWhole, IsQuiet}
use Rattle.app_host.specs.Party.{Party, Hearers, Holders, nobody, scheduled_mids, passing, party_by, AreKnownIn}
use Rattle.app_host.specs.Delivered.{executive_in}
use Rattle.app_host.specs.Writing.{Handles}

-- ---- a record

-- The record as an input of the model; a file means its bytes.
abbrev pub input_by : Body → Input (List ℕ)
input_by (body.Packet bytes) = Packet bytes.now
input_by body.Tick = Tick
input_by (body.File name bytes) = File name.now (length bytes.now) (meaning_of bytes.now)

-- A file's name has at most 40 bytes.
abbrev pub IsNamed : Body → Type 0
IsNamed (body.Packet bytes) = ⊤
IsNamed body.Tick = ⊤
IsNamed (body.File name bytes) = length name.now ≤ name_size

-- The applications that may take part in a packet without a fault: none for event services; those with tables for table services;
-- the named one for executive services; else those subscribed to the packet.
abbrev pub routed_party : List ℕ → Party
routed_party packet =
    by_service (message_id packet) nobody Holders (party_by (order_in packet)) (passing packet)

-- The applications that may take part in a record.
abbrev pub party_of : Input (List ℕ) → Party
party_of (Packet bytes) = option_map_or (λ reason. nobody) (stream_fault bytes) (routed_party bytes)
party_of Tick = Hearers (tick_mid ∷ scheduled_mids)
party_of (File name size meaning) = nobody

-- ---- parts of a step

-- The step has begun: the services have the record's moment, and no call has been made.
pub record StepHasBegun (moment : Moment) (old new : Hosted) : Type 0 where
  pub whole : IsWhole new
  pub stock : new.stock ≡ old.stock
  pub seats : new.seats ≡ old.seats
  pub services : new.services ≡ at_moment moment old.services
  pub is_closed : new.is_closed ≡ old.is_closed
  pub calls : new.calls ≡ 0

-- The input is handled at the services' moment, with the result `result`.
abbrev pub HandlesInput : Input (List ℕ) → Hosted → Hosted → Sink → Sink → Result ℕ WriteFault → Type 0
HandlesInput input old new before now result =
    let e : Executive (List ℕ) = executive_in old in
    let stations : List (Station (List ℕ)) = stations_of on_board old.services.moment e input in
    Handles (party_of input) stations (step_by on_board old.services.moment e input) (last_calls on_board old.services.moment stations) old new before now result

-- ---- the whole step

-- The host between two steps: it is whole, and unless it is closed no packet waits.
pub record IsBetween (h : Hosted) : Type 0 where
  pub whole : IsWhole h
  pub quiet : h.is_closed ≡ false → IsQuiet h

-- A closed host handles no record: it returns `WriteFault` with `sent: 0`, changes nothing and writes nothing.
pub record IsTurnedAway (old new : Hosted) (before now : Sink) (result : Result (Unit {0}) WriteFault) : Type 0 where
  pub answer : result ≡ Err (record { sent = 0 })
  pub host : new ≡ old
  pub sink : now ≡ before

-- The bytes of the packets that this record calls for, by the model.
abbrev pub called_for : Moment → Input (List ℕ) → Hosted → List ℕ
called_for moment input h = let step : Written (List ℕ) = step_by on_board moment (executive_in h) input in concat step.1

-- No write failed, and all that may take part are of this profile: the new host is the model's, and its whole output was written.
pub record StepsSo (moment : Moment) (input : Input (List ℕ)) (old new : Hosted) (before now : Option (List ℕ)) : Type 0 where
  pub host : in_numbers new ≡ host_after on_board moment (in_numbers old) input
  pub gains : Appends before now (called_for moment input old)
  pub room : (room : ℕ) → length (called_for moment input old) ≤ room → host_step on_board moment room (in_numbers old) input ≡ (in_numbers new, None)

-- A write failed after `sent` bytes, and all that may take part are of this profile: the host is the model's at that write, and
-- the first `sent` bytes were written.
pub record StopsSo (moment : Moment) (input : Input (List ℕ)) (sent : ℕ) (old new : Hosted) (before now : Option (List ℕ)) : Type 0 where
  pub host : host_step on_board moment sent (in_numbers old) input ≡ (in_numbers new, Some sent)
  pub gains : Appends before now (take sent (called_for moment input old))

-- No write failed: the host is open, each spare was a spare before, and at most 520 calls were made. The new host and the output
-- are exact if all that may take part are of this profile.
pub record StepsWhole (moment : Moment) (input : Input (List ℕ)) (old new : Hosted) (before now : Sink) : Type 0 where
  pub is_open : new.is_closed ≡ false
  pub stock : All (Contains old.stock) new.stock
  pub few : new.calls ≤ most_deliveries
  pub fine : now.failed ≡ before.failed
  pub known : AreKnown old → AreKnownIn (party_of input) old → AreKnown new
  pub exact : AreKnownIn (party_of input) old → StepsSo moment input old new before.gained now.gained

-- A write failed after `sent` bytes: the host is closed, each spare was a spare before, and at most 520 calls were made. The
-- host and the output are exact if all that may take part are of this profile.
pub record StepsPart (moment : Moment) (input : Input (List ℕ)) (sent : ℕ) (old new : Hosted) (before now : Sink) : Type 0 where
  pub is_closed : new.is_closed ≡ true
  pub stock : All (Contains old.stock) new.stock
  pub few : new.calls ≤ most_deliveries
  pub failed : now.failed ≡ true
  pub known : AreKnown old → AreKnownIn (party_of input) old → AreKnown new
  pub exact : AreKnownIn (party_of input) old → StopsSo moment input sent old new before.gained now.gained

-- The result without the number of bytes.
abbrev pub without_count : Result ℕ WriteFault → Result (Unit {0}) WriteFault
without_count (Ok total) = Ok tt
without_count (Err fault) = Err fault

-- If all that may take part are of this profile, `total` is the number of bytes that the record calls for.
abbrev pub Counts : Moment → Input (List ℕ) → Hosted → Result ℕ WriteFault → Type 0
Counts moment input old (Ok total) = AreKnownIn (party_of input) old → total ≡ length (called_for moment input old)
Counts moment input old (Err fault) = ⊤

-- `StepsWhole` if no write failed, else `StepsPart`.
abbrev pub Steps : Moment → Input (List ℕ) → Hosted → Hosted → Sink → Sink → Result (Unit {0}) WriteFault → Type 0
Steps moment input old new before now (Ok done) = StepsWhole moment input old new before now
Steps moment input old new before now (Err fault) = StepsPart moment input fault.sent old new before now
