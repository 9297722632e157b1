-- The content of the packets that a host writes: events and housekeeping as in the cFE and Limit Checker user's
-- guides, and requests for command sequences. Which packets are read is this project's own.
use Rattle.std.specs.Prelude.{ℕ, ◌&&◌, ◌==◌, Bool, not, List, drop, length, nat_le, nat_lt, slice_range, Option, Some, None, if◌then◌else◌}
use Rattle.lc_model.specs.declared.mode.LcMode.{LcMode}
use Rattle.lc_model.specs.declared.record.Moment.{Moment}
use Rattle.lc_model.specs.declared.rule.EventKind.{EventKind}
use Rattle.lc_model.specs.Bytes.{u16_at, u32_at}
use Rattle.lc_model.specs.Codes.{event_numbered}
use Rattle.lc_model.specs.Command.{mode_numbered}
use Rattle.lc_model.specs.Name.{name_in}
use Rattle.lc_model.specs.Packet.{event_mid, lc_housekeeping_mid, message_id, sequence_mid}
use Rattle.packet_listing.specs.declared.sent.Event.{Event as HeldEvent}
use Rattle.packet_listing.specs.declared.sent.Sent.{Sent}
use Rattle.packet_listing.specs.declared.sent.Sent.TheVariants as held

-- A request for the command sequence with this number; an event with its moment, sender, id, type and text; the Limit
-- Checker's state: its mode, its number of rules, and the bytes from 16 on, one for each rule.
pub data Told : Type 0 where
  Request : (sequence : ℕ) → Told
  Event : (moment : Moment) (sender : List ℕ) (id : ℕ) (kind : EventKind) (text : List ℕ) → Told
  Housekeeping : (mode : LcMode) (count : ℕ) (rules : List ℕ) → Told

-- the program's event as content of a packet
abbrev pub event_of : HeldEvent → Told
event_of e = Event e.moment e.sender.now e.id e.kind e.text.now

abbrev pub told_of : Sent → Told
told_of (held.Request sequence) = Request sequence
told_of (held.Event event) = event_of event
told_of (held.Housekeeping mode count rules) = Housekeeping mode count rules.now

-- the length of a request, of an event, and of housekeeping before the bytes of the rules
abbrev pub request_size : ℕ
request_size = 12

abbrev pub event_size : ℕ
event_size = 168

abbrev pub before_rules : ℕ
before_rules = 16

-- ---- an event

-- an event of this type, if the type is known
abbrev pub event_by : List ℕ → Option EventKind → Option Told
event_by packet None = None
event_by packet (Some kind) =
    Some (Event (record { seconds = u32_at packet 6; subseconds = u16_at packet 10 }) (name_in (slice_range packet 12 32)) (u16_at packet 32) kind
    (name_in (slice_range packet 44 166)))

abbrev pub event_told : List ℕ → Option Told
event_told packet = if length packet == event_size then event_by packet (event_numbered (u16_at packet 34)) else None

-- ---- housekeeping

abbrev pub housekeeping_by : List ℕ → Option LcMode → Option Told
housekeeping_by packet None = None
housekeeping_by packet (Some mode) = Some (Housekeeping mode (u16_at packet 14) (drop before_rules packet))

-- ---- any packet

-- the content of a packet, if it is one of these
abbrev pub told_in : List ℕ → Option Told
told_in packet =
    if nat_lt (length packet) request_size then None
    else if message_id packet == sequence_mid then Some (Request (u16_at packet 8))
    else if message_id packet == event_mid then event_told packet
    else if message_id packet == lc_housekeeping_mid && nat_le before_rules (length packet) then
    housekeeping_by packet (mode_numbered (u16_at packet 12))
    else None
