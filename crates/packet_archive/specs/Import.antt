-- The records that the packets of an archive become. This project's own.
use Rattle.std.specs.Prelude.{◌≡◌, ℕ, zero, suc, ◌+◌, ◌*◌, ◌%◌, ◌<◌, ◌≤◌, Bool, true, false, List, [], ◌∷◌, ◌++◌, length, take, drop, Option, Some, None}
use Rattle.lc_model.specs.Bytes.{u16, u16_at, u32}
use Rattle.lc_model.specs.Packet.{count_end, message_id}
use Rattle.lc_model.specs.declared.record.Moment.{Moment}
use Rattle.packet_archive.specs.declared.choice.Fate.{Fate}
use Rattle.packet_archive.specs.declared.choice.Fate.TheVariants.{Kept}
use Rattle.packet_archive.specs.declared.clock.Times.{Times}
use Rattle.packet_archive.specs.declared.import.Met.{Met}
use Rattle.packet_archive.specs.declared.import.Met.TheVariants.{Taken, LeftOut, Stands}
use Rattle.packet_archive.specs.declared.front.ArchiveFront.{ArchiveFront}
use Rattle.packet_archive.specs.declared.front.ArchiveFront.TheVariants.{Over, Gap, Cut, Stray, Packet}
use Rattle.packet_archive.specs.declared.front.Resync.{Resync}
use Rattle.packet_archive.specs.declared.front.Resync.TheVariants.{Never, Within, AtEnd}
use Rattle.packet_archive.specs.Choice.{Chosen, fate_of}
use Rattle.packet_archive.specs.Clock.{Clocked, break_at, moment_by, next_count, next_tick, tick_before, ticks_due}
use Rattle.packet_archive.specs.Front.{front_by}

-- a record in bytes: its kind, its moment, the length of its body, and the body
abbrev pub record_bytes : ℕ → Moment → List ℕ → List ℕ
record_bytes kind moment body = kind ∷ u32 moment.seconds ++ u16 moment.subseconds ++ u32 (length body) ++ body

-- the kinds of records that bring a packet and a tick
abbrev pub packet_kind : ℕ
packet_kind = 1

abbrev pub tick_kind : ℕ
tick_kind = 2

-- a number of ticks, one every `period` seconds from this second on
unfoldable pub ticks : ℕ → ℕ → ℕ → List ℕ
ticks zero period second = []
ticks (suc count) period second =
    record_bytes tick_kind (record { seconds = second; subseconds = 0 }) [] ++ ticks count period (second + period)

-- the ticks that are due up to this second
abbrev pub ticks_before : ℕ → Option ℕ → ℕ → List ℕ
ticks_before period None second = []
ticks_before period (Some next) second = ticks (ticks_due period (Some next) second) period next

-- the next tick as a packet of this moment finds it
abbrev pub tick_at : Clocked → Moment → Option ℕ
tick_at clock moment = tick_before clock.period clock.next moment.seconds

-- what a packet of this moment becomes: the ticks before it, and its own record
abbrev pub records_at : Clocked → Moment → List ℕ → List ℕ
records_at clock moment packet =
    ticks_before clock.period (tick_at clock moment) moment.seconds ++ record_bytes packet_kind moment packet

-- the clock after the packet
abbrev pub clock_at : Clocked → Moment → Clocked
clock_at clock moment = record {
  period = clock.period;
  last = moment;
  count = next_count clock.count;
  next = next_tick clock.period (tick_at clock moment) moment.seconds;
}

-- the options of an import: whether the archive has markers, what it does where no packet stands, which packets become records, and
-- the source of their times
pub record Asking : Type 0 where
  pub marked : Bool
  pub resync : Resync
  pub chosen : Chosen
  pub times : Times

-- a step: what is met at the front of the rest, what is written for it, and the clock after it
pub record Step : Type 0 where
  pub met : Met
  pub written : List ℕ
  pub clock : Clocked

-- a step in which nothing becomes a record
abbrev pub nothing : Met → Clocked → Step
nothing met clock = record { met = met; written = []; clock = clock }

-- the sequence count of a packet (CCSDS 133.0-B)
abbrev pub sequence_count : List ℕ → ℕ
sequence_count packet = u16_at packet 2 % count_end

-- a step with a packet that becomes a record, after `before` bytes of its marker; `size` is its size with its marker
abbrev pub kept_at : ℕ → ℕ → Clocked → Moment → List ℕ → Step
kept_at before size clock moment packet =
    record { met = Taken size before (message_id packet) (sequence_count packet) (break_at clock moment); written = records_at clock moment packet; clock = clock_at clock moment }

-- a step with a packet after `before` bytes of its marker, by what becomes of it; `size` is its size with its marker
abbrev pub by_fate : Fate → Asking → ℕ → ℕ → Clocked → List ℕ → Step
by_fate Kept asking before size clock packet = kept_at before size clock (moment_by asking.times clock packet) packet
by_fate fate asking before size clock packet = nothing (LeftOut size before fate) clock

-- a step, by what is in front
abbrev pub by_front : ArchiveFront → Asking → Clocked → List ℕ → Step
by_front (Packet before size) asking clock bytes =
    let packet : List ℕ = take size (drop before bytes) in
    by_fate (fate_of asking.chosen packet) asking before (before + size) clock packet
by_front front asking clock bytes = nothing (Stands front) clock

-- what stands in front for an import
abbrev pub front_for : Asking → List ℕ → ArchiveFront
front_for asking bytes = front_by asking.resync asking.marked bytes

-- what an import makes of what is in front
abbrev pub next_step : Asking → Clocked → List ℕ → Step
next_step asking clock bytes = by_front (front_for asking bytes) asking clock bytes

-- the number of bytes that a step passes; none if the import stops there
abbrev pub passed : Met → Option ℕ
passed (Taken size before mid count time_break) = Some size
passed (LeftOut size before fate) = Some size
passed (Stands (Gap size)) = Some size
passed (Stands Stray) = Some 1
passed met = None

-- the state of an import: what it wrote, the clock, the rest of the archive, and what it met there
pub record Imported : Type 0 where
  pub written : List ℕ
  pub clock : Clocked
  pub left : List ℕ
  pub met : Met

-- an import that continues after the bytes that a step passed, or ends there
abbrev pub going_on : (Clocked → List ℕ → Imported) → Step → List ℕ → Option ℕ → Imported
going_on others step bytes None = record { written = step.written; clock = step.clock; left = bytes; met = step.met }
going_on others step bytes (Some size) =
    let rest : Imported = others step.clock (drop size bytes) in
    record { written = step.written ++ rest.written; clock = rest.clock; left = rest.left; met = rest.met }

-- an import of at most this number of steps
unfoldable pub imported_within : ℕ → Asking → Clocked → List ℕ → Imported
imported_within zero asking clock bytes = record { written = []; clock = clock; left = bytes; met = Stands Over }
imported_within (suc most) asking clock bytes =
    let step : Step = next_step asking clock bytes in
    going_on (imported_within most asking) step bytes (passed step.met)

-- what an archive becomes: each step passes a byte at least
abbrev pub imported : Asking → Clocked → List ℕ → Imported
imported asking clock bytes = imported_within (length bytes + 1) asking clock bytes

-- an import that adds to what was written before
abbrev pub behind : List ℕ → Imported → Imported
behind gained rest = record { written = gained ++ rest.written; clock = rest.clock; left = rest.left; met = rest.met }

-- whether more bytes may make more of what stands in front
abbrev pub may_go_on : Met → Bool
may_go_on (Stands Over) = true
may_go_on (Stands Cut) = true
may_go_on met = false

-- the same options, but for what is done where no packet stands
abbrev pub with_resync : Resync → Asking → Asking
with_resync resync asking = record { marked = asking.marked; resync = resync; chosen = asking.chosen; times = asking.times }

-- whether the next piece may be imported so after one that was imported so: as before, or as the last piece
abbrev pub follows : Resync → Resync → Bool
follows Never Never = true
follows Within Within = true
follows Within AtEnd = true
follows first next = false

-- an archive that comes in pieces becomes what it becomes as a whole: what is left of the first goes in front of the next
abbrev pub ImportsInPieces : Type 0
ImportsInPieces = (asking : Asking) (last : Resync) (clock : Clocked) (first next : List ℕ) →
    follows asking.resync last ≡ true → may_go_on (imported asking clock first).met ≡ true →
    imported (with_resync last asking) clock (first ++ next)
    ≡ behind (imported asking clock first).written
    (imported (with_resync last asking) (imported asking clock first).clock ((imported asking clock first).left ++ next))

-- there is a next tick: after this second, and at most two periods after it
abbrev pub ComesSoon : ℕ → ℕ → Option ℕ → Type 0
ComesSoon period second None = ⊥
ComesSoon period second (Some tick) = (second < tick) × (tick ≤ second + 2 * period)

-- where ticks come they go on: after each packet taken, whatever its time and that of the packet before it, the next one comes soon
abbrev pub TicksGoOn : Type 0
TicksGoOn = (clock : Clocked) (moment : Moment) → 0 < clock.period → ComesSoon clock.period moment.seconds (clock_at clock moment).next
