-- When a packet of an archive came, which ticks come before it, and where time breaks. This project's own.
use Rattle.std.specs.Prelude.{ℕ, ◌+◌, ◌-◌, ◌*◌, ◌/◌, ◌%◌, ◌^◌, Bool, not, ◌&&◌, ◌||◌, ◌==◌, List, length, min, nat_lt, nat_le, ◌<◌, IfSome, Option, Some, None, if◌then◌else◌}
use Rattle.lc_model.specs.Bytes.{u16_at, u32_at}
use Rattle.lc_model.specs.Packet.{is_command}
use Rattle.lc_model.specs.declared.record.Moment.{Moment}
use Rattle.packet_archive.specs.declared.clock.TimeBreak.{TimeBreak}
use Rattle.packet_archive.specs.declared.clock.Times.{Times}
use Rattle.packet_archive.specs.declared.clock.Times.TheVariants.{Header, Steps}

-- where the clock stands: how many seconds lie between ticks (0: there are none), the last packet's moment, how many packets came,
-- and the second of the next tick, once a packet came
pub record Clocked : Type 0 where
  pub period : ℕ
  pub last : Moment
  pub count : ℕ
  pub next : Option ℕ

-- before the first packet
abbrev pub stopped : ℕ → Clocked
stopped period = record { period = period; last = record { seconds = 0; subseconds = 0 }; count = 0; next = None }

-- the parts of a second
abbrev pub parts : ℕ
parts = 65536

-- seconds begin again at this number
abbrev pub seconds_end : ℕ
seconds_end = 4294967296

-- whether a packet has a time of its own at this byte, which isn't before the epoch
abbrev pub has_time : ℕ → ℕ → List ℕ → Bool
has_time at epoch packet = not (is_command packet) && nat_le (at + 6) (length packet) && nat_le epoch (u32_at packet at)

-- the parts of a second in which a step is said
abbrev pub millionths : ℕ
millionths = 1000000

-- the moment after this number of steps of so many millionths of a second: their product, rounded down once
abbrev pub moment_after : ℕ → ℕ → Moment
moment_after step steps = record {
  seconds = steps * step / millionths % seconds_end;
  subseconds = steps * step % millionths * parts / millionths;
}

-- the number of packets with the next one; it stops at 2^64 - 1
abbrev pub next_count : ℕ → ℕ
next_count count = min (count + 1) (2 ^ 64 - 1)

-- The moment of the next packet: that of its secondary header, seconds since the epoch and the upper 16 bits of the part of a
-- second; where it has none, the moment of the packet before. Or, without times, that after as many steps as there are packets.
abbrev pub moment_by : Times → Clocked → List ℕ → Moment
moment_by (Header at epoch) clock packet =
    if has_time at epoch packet then record { seconds = u32_at packet at - epoch; subseconds = u16_at packet (at + 4) } else clock.last
moment_by (Steps step) clock packet = moment_after step (next_count clock.count)

-- how many ticks are due up to this second, where the next one is at that second and one comes every `period` seconds
abbrev pub ticks_due : ℕ → Option ℕ → ℕ → ℕ
ticks_due period None second = 0
ticks_due period (Some next) second =
    if period == 0 || nat_lt second next then 0 else (second - next) / period + 1

-- when the next one is due then: a period after the first packet, and after the last tick
abbrev pub next_tick : ℕ → Option ℕ → ℕ → Option ℕ
next_tick period None second = if period == 0 then None else Some (second + period)
next_tick period (Some next) second = Some (next + ticks_due period (Some next) second * period)

-- the most ticks between two packets: a day of one each second
abbrev pub most_ticks : ℕ
most_ticks = 86400

-- there is a next tick only if ticks come, and it is at most a period after the last second
abbrev pub IsNextTick : ℕ → Option ℕ → Type 0
IsNextTick period next = IfSome next (λ second. (0 < period) × (second < seconds_end + period))

-- ---- where time breaks

-- a moment in 65,536ths of a second
abbrev pub elapsed : Moment → ℕ
elapsed moment = moment.seconds * parts + moment.subseconds

-- whether a moment is before another
abbrev pub is_before : Moment → Moment → Bool
is_before moment other = nat_lt (elapsed moment) (elapsed other)

-- whether time leaps: too many ticks would come up to this second
abbrev pub is_leap : ℕ → Option ℕ → ℕ → Bool
is_leap period next second = nat_lt most_ticks (ticks_due period next second)

-- The break in time at a packet of this moment: it is before that of the packet taken last, or time leaps.
abbrev pub break_at : Clocked → Moment → Option TimeBreak
break_at clock moment =
    if is_before moment clock.last || is_leap clock.period clock.next moment.seconds then Some (record { from = clock.last; to = moment }) else None

-- whether a tick is over two periods after this second
abbrev pub is_far : ℕ → ℕ → ℕ → Bool
is_far period tick second = nat_lt (second + 2 * period) tick

-- The next tick as a packet of this second finds it. There is none, and ticks begin anew as at a first packet, where time leaps, or where
-- it stepped back so far that the tick would come over two periods after the packet. So no tick comes twice because packets are out of
-- order by less than a period.
abbrev pub tick_before : ℕ → Option ℕ → ℕ → Option ℕ
tick_before period None second = None
tick_before period (Some next) second =
    if is_leap period (Some next) second || is_far period next second then None else Some next
