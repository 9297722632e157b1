-- A packet in front that becomes a record.
use Rattle.std.proofs.Common.{◌≡◌, refl, sym, ◌∙◌, ap, ℕ, ◌+◌, List, ◌++◌, take, drop, append_assoc, Option}
use Rattle.lc_model.specs.declared.record.Moment.{Moment}
use Rattle.packet_archive.specs.declared.choice.Fate.TheVariants.{Kept}
use Rattle.packet_archive.specs.declared.clock.Times.{Times}
use Rattle.packet_archive.specs.declared.front.ArchiveFront.TheVariants.{Packet}
use Rattle.packet_archive.specs.Choice.{fate_of}
use Rattle.packet_archive.specs.Clock.{Clocked, moment_by, tick_before}
use Rattle.packet_archive.specs.Import.{Asking, Step, front_for, kept_at, next_step, packet_kind, record_bytes, records_at, ticks_before}

pub in_front : (asking : Asking) (clock : Clocked) (bytes : List ℕ) (before size : ℕ) (packet : List ℕ) (times : Times) →
    times ≡ asking.times → Packet before size ≡ front_for asking bytes → packet ≡ take size (drop before bytes) → Kept ≡ fate_of asking.chosen packet →
    kept_at before (before + size) clock (moment_by times clock packet) packet ≡ next_step asking clock bytes
in_front asking clock bytes before size packet times its stands is kept = rw (sym stands, sym is, sym kept, sym its) refl

pub written_so : (asking : Asking) (clock : Clocked) (bytes out after : List ℕ) (step : Step) →
    step ≡ next_step asking clock bytes → after ≡ out ++ step.written → after ≡ out ++ (next_step asking clock bytes).written
written_so asking clock bytes out after step is written = written ∙ ap (λ (s : Step). out ++ s.written) is

pub clock_so : (asking : Asking) (clock after : Clocked) (bytes : List ℕ) (step : Step) →
    step ≡ next_step asking clock bytes → after ≡ step.clock → after ≡ (next_step asking clock bytes).clock
clock_so asking clock after bytes step is stands = stands ∙ ap (λ (s : Step). s.clock) is

-- the ticks before a packet and its record are written
pub records_so : (clock : Clocked) (moment now : Moment) (tick : Option ℕ) (packet out due after : List ℕ) → now ≡ moment →
    tick ≡ tick_before clock.period clock.next now.seconds → due ≡ out ++ ticks_before clock.period tick now.seconds →
    after ≡ due ++ record_bytes packet_kind now packet → after ≡ out ++ records_at clock moment packet
records_so clock moment now tick packet out due after is ticked before written =
    written
    ∙ ap (λ (front : List ℕ). front ++ record_bytes packet_kind now packet) before
    ∙ append_assoc out (ticks_before clock.period tick now.seconds) (record_bytes packet_kind now packet)
    ∙ ap (λ (t : Option ℕ). out ++ (ticks_before clock.period t now.seconds ++ record_bytes packet_kind now packet)) ticked
    ∙ ap (λ (m : Moment). out ++ records_at clock m packet) is
