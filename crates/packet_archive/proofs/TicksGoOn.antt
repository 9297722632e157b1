-- Ticks go on after each packet.
use Rattle.std.proofs.Common.{◌≡◌, refl, sym, ℕ, ◌+◌, ◌-◌, ◌*◌, ◌/◌, ◌%◌, ◌<◌, ◌≤◌, Bool, true, false, ◌==◌, ◌||◌, nat_lt, if◌then◌else◌, Option, Some, None, arith}
use Rattle.std.proofs.lemmas.Nat.{div-add-mod'}
use Rattle.std.proofs.Math.Nat.{mod-lt}
use Rattle.packet_archive.specs.Clock.{is_leap, next_tick, tick_before}
use Rattle.packet_archive.specs.Import.{ComesSoon, TicksGoOn}

module _ (period second : ℕ) (some : 0 < period) where
  there : (period == 0) ≡ false
  there = grind (arith, some)

  -- a period after a first packet
  begun : ComesSoon period second (next_tick period None second)
  begun = rw there (omega (arith, some), omega (arith, some))

  -- after the ticks that are due
  due : (next : ℕ) → next ≤ second + 2 * period → ComesSoon period second (next_tick period (Some next) second)
  due next near = rw there (by_test (nat_lt second next) refl)
    where
      by_test : (b : Bool) → nat_lt second next ≡ b → ComesSoon period second (Some (next + (if b then 0 else (second - next) / period + 1) * period))
      by_test true later =
          let after : second < next = grind (arith, later) in
          (omega (arith, after), omega (arith, near))
      by_test false now =
          let passed : next ≤ second = grind (arith, now) in
          let parts : second - next ≡ (second - next) / period * period + (second - next) % period = sym (div-add-mod' (second - next) period) in
          let less : (second - next) % period < period = mod-lt (second - next) some in
          let whole : ((second - next) / period + 1) * period ≡ (second - next) / period * period + period = omega arith in
          (omega (arith, parts, less, whole, passed), omega (arith, parts, less, whole, passed))

  soon : (next : Option ℕ) → ComesSoon period second (next_tick period (tick_before period next second) second)
  soon None = begun
  soon (Some next) = by_tests (is_leap period (Some next) second) (nat_lt (second + 2 * period) next) refl
    where
      by_tests : (leaps far : Bool) → nat_lt (second + 2 * period) next ≡ far →
          ComesSoon period second (next_tick period (if leaps || far then None else Some next) second)
      by_tests true far is = begun
      by_tests false true is = begun
      by_tests false false is = let near : next ≤ second + 2 * period = grind (arith, is) in due next near

pub ticks_go_on : TicksGoOn
ticks_go_on clock moment some = soon clock.period moment.seconds some clock.next
