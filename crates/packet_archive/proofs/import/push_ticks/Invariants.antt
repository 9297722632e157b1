use Rattle.std.proofs.Common.{◌≡◌, ◌+◌, ◌-◌, ◌++◌, Some}
use Rattle.packet_archive.specs.Clock.{ticks_due}
use Rattle.packet_archive.specs.Import.{ticks}
use Rattle.packet_archive.proofs.import.push_ticks.Given as goal

abbrev pub invariant-loop-next : goal.invariant-loop-next
invariant-loop-next l =
    l.out.items ++ ticks (ticks_due l.period (Some l.next) l.second) l.period l.next
    ≡ l.fn.out.items ++ ticks (ticks_due l.fn.period (Some l.fn.first) l.fn.second) l.fn.period l.fn.first

abbrev pub decreases-loop-next : goal.decreases-loop-next
decreases-loop-next l = l.second + 1 - l.next
