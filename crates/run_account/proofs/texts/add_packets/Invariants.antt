use Rattle.std.proofs.Common.{◌≡◌}
use Rattle.std.specs.List.{AllByRecursion}
use Rattle.run_account.specs.declared.packets.PacketCount.{PacketCount}
use Rattle.run_account.proofs.texts.add_packets.Given as goal

abbrev pub invariant-loop-item : goal.invariant-loop-item
invariant-loop-item l = AllByRecursion (λ (count : PacketCount). count.packets ≡ 0) l.fn.counts.items → AllByRecursion (λ (count : PacketCount). count.packets ≡ 0) l.counts.items
