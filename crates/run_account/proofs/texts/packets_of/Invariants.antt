use Rattle.std.proofs.Common.{◌≡◌}
use Rattle.std.specs.List.{AllByRecursion}
use Rattle.run_account.specs.declared.packets.PacketCount.{PacketCount}
use Rattle.run_account.proofs.texts.packets_of.Given as goal

abbrev pub invariant-loop-text : goal.invariant-loop-text
invariant-loop-text l = AllByRecursion (λ (count : PacketCount). count.packets ≡ 0) l.counts.items
