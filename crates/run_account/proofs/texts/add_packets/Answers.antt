use Rattle.run_account.proofs.texts.add_packets.Goals as goal
use Rattle.run_account.proofs.texts.add_packets.Goals.{in-Packet+in_ok-push_mid, in_default}
use Rattle.std.proofs.Common.{◌≡◌, subst, sym}
use Rattle.std.specs.List.{AllByRecursion}
use Rattle.run_account.specs.declared.packets.PacketCount.{PacketCount}

pub loop-item-preserved : goal.loop-item-preserved
loop-item-preserved c = λ none.
    elim c.match-item.branch [
      | in-Packet+in_ok-push_mid w ↦ subst (λ counts. AllByRecursion (λ (count : PacketCount). count.packets ≡ 0) counts.items) (sym w.counts-is) (w.in_ok-push_mid.ensures (c.loop-item.invariant none))
      | in_default w ↦ subst (λ counts. AllByRecursion (λ (count : PacketCount). count.packets ≡ 0) counts.items) (sym w.counts-is) (c.loop-item.invariant none)
    ]
