use Rattle.std.proofs.Common.{◌≡◌, refl, sym, subst, ◌+◌, ◌++◌, Some, arith}
use Rattle.packet_archive.specs.Clock.{ticks_due}
use Rattle.packet_archive.specs.Import.{ticks}
use Rattle.packet_archive.proofs.Ticks.{one_written, all_written}
use Rattle.packet_archive.proofs.import.push_ticks.Goals as goal

pub loop-next-init : goal.loop-next-init
loop-next-init c = refl

pub loop-next-preserved : goal.loop-next-preserved
loop-next-preserved c =
    subst (λ p. c.push_record.new.out.items ++ ticks (ticks_due c.args.period (Some (c.loop-next.next + p)) c.args.second) c.args.period (c.loop-next.next + p)
    ≡ c.args.out.now.items ++ ticks (ticks_due c.args.period (Some c.args.first) c.args.second) c.args.period c.args.first) (sym c.from-next.ensures)
    (one_written c.args.period c.loop-next.next c.args.second c.loop-next.out.items c.push_record.new.out.items _ c.requires.0
    (omega (arith, c.loop-next-test.true, c.from.ensures)) c.in_ok-push_record.ensures c.loop-next.invariant)

pub returns : goal.returns
returns c = record { ticks = all_written c.args.period c.loop-next.next c.args.second c.loop-next.out.items _ c.requires.0 (omega (arith, c.loop-next-test.false, c.from.ensures)) c.loop-next.invariant }
