use Rattle.std.proofs.Common.{sym, subst, ℕ, ◌+◌, length, List, rules}
use Rattle.packet_archive.specs.Import.{imported}
use Rattle.packet_archive.specs.Tally.{tallied}
use Rattle.packet_archive.proofs.Counting.{Counting, ended as counted_all, one_more as counted_more, over as all_counted}
use Rattle.packet_archive.proofs.Importing.{Importing, one_more, ended, over}
use Rattle.packet_archive.proofs.import.import_held.Goals as goal

pub returns-in-None-clause-written : goal.returns-in-None-clause-written
returns-in-None-clause-written c =
    (ended c.args.asked.now (imported c.args.asked.now c.args.clock.now c.args.bytes.now) c.args.out.now.items c.loop.counter (length c.args.bytes.now + 1) c.loop.out.items c.loop.clock c.loop.left.now
    c.import_next.new.out.items c.import_next.new.clock c.in_ok-met.met c.loop.invariant.imports (search rules) c.in_ok-met.ensures.written c.in_ok-met.ensures.clock c.in_ok-met.ensures.met (search rules)).all_written

pub returns-in-None-clause-clock : goal.returns-in-None-clause-clock
returns-in-None-clause-clock c =
    (ended c.args.asked.now (imported c.args.asked.now c.args.clock.now c.args.bytes.now) c.args.out.now.items c.loop.counter (length c.args.bytes.now + 1) c.loop.out.items c.loop.clock c.loop.left.now
    c.import_next.new.out.items c.import_next.new.clock c.in_ok-met.met c.loop.invariant.imports (search rules) c.in_ok-met.ensures.written c.in_ok-met.ensures.clock c.in_ok-met.ensures.met (search rules)).same_clock

pub returns-in-None-clause-left : goal.returns-in-None-clause-left
returns-in-None-clause-left c =
    (ended c.args.asked.now (imported c.args.asked.now c.args.clock.now c.args.bytes.now) c.args.out.now.items c.loop.counter (length c.args.bytes.now + 1) c.loop.out.items c.loop.clock c.loop.left.now
    c.import_next.new.out.items c.import_next.new.clock c.in_ok-met.met c.loop.invariant.imports (search rules) c.in_ok-met.ensures.written c.in_ok-met.ensures.clock c.in_ok-met.ensures.met (search rules)).same_left

pub returns-in-None-clause-met : goal.returns-in-None-clause-met
returns-in-None-clause-met c =
    (ended c.args.asked.now (imported c.args.asked.now c.args.clock.now c.args.bytes.now) c.args.out.now.items c.loop.counter (length c.args.bytes.now + 1) c.loop.out.items c.loop.clock c.loop.left.now
    c.import_next.new.out.items c.import_next.new.clock c.in_ok-met.met c.loop.invariant.imports (search rules) c.in_ok-met.ensures.written c.in_ok-met.ensures.clock c.in_ok-met.ensures.met (search rules)).same_met

pub returns-in-None-clause-counted : goal.returns-in-None-clause-counted
returns-in-None-clause-counted c =
    counted_all c.args.asked.now _ c.loop.counter (length c.args.bytes.now + 1) c.loop.clock c.loop.left.now c.loop.tally c.loop.invariant.counts (search rules)
    c.in_ok-met.met c.note.new.self c.in_ok-met.ensures.met c.note.ensures (search rules)

pub loop-preserved : goal.loop-preserved
loop-preserved c = record {
  imports =
      subst (λ (left : List ℕ). Importing c.args.asked.now (imported c.args.asked.now c.args.clock.now c.args.bytes.now) c.args.out.now.items (c.loop.counter + 1) (length c.args.bytes.now + 1) c.import_next.new.out.items c.import_next.new.clock left)
      (sym c.split_at.ensures.back)
      (one_more c.args.asked.now (imported c.args.asked.now c.args.clock.now c.args.bytes.now) c.args.out.now.items c.loop.counter (length c.args.bytes.now + 1) c.loop.out.items c.loop.clock c.loop.left.now
      c.import_next.new.out.items c.import_next.new.clock c.in_ok-met.met c.loop.invariant.imports (search rules) c.in_ok-met.ensures.written c.in_ok-met.ensures.clock c.in_ok-met.ensures.met _ (search rules));
  counts =
      subst (λ (left : List ℕ). Counting c.args.asked.now (tallied c.args.asked.now c.args.clock.now c.args.bytes.now c.args.tally.now) (c.loop.counter + 1) (length c.args.bytes.now + 1) c.import_next.new.clock left c.note.new.self)
      (sym c.split_at.ensures.back)
      (counted_more c.args.asked.now _ c.loop.counter (length c.args.bytes.now + 1) c.loop.clock c.loop.left.now c.loop.tally c.loop.invariant.counts (search rules)
      c.in_ok-met.met c.note.new.self c.in_ok-met.ensures.met c.note.ensures c.import_next.new.clock _ c.in_ok-met.ensures.clock (search rules));
}

pub returns-clause-written : goal.returns-clause-written
returns-clause-written c =
    (over c.args.asked.now (imported c.args.asked.now c.args.clock.now c.args.bytes.now) c.args.out.now.items c.loop.counter (length c.args.bytes.now + 1) c.loop.out.items c.loop.clock c.loop.left.now c.loop.invariant.imports (search rules)).all_written

pub returns-clause-clock : goal.returns-clause-clock
returns-clause-clock c =
    (over c.args.asked.now (imported c.args.asked.now c.args.clock.now c.args.bytes.now) c.args.out.now.items c.loop.counter (length c.args.bytes.now + 1) c.loop.out.items c.loop.clock c.loop.left.now c.loop.invariant.imports (search rules)).same_clock

pub returns-clause-left : goal.returns-clause-left
returns-clause-left c =
    (over c.args.asked.now (imported c.args.asked.now c.args.clock.now c.args.bytes.now) c.args.out.now.items c.loop.counter (length c.args.bytes.now + 1) c.loop.out.items c.loop.clock c.loop.left.now c.loop.invariant.imports (search rules)).same_left

pub returns-clause-met : goal.returns-clause-met
returns-clause-met c =
    (over c.args.asked.now (imported c.args.asked.now c.args.clock.now c.args.bytes.now) c.args.out.now.items c.loop.counter (length c.args.bytes.now + 1) c.loop.out.items c.loop.clock c.loop.left.now c.loop.invariant.imports (search rules)).same_met

pub returns-clause-counted : goal.returns-clause-counted
returns-clause-counted c =
    all_counted c.args.asked.now _ c.loop.counter (length c.args.bytes.now + 1) c.loop.clock c.loop.left.now c.loop.tally c.loop.invariant.counts (search rules)
