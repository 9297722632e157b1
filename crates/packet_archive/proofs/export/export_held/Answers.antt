use Rattle.std.proofs.Common.{rules, sym, subst, ◌+◌}
use Rattle.packet_archive.proofs.Exporting.{Exporting, ended, one_more, over}
use Rattle.packet_archive.proofs.export.export_held.Goals as goal

pub returns-in-None-clause-left : goal.returns-in-None-clause-left
returns-in-None-clause-left c =
    (ended c.args.bytes.now c.args.out.now.items c.loop.counter c.loop.out.items c.loop.left.now c.loop.invariant.exports
    c.in_ok-front.front c.export_next.new.out.items c.in_ok-front.ensures.stands c.in_ok-front.ensures.reads c.in_ok-front.ensures.written (search rules)).is_left

pub returns-in-None-clause-stands : goal.returns-in-None-clause-stands
returns-in-None-clause-stands c =
    (ended c.args.bytes.now c.args.out.now.items c.loop.counter c.loop.out.items c.loop.left.now c.loop.invariant.exports
    c.in_ok-front.front c.export_next.new.out.items c.in_ok-front.ensures.stands c.in_ok-front.ensures.reads c.in_ok-front.ensures.written (search rules)).stands

pub loop-preserved : goal.loop-preserved
loop-preserved c = record {
  exports =
      subst (Exporting c.args.bytes.now c.args.out.now.items (c.loop.counter + 1) c.export_next.new.out.items) (sym c.split_at.ensures.back)
      (one_more c.args.bytes.now c.args.out.now.items c.loop.counter c.loop.out.items c.loop.left.now c.loop.invariant.exports
      c.in_ok-front.front c.export_next.new.out.items c.in_ok-front.ensures.stands c.in_ok-front.ensures.reads c.in_ok-front.ensures.written
      c.in-Some.size (search rules) c.in_ok-front.ensures.inside);
}

pub returns-clause-left : goal.returns-clause-left
returns-clause-left c =
    (over c.args.bytes.now c.args.out.now.items c.loop.counter c.loop.out.items c.loop.left.now c.loop.invariant.exports (search rules)).is_left

pub returns-clause-stands : goal.returns-clause-stands
returns-clause-stands c =
    (over c.args.bytes.now c.args.out.now.items c.loop.counter c.loop.out.items c.loop.left.now c.loop.invariant.exports (search rules)).stands
