use Rattle.limit_checker.proofs.Requesting.{has_room, told_so_far, size_so_far}
use Rattle.limit_checker.proofs.reacting.tell_all.Goals as goal

pub tell_item-requires-clause-room : goal.tell_item-requires-clause-room
tell_item-requires-clause-room c =
    has_room c.args.engine.now.rules c.args.asked.now c.loop-item.item-index _ c.loop-item-test.true _ _ c.loop-item.invariant.size c.requires.room

pub loop-item-preserved : goal.loop-item-preserved
loop-item-preserved c = record {
  told = told_so_far c.telling_goes_on.ensures.goes_on c.args.engine.now.rules c.args.asked.now c.loop-item.item-index _ c.loop-item-test.true c.args.from.now c.args.services.now c.loop-item.services c.tell_item.new.services
      c.loop-item.invariant.told c.tell_item.ensures.told;
  size = size_so_far c.args.engine.now.rules c.args.asked.now c.loop-item.item-index _ c.loop-item-test.true _ _ _ c.loop-item.invariant.size c.tell_item.ensures.size;
  sends = c.tell_item.ensures.sends;
}
