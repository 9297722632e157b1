use Rattle.std.proofs.Common.{◌<◌, length, arith}
use Rattle.limit_checker.proofs.Requesting.{item_told, item_size, no_item, still_may_send}
use Rattle.limit_checker.proofs.reacting.tell_item.Goals as goal

abbrev inside : (c : goal.After-tell_reactions) → c.from-index.result < length c.args.engine.now.rules
inside c = let more = c.if-index-rule_count.true in let count = c.rule_count.ensures.count in omega (arith, more, count)

pub returns-then-index-rule_count-clause-told : goal.returns-then-index-rule_count-clause-told
returns-then-index-rule_count-clause-told c =
    item_told c.args.engine.now.rules c.args.item.now c.from-index.result c.rule_event-event.result c.args.from.now c.args.services.now c.tell_reactions.new.services c.from-index.ensures
    (inside c)
    (λ rule there. record {
      sequence = c.rule_event-event.ensures.sequence rule there;
      kind = c.rule_event-event.ensures.kind rule there;
      id = c.rule_event-event.ensures.id rule there;
      text = c.rule_event-event.ensures.text rule there;
    })
    c.tell_reactions.ensures.told

pub returns-then-index-rule_count-clause-size : goal.returns-then-index-rule_count-clause-size
returns-then-index-rule_count-clause-size c =
    let is = item_size c.args.engine.now.rules c.args.item.now c.from-index.result c.from-index.ensures (inside c) in
    let size = c.tell_reactions.ensures.size in
    omega (arith, is, size)

pub returns-then-index-rule_count-clause-sends : goal.returns-then-index-rule_count-clause-sends
returns-then-index-rule_count-clause-sends c =
    still_may_send c.telling_goes_on.ensures.keeps c.args.from.now _ c.args.services.now c.tell_reactions.new.services (returns-then-index-rule_count-clause-told c) c.requires.sends

pub returns-else-index-rule_count-clause-told : goal.returns-else-index-rule_count-clause-told
returns-else-index-rule_count-clause-told c =
    no_item c.telling_goes_on.ensures.nothing c.args.engine.now.rules c.args.item.now c.from-index.result c.args.from.now c.args.services.now c.from-index.ensures
    (let over = c.if-index-rule_count.false in let count = c.rule_count.ensures.count in omega (arith, over, count))

pub tell_reactions-requires-clause-room : goal.tell_reactions-requires-clause-room
tell_reactions-requires-clause-room c =
    let more = c.if-index-rule_count.true in
    let count = c.rule_count.ensures.count in
    let is = item_size c.args.engine.now.rules c.args.item.now c.from-index.result c.from-index.ensures (omega (arith, more, count)) in
    let room = c.requires.room in
    omega (arith, is, room)
