use Rattle.std.proofs.Common.{◌∙◌, arith}
use Rattle.std.proofs.lemmas.List.{drop_all}
use Rattle.app_host.proofs.Seats.{is_taken}
use Rattle.app_host.proofs.Resubscribed.{none_gone, goes_one_more, one_less_left, all_gone}
use Rattle.app_host.proofs.resubscribing.unsubscribe.Goals as goal

pub loop-message_id-init : goal.loop-message_id-init
loop-message_id-init c = none_gone c.args.seat c.args.message_ids.now c.args.bus.now c.requires

pub unwrap-requires : goal.unwrap-requires
unwrap-requires c =
    is_taken c.unsubscribe.result
    (c.unsubscribe.ensures.answer ∙ goes_one_more c.args.seat c.loop-message_id.message_id-index c.args.message_ids.now c.args.bus.now c.loop-message_id.bus c.loop-message_id-test.true c.loop-message_id.invariant)

pub loop-message_id-preserved : goal.loop-message_id-preserved
loop-message_id-preserved c =
    one_less_left c.args.seat c.loop-message_id.message_id-index c.args.message_ids.now c.args.bus.now c.loop-message_id.bus c.unsubscribe.new.self c.loop-message_id-test.true c.loop-message_id.invariant c.unsubscribe.ensures.after

pub returns : goal.returns
returns c = all_gone c.args.seat c.loop-message_id.message_id-index c.args.message_ids.now c.args.bus.now c.loop-message_id.bus (drop_all c.loop-message_id.message_id-index c.args.message_ids.now (let over = c.loop-message_id-test.false in omega (arith, over))) c.loop-message_id.invariant
