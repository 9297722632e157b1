use Rattle.std.proofs.Common.{length}
use Rattle.lc_model.specs.Kept.Call.{with_mids}
use Rattle.lc_model.specs.Services.Bus.{pipe_at}
use Rattle.app_host.specs.Resubscribing.{mids_of}
use Rattle.lc_model.proofs.Services.Subscriptions.{both_changes, is_there}
use Rattle.app_host.proofs.Resubscribed.{all_heard, room_left}
use Rattle.app_host.proofs.resubscribing.subscribe_to.Goals as goal

pub watch-requires : goal.watch-requires
watch-requires c = room_left c.args.seat c.args.message_ids.now c.args.bus.now c.subscribe.new.bus (length c.args.terms.now) c.requires c.subscribe.ensures

pub returns : goal.returns
returns c =
    all_heard c.args.seat c.args.message_ids.now (mids_of c.args.terms.now) c.args.bus.now c.watch.new.bus
    (both_changes c.args.seat c.args.bus.now c.subscribe.new.bus c.watch.new.bus (with_mids c.args.message_ids.now) (with_mids (mids_of c.args.terms.now))
    (is_there _ (pipe_at c.args.seat c.args.bus.now) c.requires) c.subscribe.ensures c.watch.ensures)
