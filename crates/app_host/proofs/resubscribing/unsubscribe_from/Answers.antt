use Rattle.lc_model.specs.Services.Bus.{pipe_at}
use Rattle.app_host.specs.Resubscribing.{mids_of, without_mids}
use Rattle.lc_model.proofs.Services.Subscriptions.{both_changes, is_there}
use Rattle.app_host.proofs.Resubscribed.{nothing_heard}
use Rattle.app_host.proofs.resubscribing.unsubscribe_from.Goals as goal

pub returns : goal.returns
returns c =
    nothing_heard c.args.seat c.args.message_ids.now c.args.terms.now c.args.bus.now c.unwatch.new.bus c.requires
    (both_changes c.args.seat c.args.bus.now c.unsubscribe.new.bus c.unwatch.new.bus (without_mids c.args.message_ids.now) (without_mids (mids_of c.args.terms.now))
    (is_there _ (pipe_at c.args.seat c.args.bus.now) c.requires) c.unsubscribe.ensures c.unwatch.ensures)
