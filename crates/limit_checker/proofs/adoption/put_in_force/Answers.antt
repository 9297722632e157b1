use Rattle.std.proofs.Common.{◌∙◌, ap, length, rules}
use Rattle.app_host.specs.Resubscribing.{mids_of}
use Rattle.lc_model.specs.Kept.GoesWith.{subscriptions_of}
use Rattle.lc_model.specs.Kept.Summary.{LcState}
use Rattle.limit_checker.proofs.Adopting.{has_room, heard_anew}
use Rattle.limit_checker.proofs.SameIds.{heard_still}
use Rattle.limit_checker.proofs.adoption.put_in_force.Goals as goal

pub returns-then-has_ids_of-clause-bus : goal.returns-then-has_ids_of-clause-bus
returns-then-has_ids_of-clause-bus c =
    heard_still c.args.seat c.args.bus.now c.args.engine.now c.adopt.new.self c.requires.pipe
    (ap (λ (own : _). mids_of own.terms) c.adopt.ensures ∙ c.has_ids_of.ensures (search rules) ∙ ap mids_of c.watchpoints.ensures.watchpoints)

pub subscribe_to-requires : goal.subscribe_to-requires
subscribe_to-requires c =
    has_room c.args.seat c.args.bus.now c.unsubscribe_from.new.bus (subscriptions_of (LcState c.args.engine.now)) (length c.watchpoints-3.result.now)
    c.requires.pipe c.unsubscribe_from.ensures c.watchpoints-3.ensures.few

pub returns-clause-bus : goal.returns-clause-bus
returns-clause-bus c =
    heard_anew c.args.seat c.args.bus.now c.unsubscribe_from.new.bus c.subscribe_to.new.bus c.watchpoints-3.result.now c.args.engine.now c.adopt-2.new.self c.requires.pipe c.unsubscribe_from.ensures
    c.subscribe_to.ensures c.watchpoints-3.ensures.watchpoints
