use Rattle.std.proofs.Common.{ap, ◌∙◌, arith}
use Rattle.lc_model.specs.Services.Bus.{after, subscribed}
use Rattle.app_host.specs.Resubscribing.{mids_of}
use Rattle.app_host.proofs.Seats.{one_more, all_made}
use Rattle.app_host.proofs.Resubscribed.{mid_there, as_many, all_done}
use Rattle.app_host.proofs.resubscribing.watch.Goals as goal

pub loop-term-preserved : goal.loop-term-preserved
loop-term-preserved c =
    one_more c.args.seat c.loop-term.term-index (mids_of c.args.terms.now) c.args.bus.now c.loop-term.bus c.subscribe.new.self
    (as_many c.loop-term.term-index c.args.terms.now c.loop-term-test.true) c.loop-term.invariant
    (c.subscribe.ensures.after ∙ ap (λ mid. after c.loop-term.bus (subscribed c.args.seat mid c.loop-term.bus)) (mid_there c.loop-term.term-index c.args.terms.now c.loop-term-test.true))

pub returns : goal.returns
returns c =
    all_made c.args.seat c.loop-term.term-index (mids_of c.args.terms.now) c.args.bus.now c.loop-term.bus
    (all_done c.loop-term.term-index c.args.terms.now (let over = c.loop-term-test.false in omega (arith, over))) c.loop-term.invariant
