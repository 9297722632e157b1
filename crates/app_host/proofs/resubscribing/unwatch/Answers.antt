use Rattle.std.proofs.Common.{ap, ◌∙◌, arith}
use Rattle.lc_model.specs.Services.Bus.{after, unsubscribed}
use Rattle.app_host.specs.Resubscribing.{mids_of}
use Rattle.app_host.proofs.Resubscribed.{none_gone, one_less_left, all_gone, mid_there, as_many, all_done}
use Rattle.app_host.proofs.resubscribing.unwatch.Goals as goal

pub loop-term-init : goal.loop-term-init
loop-term-init c = none_gone c.args.seat (mids_of c.args.terms.now) c.args.bus.now c.requires

pub loop-term-preserved : goal.loop-term-preserved
loop-term-preserved c =
    one_less_left c.args.seat c.loop-term.term-index (mids_of c.args.terms.now) c.args.bus.now c.loop-term.bus c.unsubscribe.new.self
    (as_many c.loop-term.term-index c.args.terms.now c.loop-term-test.true) c.loop-term.invariant
    (c.unsubscribe.ensures.after ∙ ap (λ mid. after c.loop-term.bus (unsubscribed c.args.seat mid c.loop-term.bus)) (mid_there c.loop-term.term-index c.args.terms.now c.loop-term-test.true))

pub returns : goal.returns
returns c =
    all_gone c.args.seat c.loop-term.term-index (mids_of c.args.terms.now) c.args.bus.now c.loop-term.bus
    (all_done c.loop-term.term-index c.args.terms.now (let over = c.loop-term-test.false in omega (arith, over))) c.loop-term.invariant
