use Rattle.std.proofs.Common.{◌≡◌, rules, sym, ap, ◌∙◌, length, arith}
use Rattle.std.specs.Vec.Iter.{into_iter_items, into_iter_len}
use Rattle.c_interface.proofs.Boxes.{none_left, one_more}
use Rattle.c_interface.proofs.lasting.lasting_stock.Goals as goal

pub loop-app-preserved : goal.loop-app-preserved
loop-app-preserved c =
    let steps = c.in-Some.ensures.steps in
    let fewer = ap length steps.0 in
    let as_many = c.loop-app.invariant.0 in
    let less = steps.1 in (
      omega (arith, fewer, as_many, less),
      one_more c.loop-app.boxes.items _ _ _ _ _ c.in_ok-push-2.ensures.items steps.0 c.loop-app.invariant.1,
    )
