use Rattle.std.proofs.Common.{◌≡◌, ◌∙◌, ap, length, arith}
use Rattle.lc_model.specs.Tables.Image.{own_count}
use Rattle.limit_checker.proofs.SameIds.{ids_more, all_same}
use Rattle.limit_checker.proofs.adoption.has_ids_of.Goals as goal

pub loop-number-preserved : goal.loop-number-preserved
loop-number-preserved c = record {
  same = ids_more c.args.wdt.now.bytes c.loop-number.number c.args.terms.now _ c.watchpoint.result c.message_id.result c.loop-number.invariant.same (omega (arith, c.loop-number-test.true)) c.watchpoint.ensures.entry c.message_id.ensures c.if-message_id-terms.false;
  within = omega (arith, c.loop-number-test.true);
}

pub returns : goal.returns
returns c = λ _.
    let all : c.loop-number.number ≡ length c.args.terms.now = omega (arith, c.loop-number-test.false, c.loop-number.invariant.within, c.loop-number.auto.number-end) in
    let own : c.own_count.result ≡ own_count c.args.wdt.now.bytes = c.own_count.ensures ∙ ap own_count c.image.ensures.bytes in
    all_same c.args.wdt.now.bytes c.loop-number.number c.args.terms.now c.loop-number.invariant.same all (omega (arith, all, own, c.if-own_count-terms.false))
