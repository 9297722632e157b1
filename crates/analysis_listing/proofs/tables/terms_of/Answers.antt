use Rattle.std.proofs.Common.{ap, ◌∙◌, arith}
use Rattle.lc_model.specs.Tables.Image.{own_count}
use Rattle.lc_model.specs.Tables.Spelled.{spelled_term}
use Rattle.analysis_listing.proofs.OverLaws.{one_more_below, spelled_up_to}
use Rattle.analysis_listing.proofs.tables.terms_of.Goals as goal

pub loop-number-preserved : goal.loop-number-preserved
loop-number-preserved c =
    one_more_below _ c.loop-number.terms.items c.push.new.self.items c.loop-number.number c.term.result c.loop-number.invariant
    (c.term.ensures ∙ ap spelled_term c.watchpoint.ensures.entry) c.in_ok-push.ensures.items

pub returns : goal.returns
returns c =
    spelled_up_to c.args.watchpoints.now.bytes c.loop-number.terms.items c.loop-number.number c.from-count.result c.loop-number.invariant
    (omega (arith, c.loop-number-test.false, c.loop-number.auto.number-end))
    (c.from-count.ensures ∙ c.own_count.ensures ∙ ap own_count c.image.ensures.bytes)
