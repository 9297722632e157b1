use Rattle.std.proofs.Common.{subst, sym}
use Rattle.rule_analysis.specs.Classes.{Separates}
use Rattle.rule_analysis.proofs.ClassLaws.{separates_still, separates_now}
use Rattle.rule_analysis.proofs.thresholds.push_thresholds.Goals as goal

pub returns-clause-own : goal.returns-clause-own
returns-clause-own c =
    subst (λ all. Separates all c.args.term.now) (sym c.in_ok-extend_from_slice.ensures.items)
    (separates_now c.args.all.now.items c.thresholds.result c.args.term.now c.thresholds.ensures)

pub returns-clause-others : goal.returns-clause-others
returns-clause-others c = λ t so.
    subst (λ all. Separates all t) (sym c.in_ok-extend_from_slice.ensures.items) (separates_still c.args.all.now.items c.thresholds.result t so)
