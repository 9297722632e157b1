use Rattle.std.proofs.Common.{ap, sym, ◌∙◌}
use Rattle.lc_model.specs.Condition.{Watch}
use Rattle.lc_model.proofs.LimitChecker.ResultLaws.{one_term}
use Rattle.rule_analysis.specs.Open.{left_of}
use Rattle.rule_analysis.proofs.open.+are_same.Goals as goal

pub returns-in-Compare-Compare : goal.returns-in-Compare-Compare
returns-in-Compare-Compare t c = λ same.
    ap left_of c.in-Compare-Compare.is-0 ∙ ap Watch (one_term c.in-Compare-Compare.one c.in-Compare-Compare.other (sym c.are_one.ensures ∙ same))
    ∙ sym (ap left_of c.in-Compare-Compare.is-1)
