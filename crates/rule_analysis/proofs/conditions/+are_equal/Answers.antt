use Rattle.std.proofs.Common.{ap, sym, ◌∙◌}
use Rattle.lc_model.specs.Condition.{Watch, condition_of}
use Rattle.lc_model.proofs.LimitChecker.ResultLaws.{one_term}
use Rattle.rule_analysis.proofs.conditions.+are_equal.Goals as goal

pub returns-in-Watch-Watch : goal.returns-in-Watch-Watch
returns-in-Watch-Watch t c = λ same.
    ap condition_of c.in-Watch-Watch.is-0 ∙ ap Watch (one_term c.in-Watch-Watch.one c.in-Watch-Watch.other (sym c.are_one.ensures ∙ same))
    ∙ sym (ap condition_of c.in-Watch-Watch.is-1)
