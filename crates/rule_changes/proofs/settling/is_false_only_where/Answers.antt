use Rattle.std.proofs.Common.{sym, ◌∙◌}
use Rattle.lc_model.specs.Condition.{condition_of}
use Rattle.rule_changes.proofs.Settled.{never_false}
use Rattle.rule_changes.proofs.settling.is_false_only_where.Goals as goal

pub returns-in-Never : goal.returns-in-Never
returns-in-Never c = λ is.
    never_false c.as_slice-terms.result.now (condition_of c.args.first.now) (condition_of c.args.second.now) (condition_of c.in_ok-question.question)
    c.in_ok-ask.field-0 (sym c.is_any_of_no_packet.ensures ∙ c.if-is_any_of_no_packet.false) (c.as_slice-terms.ensures.value ∙ c.in_ok-terms.ensures)
    c.in_ok-question.ensures c.in-Never.is c.in_ok-ask.ensures
