use Rattle.std.proofs.Common.{rules, ap, ◌∙◌}
use Rattle.lc_model.specs.Condition.{condition_of, And, Or, Xor}
use Rattle.table_listing.specs.Formula.{Join, formula_of, operator_of}
use Rattle.analysis_listing.proofs.OverLaws.{not_over, join_over}
use Rattle.analysis_listing.proofs.tables.+over.Goals as goal

pub returns-in_ok-new-in-Not : goal.returns-in_ok-new-in-Not
returns-in_ok-new-in-Not t c =
    not_over c.args.terms.now (formula_of c.args.equation.now) (formula_of c.in-Not.operand.value) (formula_of c.deref.result.now)
    (condition_of c.in_ok-new-in-Not.field-0.value) (condition_of c.in_ok-operand-in-Not.operand) (ap formula_of c.in-Not.is) (search rules) (search rules)
    c.in_ok-operand-in-Not.ensures

pub returns-in-And : goal.returns-in-And
returns-in-And t c =
    join_over c.args.terms.now And (formula_of c.args.equation.now) (formula_of c.in-Join.operands.value.0) (formula_of c.in-Join.operands.value.1) _ _
    (condition_of c.in_ok-both-in-Join.both.value.0) (condition_of c.in_ok-both-in-Join.both.value.1)
    (condition_of c.in_ok-first-in-Join.first) (condition_of c.in_ok-second-in-Join.second)
    (ap formula_of c.in-Join.is ∙ ap (λ o. Join (operator_of o) (formula_of c.in-Join.operands.value.0) (formula_of c.in-Join.operands.value.1)) c.in-And.is)
    (search rules) (search rules) (search rules) (search rules) c.in_ok-first-in-Join.ensures c.in_ok-second-in-Join.ensures

pub returns-in-Or : goal.returns-in-Or
returns-in-Or t c =
    join_over c.args.terms.now Or (formula_of c.args.equation.now) (formula_of c.in-Join.operands.value.0) (formula_of c.in-Join.operands.value.1) _ _
    (condition_of c.in_ok-both-in-Join.both.value.0) (condition_of c.in_ok-both-in-Join.both.value.1)
    (condition_of c.in_ok-first-in-Join.first) (condition_of c.in_ok-second-in-Join.second)
    (ap formula_of c.in-Join.is ∙ ap (λ o. Join (operator_of o) (formula_of c.in-Join.operands.value.0) (formula_of c.in-Join.operands.value.1)) c.in-Or.is)
    (search rules) (search rules) (search rules) (search rules) c.in_ok-first-in-Join.ensures c.in_ok-second-in-Join.ensures

pub returns-in-Xor : goal.returns-in-Xor
returns-in-Xor t c =
    join_over c.args.terms.now Xor (formula_of c.args.equation.now) (formula_of c.in-Join.operands.value.0) (formula_of c.in-Join.operands.value.1) _ _
    (condition_of c.in_ok-both-in-Join.both.value.0) (condition_of c.in_ok-both-in-Join.both.value.1)
    (condition_of c.in_ok-first-in-Join.first) (condition_of c.in_ok-second-in-Join.second)
    (ap formula_of c.in-Join.is ∙ ap (λ o. Join (operator_of o) (formula_of c.in-Join.operands.value.0) (formula_of c.in-Join.operands.value.1)) c.in-Xor.is)
    (search rules) (search rules) (search rules) (search rules) c.in_ok-first-in-Join.ensures c.in_ok-second-in-Join.ensures
