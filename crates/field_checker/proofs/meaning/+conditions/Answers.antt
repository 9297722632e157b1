use Rattle.rule_parser.specs.declared.syntax.Expression.{Expression}
use Rattle.std.proofs.Common.{ap, subst, ◌+◌, ◌*◌, ◌<◌}
use Rattle.lc_model.specs.Condition.{And, Or, Xor}
use Rattle.rule_parser.specs.Syntax.{expression_of, items_of}
use Rattle.field_checker.proofs.Accepted.{operands_clean, size}
use Rattle.field_checker.proofs.meaning.+conditions.Goals as goal

pub condition-operands-requires : goal.condition-operands-requires
condition-operands-requires t c =
    let both =
    operands_clean (items_of c.args.names.now.items.now) And _ _ _ _ _ (ap expression_of c.in-And.is)
    (ap (λ (both : Expression × Expression). expression_of both.0) c.deref-in-And.ensures)
    (ap (λ (both : Expression × Expression). expression_of both.1) c.deref-in-And-2.ensures) c.requires.clean in (
      subst (λ n. 2 * (size (expression_of c.deref-in-And.result.now.0) + size (expression_of c.deref-in-And-2.result.now.1)) + 1 < n) c.decreases both.smaller,
      (c.requires.accepted, (both.first_clean, both.second_clean)),
    )

pub condition-operands-requires-in-Or : goal.condition-operands-requires-in-Or
condition-operands-requires-in-Or t c =
    let both =
    operands_clean (items_of c.args.names.now.items.now) Or _ _ _ _ _ (ap expression_of c.in-Or.is)
    (ap (λ (both : Expression × Expression). expression_of both.0) c.deref-in-Or.ensures)
    (ap (λ (both : Expression × Expression). expression_of both.1) c.deref-in-Or-2.ensures) c.requires.clean in (
      subst (λ n. 2 * (size (expression_of c.deref-in-Or.result.now.0) + size (expression_of c.deref-in-Or-2.result.now.1)) + 1 < n) c.decreases both.smaller,
      (c.requires.accepted, (both.first_clean, both.second_clean)),
    )

pub condition-operands-requires-in-Xor : goal.condition-operands-requires-in-Xor
condition-operands-requires-in-Xor t c =
    let both =
    operands_clean (items_of c.args.names.now.items.now) Xor _ _ _ _ _ (ap expression_of c.in-Xor.is)
    (ap (λ (both : Expression × Expression). expression_of both.0) c.deref-in-Xor.ensures)
    (ap (λ (both : Expression × Expression). expression_of both.1) c.deref-in-Xor-2.ensures) c.requires.clean in (
      subst (λ n. 2 * (size (expression_of c.deref-in-Xor.result.now.0) + size (expression_of c.deref-in-Xor-2.result.now.1)) + 1 < n) c.decreases both.smaller,
      (c.requires.accepted, (both.first_clean, both.second_clean)),
    )
