use Rattle.std.proofs.Common.{◌≡◌, subst, List, Some}
use Rattle.std.specs.Prelude.{IfOk, None}
use Rattle.lc_model.specs.Rule.{NamedRule}
use Rattle.lc_model.specs.Text.Reading.{IsUnreadable}
use Rattle.lc_model.specs.Tables.Compiling.{Compiles, IsRefused, unreadable, beyond_limits, limit_refusal}
use Rattle.lc_model.specs.Tables.InForce.{limits}
use Rattle.lc_model.proofs.Exits.{passed_on}
use Rattle.lc_model.proofs.Texts.OneRefusal.{at_most_one_verdict}
use Rattle.rpn_compiler.specs.Fault.{Refuses}
use Rattle.rpn_compiler.specs.Pair.{AreTables}
use Rattle.rpn_compiler.proofs.Refused.{accepts, also, also_of, exit_accepts, exit_refuses, ok_also, ok_both, refuses, text_reads}
use Rattle.rpn_compiler.proofs.compiler.compile.Goals as goal

pub returns-in_err-text-clause-refused : goal.returns-in_err-text-clause-refused
returns-in_err-text-clause-refused c =
    passed_on (Refuses (IsRefused limits c.args.text.now)) _ _ c.from_residual.ensures.1
    (also (IsUnreadable c.args.text.now) (IsRefused limits c.args.text.now) (λ r is. unreadable is) c.in_err-text.field-0.0 c.in_err-text.ensures.refused)

pub returns-in_err-text-clause-accepts : goal.returns-in_err-text-clause-accepts
returns-in_err-text-clause-accepts c rules compiles =
    exit_accepts (IsRefused limits c.args.text.now) (AreTables c.args.text.now rules) c.from_residual.result _ c.from_residual.ensures.1
    (also (IsUnreadable c.args.text.now) (IsRefused limits c.args.text.now) (λ r is. unreadable is) c.in_err-text.field-0.0 c.in_err-text.ensures.refused)
    (λ refusal is. (at_most_one_verdict limits c.args.text.now).not_both rules refusal compiles is)

pub returns-in_err-text-clause-refuses : goal.returns-in_err-text-clause-refuses
returns-in_err-text-clause-refuses c =
    exit_refuses (IsRefused limits c.args.text.now) c.from_residual.result _ c.from_residual.ensures.1
    (also (IsUnreadable c.args.text.now) (IsRefused limits c.args.text.now) (λ r is. unreadable is) c.in_err-text.field-0.0 c.in_err-text.ensures.refused)
    (at_most_one_verdict limits c.args.text.now).one_refusal

pub returns-clause-compiles : goal.returns-clause-compiles
returns-clause-compiles c =
    let rules : List NamedRule = c.in_ok-text.text.rules.rules in
    ok_both (λ _. limit_refusal limits rules ≡ None) (AreTables c.in_ok-text.text.bytes.now rules)
    (λ pair. (said : List NamedRule) × Compiles limits c.args.text.now said × AreTables c.args.text.now said pair) c.compile-pair.result
    (λ pair within tables. (
      rules,
      (text_reads c.in_ok-text.text c.args.text.now c.in_ok-text.ensures.bytes c.in_ok-text.ensures.reads, within),
      subst (λ bytes. AreTables bytes rules pair) c.in_ok-text.ensures.bytes tables,
    ))
    c.compile-pair.ensures.within c.compile-pair.ensures.pair

pub returns-clause-refused : goal.returns-clause-refused
returns-clause-refused c =
    also_of (λ refusal. limit_refusal limits c.in_ok-text.text.rules.rules ≡ Some refusal) (IsRefused limits c.args.text.now)
    (λ r is. beyond_limits (text_reads c.in_ok-text.text c.args.text.now c.in_ok-text.ensures.bytes c.in_ok-text.ensures.reads) is)
    c.compile-pair.result c.compile-pair.ensures.refused

pub returns-clause-accepts : goal.returns-clause-accepts
returns-clause-accepts c rules compiles =
    let tables : IfOk c.compile-pair.result (AreTables c.in_ok-text.text.bytes.now rules) =
    subst (λ all. IfOk c.compile-pair.result (AreTables c.in_ok-text.text.bytes.now all)) (c.in_ok-text.ensures.accepts rules compiles.0) c.compile-pair.ensures.pair in
    accepts (IsRefused limits c.args.text.now) (AreTables c.args.text.now rules) c.compile-pair.result
    (subst (λ bytes. IfOk c.compile-pair.result (AreTables bytes rules)) c.in_ok-text.ensures.bytes tables) (returns-clause-refused c)
    (λ refusal is. (at_most_one_verdict limits c.args.text.now).not_both rules refusal compiles is)

pub returns-clause-refuses : goal.returns-clause-refuses
returns-clause-refuses c refusal is =
    refuses (IsRefused limits c.args.text.now) c.compile-pair.result
    (ok_also (λ _. limit_refusal limits c.in_ok-text.text.rules.rules ≡ None) (λ _. ⊥) c.compile-pair.result
    (λ _ within. (at_most_one_verdict limits c.args.text.now).not_both c.in_ok-text.text.rules.rules refusal
    (text_reads c.in_ok-text.text c.args.text.now c.in_ok-text.ensures.bytes c.in_ok-text.ensures.reads, within) is)
    c.compile-pair.ensures.within)
    (returns-clause-refused c) (at_most_one_verdict limits c.args.text.now).one_refusal refusal is
