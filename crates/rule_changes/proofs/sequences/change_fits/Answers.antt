use Rattle.std.proofs.Common.{◌∙◌, ap, sym, Some}
use Rattle.std.proofs.lemmas.Bool.{ltb-true}
use Rattle.std.proofs.lemmas.Option.{slice_get-get_or}
use Rattle.rule_changes.specs.declared.rule_change.RuleChange.{RuleChange}
use Rattle.rule_changes.proofs.Fitting.{changed_fit}
use Rattle.rule_changes.proofs.sequences.change_fits.Goals as goal

pub returns-in-Some : goal.returns-in-Some
returns-in-Some c = λ olds news all is.
    let lookup = c.in-Some.ensures.lookup in
    changed_fit c.args.claim c.args.number olds news c.args.changes.now c.in-Some.change.now c.rule_fits.result
    (slice_get-get_or c.args.changes.now c.args.number c.in-Some.change.now (ltb-true c.args.number _ (sym lookup.0)) ∙ ap (λ (x : RuleChange). Some x) (sym lookup.1))
    c.rule_fits.ensures all is
