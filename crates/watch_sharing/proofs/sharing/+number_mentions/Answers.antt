use Rattle.std.proofs.Common.{◌≡◌, sym, ◌∙◌, ap, ap₂, subst, ℕ, List, ◌++◌}
use Rattle.std.proofs.lemmas.List.{append_assoc}
use Rattle.lc_model.specs.declared.field.Term.{Term}
use Rattle.lc_model.specs.declared.condition.Cond.{Cond}
use Rattle.lc_model.specs.Condition.{condition_of}
use Rattle.lc_model.specs.Tables.Equation.{mentions}
use Rattle.lc_model.proofs.Exits.{passed_on}
use Rattle.watch_sharing.specs.Fault.{IsTooManyUnlessMemory}
use Rattle.watch_sharing.specs.Numbering.{added_all, numbers_among}
use Rattle.watch_sharing.proofs.Numbers.{more_too_many, numbers_append, one_of_three}
use Rattle.watch_sharing.proofs.sharing.+number_mentions.Goals as goal

-- the mentions of a condition of the program
abbrev all_in : Cond → List Term
all_in cond = mentions (condition_of cond)

pub returns-in_err-number_mentions-in-And-clause-refused : goal.returns-in_err-number_mentions-in-And-clause-refused
returns-in_err-number_mentions-in-And-clause-refused t c =
    let keys : List Term = c.args.terms.now.keys in
    let error = c.in_err-number_mentions-in-And.field-0.0 in
    let parts : all_in c.args.cond.now ≡ all_in c.in-And.operands.value.0 ++ all_in c.in-And.operands.value.1 =
    one_of_three (ap all_in) (ap all_in) (ap all_in) c.in-And.is in
    let first = subst (λ cond. IsTooManyUnlessMemory (added_all keys (all_in cond)) error) (ap (λ both. both.0) c.deref-in-And.ensures)
    c.in_err-number_mentions-in-And.ensures.refused in
    passed_on (IsTooManyUnlessMemory _) _ error c.from_residual-in_err-number_mentions-in-And.ensures.1
    (subst (λ ts. IsTooManyUnlessMemory (added_all keys ts) error) (sym parts)
    (more_too_many keys (all_in c.in-And.operands.value.0) (all_in c.in-And.operands.value.1) error first))

pub returns-in_ok-number_mentions-in-And-2-clause-numbers : goal.returns-in_ok-number_mentions-in-And-2-clause-numbers
returns-in_ok-number_mentions-in-And-2-clause-numbers t c =
    let keys : List Term = c.args.terms.now.keys in
    let before : List ℕ = c.args.numbers.now.items in
    let a : List Term = all_in c.in-And.operands.value.0 in
    let b : List Term = all_in c.in-And.operands.value.1 in
    let parts : all_in c.args.cond.now ≡ a ++ b = one_of_three (ap all_in) (ap all_in) (ap all_in) c.in-And.is in
    let first : c.number_mentions-in-And.new.numbers.items ≡ before ++ numbers_among keys a =
    c.in_ok-number_mentions-in-And.ensures.numbers ∙ ap (λ both. before ++ numbers_among keys (all_in both.0)) c.deref-in-And.ensures in
    let between : c.number_mentions-in-And.new.terms.keys ≡ added_all keys a =
    c.in_ok-number_mentions-in-And.ensures.added ∙ ap (λ both. added_all keys (all_in both.0)) c.deref-in-And.ensures in
    c.in_ok-number_mentions-in-And-2.ensures.numbers
    ∙ ap₂ (λ (ns : List ℕ) (both : Cond × Cond). ns ++ numbers_among c.number_mentions-in-And.new.terms.keys (all_in both.1)) first c.deref-in-And-2.ensures
    ∙ ap (λ ts. before ++ numbers_among keys a ++ numbers_among ts b) between
    ∙ append_assoc before (numbers_among keys a) (numbers_among (added_all keys a) b)
    ∙ ap (λ ns. before ++ ns) (sym (numbers_append keys a b))
    ∙ ap (λ ts. before ++ numbers_among keys ts) (sym parts)
