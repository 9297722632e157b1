use Rattle.std.proofs.Common.{◌≡◌, ◌∙◌, ap₂, subst, List}
use Rattle.lc_model.specs.declared.field.Term.{Term}
use Rattle.lc_model.specs.Rule.{NamedRule, rules_of}
use Rattle.lc_model.specs.Tables.Equation.{terms_of}
use Rattle.lc_model.proofs.Exits.{passed_on}
use Rattle.watch_sharing.specs.Fault.{IsTooManyUnlessMemory}
use Rattle.watch_sharing.specs.Numbering.{added_all, all_mentions, numbers_by_rule}
use Rattle.watch_sharing.proofs.Distinct.{terms_are, numbers_are_the_rules}
use Rattle.watch_sharing.proofs.Numbers.{only_memory}
use Rattle.watch_sharing.proofs.sharing.share.Goals as goal

pub returns-in_err-mentions-clause-refused : goal.returns-in_err-mentions-clause-refused
returns-in_err-mentions-clause-refused c =
    let all : added_all c.new-terms.result.keys (all_mentions (rules_of c.as_slice.result.now)) ≡ terms_of c.args.rules.now.rules =
    ap₂ (λ (ks : List Term) (rules : List NamedRule). added_all ks (all_mentions rules)) c.new-terms.ensures.empty c.as_slice.ensures
    ∙ terms_are c.args.rules.now.rules in
    passed_on (IsTooManyUnlessMemory _) _ c.in_err-mentions.field-0.0 c.from_residual.ensures.1
    (subst (λ ts. IsTooManyUnlessMemory ts c.in_err-mentions.field-0.0) all c.in_err-mentions.ensures.refused)

pub returns-in_err-mentions-clause-accepts : goal.returns-in_err-mentions-clause-accepts
returns-in_err-mentions-clause-accepts c few = only_memory _ _ few (returns-in_err-mentions-clause-refused c)

pub returns-clause-terms : goal.returns-clause-terms
returns-clause-terms c =
    c.in_ok-to_vec.ensures.items_if_clones_equal (λ x y e. e) ∙ c.as_slice-2.ensures.keys ∙ c.in_ok-mentions.ensures.added
    ∙ ap₂ (λ (ks : List Term) (rules : List NamedRule). added_all ks (all_mentions rules)) c.new-terms.ensures.empty c.as_slice.ensures
    ∙ terms_are c.args.rules.now.rules

pub returns-clause-mentions : goal.returns-clause-mentions
returns-clause-mentions c =
    c.in_ok-mentions.ensures.numbers
    ∙ ap₂ (λ (ks : List Term) (rules : List NamedRule). numbers_by_rule ks rules) c.new-terms.ensures.empty c.as_slice.ensures
    ∙ numbers_are_the_rules c.args.rules.now.rules
