use Rattle.std.proofs.Common.{◌≡◌, refl, sym, ◌∙◌, ap, ap₂, subst, ℕ, ◌+◌, List, ◌∷◌, [], ◌++◌, take, drop, Vec, Global}
use Rattle.std.proofs.lemmas.List.{map-append}
use Rattle.lc_model.specs.declared.field.Term.{Term}
use Rattle.lc_model.specs.declared.rule.Rule.{Rule}
use Rattle.lc_model.specs.Condition.{condition_of}
use Rattle.lc_model.specs.Rule.{rule_of, rules_of}
use Rattle.lc_model.specs.Tables.Equation.{mentions}
use Rattle.lc_model.proofs.Exits.{passed_on, rules_more}
use Rattle.watch_sharing.specs.Fault.{IsTooManyUnlessMemory}
use Rattle.watch_sharing.specs.Numbering.{added_all, all_mentions, numbers_among, numbers_by_rule, numbers_of}
use Rattle.watch_sharing.proofs.Numbers.{added_all_append, all_go_on, mentions_push, more_too_many, rules_push}
use Rattle.watch_sharing.proofs.sharing.number_rules.Goals as goal

pub loop-rule-init : goal.loop-rule-init
unfolding added_all numbers_by_rule
loop-rule-init c = record { numbers = ap numbers_of c.in_ok-mentions.ensures.items; added = refl; few = c.requires }

pub returns-in_err-number_mentions-clause-refused : goal.returns-in_err-number_mentions-clause-refused
returns-in_err-number_mentions-clause-refused c =
    let keys : List Term = c.args.terms.now.keys in
    let rules : List Rule = c.args.rules.now in
    let i : ℕ = c.loop-rule.rule-index in
    let error = c.in_err-number_mentions.field-0.0 in
    let before : List Term = all_mentions (rules_of (take i rules)) in
    let here : List Term = mentions (condition_of c.rule-item.result.cond) in
    let fault : IsTooManyUnlessMemory (added_all (added_all keys before) here) error =
    subst (λ ts. IsTooManyUnlessMemory (added_all ts here) error) c.loop-rule.invariant.added c.in_err-number_mentions.ensures.refused in
    let so_far = subst (λ ts. IsTooManyUnlessMemory ts error) (sym (added_all_append keys before here)) fault in
    passed_on (IsTooManyUnlessMemory _) _ error c.from_residual-in_err-number_mentions.ensures.1
    (subst (λ ts. IsTooManyUnlessMemory (added_all keys ts) error) (sym (all_go_on rules i c.rule-item.result c.loop-rule-test.true c.rule-item.is))
    (more_too_many keys (before ++ here) (all_mentions (rules_of (drop (i + 1) rules))) error so_far))

pub loop-rule-preserved : goal.loop-rule-preserved
loop-rule-preserved c =
    let keys : List Term = c.args.terms.now.keys in
    let rules : List Rule = c.args.rules.now in
    let i : ℕ = c.loop-rule.rule-index in
    let r : Rule = c.rule-item.result in
    let here : List Term = mentions (condition_of r.cond) in
    let more = rules_more rules i r c.loop-rule-test.true c.rule-item.is in
    let numbers : c.number_mentions.new.numbers.items ≡ numbers_among (added_all keys (all_mentions (rules_of (take i rules)))) here =
    c.in_ok-number_mentions.ensures.numbers
    ∙ ap₂ (λ (ns : List ℕ) (ts : List Term). ns ++ numbers_among ts here) c.in_ok-numbers.ensures.items c.loop-rule.invariant.added in
    record {
      numbers =
          ap numbers_of c.in_ok-push.ensures.items
          ∙ map-append (λ (ns : Vec ℕ Global). ns.items) c.loop-rule.mentions.items (c.number_mentions.new.numbers ∷ [])
          ∙ ap₂ (λ (nss : List (List ℕ)) (ns : List ℕ). nss ++ ns ∷ []) c.loop-rule.invariant.numbers numbers
          ∙ sym (rules_push keys (rules_of (take i rules)) (rule_of r))
          ∙ ap (numbers_by_rule keys) (sym more);
      added =
          c.in_ok-number_mentions.ensures.added
          ∙ ap (λ ts. added_all ts here) c.loop-rule.invariant.added
          ∙ sym (added_all_append keys (all_mentions (rules_of (take i rules))) here)
          ∙ ap (added_all keys) (sym (ap all_mentions more ∙ mentions_push (rules_of (take i rules)) (rule_of r)));
      few = c.in_ok-number_mentions.ensures.few;
    }
