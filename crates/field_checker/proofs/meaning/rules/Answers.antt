use Rattle.std.proofs.Common.{◌≡◌, ◌∙◌, ap, sym, [], ◌∷◌, ◌++◌, ◌+◌, drop}
use Rattle.std.specs.Prelude.{option_map}
use Rattle.std.proofs.lemmas.List.Folds.{flat_map-map}
use Rattle.lc_model.specs.Rule as named
use Rattle.lc_model.specs.Rule.{rules_of}
use Rattle.lc_model.specs.Text.Syntax as model
use Rattle.lc_model.specs.Text.Meaning.{faults_of, name_faults, rule_faults, rules_in}
use Rattle.rule_parser.specs.Syntax.{item_of, items_of, rule_of}
use Rattle.field_checker.proofs.Accepted.{clean_at}
use Rattle.lc_model.proofs.Facts.{append_none_second}
use Rattle.field_checker.proofs.Meant.{one_meant, none_meant, from_index, grown}
use Rattle.field_checker.proofs.meaning.rules.Goals as goal
use Rattle.field_checker.proofs.meaning.rules.Goals.{in-Rule+in_ok-rule+in_ok-push, in_default}

pub rule-requires-clause-clean : goal.rule-requires-clause-clean
rule-requires-clause-clean c =
    let xs = c.args.names.now.items.now in
    let items = items_of xs in
    let r = rule_of c.in-Rule.item in
    let clean : faults_of items (model.Rule r) ≡ [] =
    sym (ap (λ x. faults_of items (item_of x)) (sym c.item-item.is ∙ c.in-Rule.is))
    ∙ clean_at (λ x. faults_of items (item_of x)) xs c.loop-item.item-index c.item-item.result c.loop-item-test.true
    (sym (flat_map-map (faults_of items) item_of xs) ∙ c.requires) in
    append_none_second (name_faults items (model.Rule r)) (rule_faults items r) clean

pub loop-item-preserved : goal.loop-item-preserved
loop-item-preserved c =
    let xs = c.args.names.now.items.now in
    let items = items_of xs in
    let i = c.loop-item.item-index in
    let x = c.item-item.result in
    let others = items_of (drop (i + 1) xs) in
    let done = rules_of c.loop-item.rules.items in
    let here : items_of (drop i xs) ≡ item_of x ∷ others = from_index xs i x c.loop-item-test.true c.item-item.is in
    c.loop-item.invariant ∙ (ap (λ rest. option_map (λ rs. done ++ rs) (rules_in items rest)) here
    ∙ elim c.match-item.branch [
      | in-Rule+in_ok-rule+in_ok-push w ↦
          ap (λ y. option_map (λ rs. done ++ rs) (rules_in items (item_of y ∷ others))) w.in-Rule.is
          ∙ (one_meant items others done (rule_of w.in-Rule.item) (named.rule_of w.in_ok-rule.field-0) w.in_ok-rule.ensures
          ∙ ap (λ rules. option_map (λ rs. rules ++ rs) (rules_in items others))
          (grown c.loop-item.rules.items c.match-item.rules.items w.in_ok-rule.field-0 (ap (λ v. v.items) w.rules-is ∙ w.in_ok-push.ensures.items)))
      | in_default w ↦
          ap (option_map (λ rs. done ++ rs)) (none_meant items others x w.in_default.not-Rule)
          ∙ sym (ap (λ v. option_map (λ rs. rules_of v.items ++ rs) (rules_in items others)) w.rules-is)
    ])
