use Rattle.std.proofs.Common.{◌≡◌, sym, ◌∙◌, ap, ap₂, ℕ, List, ◌∷◌, [], ◌++◌, take, length, map, Vec, Global, arith}
use Rattle.std.proofs.lemmas.List.{length-map, map-append}
use Rattle.lc_model.specs.declared.field.Term.{Term}
use Rattle.lc_model.specs.declared.rule.Rule.{Rule}
use Rattle.lc_model.specs.Condition.{condition_of}
use Rattle.lc_model.specs.Rule.{rule_of, rules_of}
use Rattle.lc_model.specs.Tables.Equation.{mentions, number_in, terms_of}
use Rattle.lc_model.specs.Tables.InForce.{arranged}
use Rattle.lc_model.specs.Tables.Lowering.{words_in}
use Rattle.lc_model.proofs.Exits.{rules_more}
use Rattle.rpn_compiler.specs.Numbered.{by_numbers, words_of}
use Rattle.rpn_compiler.proofs.Numbered.{numbers_at, words_alone}
use Rattle.rpn_compiler.proofs.equation.words_of_rules.Goals as goal

pub words_of_rule-requires : goal.words_of_rule-requires
words_of_rule-requires c =
    let terms : List Term = terms_of (rules_of c.args.rules.now) in
    let numbers =
    numbers_at terms c.args.rules.now c.args.numbers.now c.loop-number.number c.index-rules-number.result c.index-numbers-number.result
    c.requires c.loop-number-test.true c.index-rules-number.is c.index-numbers-number.is in
    omega (arith, ap length (c.as_slice.ensures.value ∙ numbers), length-map (mentions (condition_of c.index-rules-number.result.cond)) (number_in terms))

pub loop-number-preserved : goal.loop-number-preserved
loop-number-preserved c =
    let rules : List Rule = c.args.rules.now in
    let terms : List Term = terms_of (rules_of rules) in
    let r : Rule = c.index-rules-number.result in
    let i : ℕ = c.loop-number.number in
    let numbers =
    numbers_at terms rules c.args.numbers.now i r c.index-numbers-number.result c.requires c.loop-number-test.true c.index-rules-number.is c.index-numbers-number.is in
    let words : c.in_ok-words_of_rule.field-0.items ≡ words_in arranged terms (rule_of r) =
    c.in_ok-words_of_rule.ensures
    ∙ ap (λ ns. (by_numbers (condition_of r.cond) ns).0.words) (c.as_slice.ensures.value ∙ numbers)
    ∙ words_alone terms (condition_of r.cond) in
    ap words_of c.in_ok-push.ensures.items
    ∙ map-append (λ (ws : Vec ℕ Global). ws.items) c.loop-number.found.items (c.in_ok-words_of_rule.field-0 ∷ [])
    ∙ ap₂ (λ (wss : List (List ℕ)) (ws : List ℕ). wss ++ ws ∷ []) c.loop-number.invariant words
    ∙ sym (map-append (words_in arranged terms) (rules_of (take i rules)) (rule_of r ∷ []))
    ∙ ap (map (words_in arranged terms)) (sym (rules_more rules i r c.loop-number-test.true c.index-rules-number.is))
