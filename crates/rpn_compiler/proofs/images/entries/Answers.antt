use Rattle.std.proofs.Common.{◌≡◌, sym, ◌∙◌, ap, ap₂, ℕ, ◌<◌, List, length, [], ◌∷◌, ◌++◌, map, take, drop, get_or, arith}
use Rattle.std.proofs.lemmas.List.{map-append}
use Rattle.lc_model.specs.declared.rule.Rule.{Rule}
use Rattle.lc_model.specs.Rule.{rule_of, rules_of}
use Rattle.lc_model.specs.Tables.Image.{TableEntry}
use Rattle.lc_model.specs.Tables.Half.{entry_of, entry_over}
use Rattle.lc_model.specs.Tables.InForce.{arranged}
use Rattle.lc_model.proofs.Exits.{rules_more}
use Rattle.rpn_compiler.proofs.EntryWords.{first_left, short_at, words_at}
use Rattle.rpn_compiler.proofs.images.entries.Goals as goal

pub loop-number-preserved : goal.loop-number-preserved
loop-number-preserved c =
    let rules : List Rule = c.args.rules.now in
    let i : ℕ = c.loop-number.number-iterator.count in
    let r : Rule = c.index-rules-number.result in
    let steps = c.in-Some.ensures.steps in
    let first = first_left c.args.words.items c.next.new.self.iter.rest.items i c.in-Some.words (sym steps.0.0 ∙ c.loop-number.invariant.0) in (
      first.2 ∙ ap (λ n. drop n c.args.words.items) (sym steps.2),
      λ terms known.
          let within : i < length rules = let lt = first.0 in let as_many = c.requires.as_many in omega (arith, lt, as_many) in
          let rule_is = c.index-rules-number.is ∙ ap (λ n. get_or rules n r) steps.1 in
          let found = words_at terms rules c.args.words.items i r c.in-Some.words known within rule_is first.1 in
          let entry : c.in_ok-entry.field-0 ≡ entry_over arranged terms (rule_of r) = c.in_ok-entry.ensures ∙ ap (λ (ws : List ℕ). entry_of (rule_of r).action ws) (c.as_slice.ensures.value ∙ found) in
          c.in_ok-push.ensures.items
          ∙ ap₂ (λ (es : List TableEntry) (e : TableEntry). es ++ e ∷ []) (c.loop-number.invariant.1 terms known) entry
          ∙ sym (map-append (entry_over arranged terms) (rules_of (take i rules)) (rule_of r ∷ []))
          ∙ ap (map (entry_over arranged terms)) (sym (rules_more rules i r within rule_is))
          ∙ ap (λ n. map (entry_over arranged terms) (rules_of (take n rules))) (sym steps.2),
    )

pub entry-requires : goal.entry-requires
entry-requires c =
    let i : ℕ = c.loop-number.number-iterator.count in
    let steps = c.in-Some.ensures.steps in
    let first = first_left c.args.words.items c.next.new.self.iter.rest.items i c.in-Some.words (sym steps.0.0 ∙ c.loop-number.invariant.0) in
    let short = short_at 32 c.args.words.items i c.in-Some.words c.requires.short first.0 first.1 in
    let as_long = ap (λ (ws : List ℕ). length ws) c.as_slice.ensures.value in omega (arith, short, as_long)
