-- Where the words of a text's actionpoints are those of its conditions, arranged in one way, the bytes spell exactly these.
use Rattle.std.proofs.Common.{◌≡◌, refl, ◌∙◌, ap, subst, ℕ, ◌≤◌, List, [], ◌∷◌, length, flat_map, Contains, arith}
use Rattle.std.specs.List.{AllZip, AllByRecursion}
use Rattle.sha2.proofs.Facts256.{length-sha256}
use Rattle.lc_model.specs.declared.field.Term.{Term}
use Rattle.lc_model.specs.declared.kind.Kind.TheVariants.{Adt}
use Rattle.lc_model.specs.Condition.{Condition}
use Rattle.lc_model.specs.Rule.{Actionpoint, NamedRule, actions}
use Rattle.lc_model.specs.Tables.Equation.{IsRearranged, mentions, terms_of, words, SpellsInOrder}
use Rattle.lc_model.specs.Tables.Image.{TableEntry, hash_of}
use Rattle.lc_model.specs.Tables.Half.{IsEntryOf, HasActionpoints, Says}
use Rattle.lc_model.specs.Tables.Spelled.{spelled_terms, spelled_rules}
use Rattle.lc_model.specs.Laws.Equations.{WordsSpell}
use Rattle.lc_model.specs.Laws.Tables.{HalvesSayTheText}
use Rattle.lc_model.specs.Laws.Correspondence.{with_conditions, ArrangedHalvesSpellTheText}
use Rattle.lc_model.proofs.Tables.Arrangements.{still_all}
use Rattle.lc_model.proofs.LimitChecker.ResultLaws.{front, back}
use Rattle.lc_model.proofs.Tables.LoweredRules.{over_own}
use Rattle.lc_model.proofs.Tables.WordsSpell.{words_spell_in}
use Rattle.lc_model.proofs.Tables.SpellsOnce.{one_condition}
use Rattle.lc_model.proofs.Tables.HalvesLaws.{sound_is_short, OneTable, one_of_two, same_but_condition, adt_hash, few_terms, halves_of_one_text}
use Rattle.lc_model.proofs.Tables.SpellingLaws.{halves_say}

module _ (arranged : Condition → Condition) (same_but_order : (c : Condition) → IsRearranged c (arranged c)) (terms : List Term) (few : length terms ≤ 65280) where
  -- the words are those of the condition, arranged
  abbrev HasItsWords : List ℕ → Condition → Type 0
  HasItsWords ws c = ws ≡ words terms (arranged c)

  -- an entry with a rule's own words spells that rule, arranged
  one_rule : (a b : Actionpoint) (e : TableEntry) → AllByRecursion (Contains terms) (mentions a.condition) →
      IsEntryOf HasItsWords a e → IsEntryOf (SpellsInOrder terms) b e → b ≡ record a { condition = arranged a.condition }
  one_rule a b e over first second =
      let c : Condition = arranged a.condition in
      let own : WordsSpell terms c = words_spell_in terms c (still_all (Contains terms) (same_but_order a.condition) over) in
      let spelled : SpellsInOrder terms (words terms c) b.condition = subst (λ (ws : List ℕ). SpellsInOrder terms ws b.condition) first.1 second.1 in
      let same : b.condition ≡ c = one_condition terms few (words terms c) b.condition c spelled own.spell in
      same_but_condition HasItsWords (SpellsInOrder terms) a b e first second ∙ ap (λ (d : Condition). record a { condition = d }) same

  one_rules : (rules : List NamedRule) (said : List Actionpoint) (es : List TableEntry) →
      AllByRecursion (Contains terms) (flat_map (λ (rule : NamedRule). mentions rule.action.condition) rules) →
      AllZip (IsEntryOf HasItsWords) (actions rules) es → AllZip (IsEntryOf (SpellsInOrder terms)) said es → said ≡ with_conditions arranged (actions rules)
  one_rules [] [] es over a b = refl
  one_rules [] (y ∷ said) [] over a b = absurd b
  one_rules [] (y ∷ said) (e ∷ es) over a b = absurd a
  one_rules (rule ∷ rules) [] [] over a b = absurd a
  one_rules (rule ∷ rules) [] (e ∷ es) over a b = absurd b
  one_rules (rule ∷ rules) (y ∷ said) [] over a b = absurd a
  one_rules (rule ∷ rules) (y ∷ said) (e ∷ es) over a b =
      let others : List Term = flat_map (λ (rule : NamedRule). mentions rule.action.condition) rules in
      let put : Actionpoint = record rule.action { condition = arranged rule.action.condition } in
      let here : y ≡ put = one_rule rule.action y e (front (Contains terms) (mentions rule.action.condition) others over) a.0 b.0 in
      let rest : said ≡ with_conditions arranged (actions rules) = one_rules rules said es (back (Contains terms) (mentions rule.action.condition) others over) a.1 b.1 in
      λ i. here i ∷ rest i

pub arranged_halves_spell_the_text : ArrangedHalvesSpellTheText
arranged_halves_spell_the_text arranged same_but_order layouts text wdt adt reads wdt_half adt_half has_words =
    let terms : List Term = terms_of text.rules in
    let said : List Actionpoint = spelled_rules layouts wdt adt in
    let halves : HalvesSayTheText layouts text.source wdt adt text.rules = halves_of_one_text layouts text.source wdt adt text.rules reads wdt_half adt_half in
    let says : Says wdt adt (spelled_terms wdt) said = halves_say layouts text wdt adt reads wdt_half adt_half in
    let same : spelled_terms wdt ≡ terms = (halves.say (spelled_terms wdt) said says).0 in
    let spelled : HasActionpoints (SpellsInOrder terms) (hash_of adt) (length terms) said adt =
    subst (λ (ts : List Term). HasActionpoints (SpellsInOrder ts) (hash_of adt) (length ts) said adt) same says.actionpoints in
    let long : length (hash_of adt) ≡ 32 =
    ap (λ (h : List ℕ). length h) (adt_hash layouts text.source wdt adt text.rules reads wdt_half adt_half) ∙ length-sha256 text.source in
    let both : OneTable (λ ws c. ws ≡ words terms (arranged c)) (SpellsInOrder terms) (actions text.rules) said =
    one_of_two (hash_of adt) (length terms) (actions text.rules) said adt long (sound_is_short layouts Adt adt adt_half.2) has_words spelled in
    let few : length terms ≤ 19400 = few_terms layouts text.source wdt adt text.rules reads wdt_half adt_half in
    (same, one_rules arranged same_but_order terms (omega (arith, few)) text.rules said both.entries (over_own text.rules) both.first both.second)
