-- The bytes of the two halves of a text spell its terms and its rules.
use Rattle.std.proofs.Common.{◌≡◌, sym, subst, ap, ℕ, List, [], ◌∷◌}
use Rattle.std.specs.List.{AllZip}
use Rattle.lc_model.specs.declared.kind.Kind.TheVariants.{Wdt, Adt}
use Rattle.lc_model.specs.Condition.{Condition}
use Rattle.lc_model.specs.Rule.{Actionpoint}
use Rattle.lc_model.specs.Tables.Equation.{IsRearranged}
use Rattle.lc_model.specs.Text.Reading.{Reads}
use Rattle.lc_model.specs.Tables.Image.{Layout}
use Rattle.lc_model.specs.Tables.Half.{Says, IsHalf}
use Rattle.lc_model.specs.Tables.HalvesAndBytes.{Text}
use Rattle.lc_model.specs.Rule.{actions}
use Rattle.lc_model.specs.Tables.Spelled.{spelled_terms, spelled_rules}
use Rattle.lc_model.specs.Laws.Tables.{IsSameRule, HalvesSayTheText}
use Rattle.lc_model.specs.Laws.Correspondence.{HalvesSpellTheText, BytesAgreeWithTexts, BytesFollowTexts}
use Rattle.lc_model.proofs.Tables.HalvesLaws.{halves_of_one_text}
use Rattle.lc_model.proofs.Tables.HalfBytes.{wdt_is_bytes, adt_is_bytes}
use Rattle.lc_model.proofs.Tables.SaidLaws.{what_is_said}
use Rattle.lc_model.proofs.Tables.AgreeLaws.{spelling_suffices}

-- operands in either order, the other way
rearranged_back : {c d : Condition} → IsRearranged c d → IsRearranged d c
rearranged_back IsRearranged.mention = IsRearranged.mention
rearranged_back (IsRearranged.negation r) = IsRearranged.negation (rearranged_back r)
rearranged_back (IsRearranged.in_order r s) = IsRearranged.in_order (rearranged_back r) (rearranged_back s)
rearranged_back (IsRearranged.turned r s) = IsRearranged.turned (rearranged_back s) (rearranged_back r)

same_rule_back : (a b : Actionpoint) → IsSameRule a b → IsSameRule b a
same_rule_back a b same =
    let condition : same.0 ≡ b.condition = sym (ap (λ (x : Actionpoint). x.condition) same.1) in
    (a.condition, ap (λ (x : Actionpoint). record x { condition = a.condition }) (sym same.1), rearranged_back (subst (IsRearranged a.condition) condition same.2))

same_rules_back : (xs ys : List Actionpoint) → AllZip IsSameRule xs ys → AllZip IsSameRule ys xs
same_rules_back [] [] all = tt
same_rules_back [] (y ∷ ys) all = absurd all
same_rules_back (x ∷ xs) [] all = absurd all
same_rules_back (x ∷ xs) (y ∷ ys) all = (same_rule_back x y all.0, same_rules_back xs ys all.1)

-- what is computed of the two halves is what they say
pub halves_say : (layouts : List Layout) (text : Text) (wdt adt : List ℕ) → Reads text.source text.rules → IsHalf layouts Wdt wdt text.source →
    IsHalf layouts Adt adt text.source → Says wdt adt (spelled_terms wdt) (spelled_rules layouts wdt adt)
halves_say layouts text wdt adt reads wdt_half adt_half =
    what_is_said layouts wdt adt (wdt_is_bytes layouts wdt text.source wdt_half) (adt_is_bytes layouts adt text.source adt_half) wdt_half.2 adt_half.2
    (halves_of_one_text layouts text.source wdt adt text.rules reads wdt_half adt_half).match

pub halves_spell_the_text : HalvesSpellTheText
halves_spell_the_text layouts text wdt adt reads wdt_half adt_half =
    let halves : HalvesSayTheText layouts text.source wdt adt text.rules =
    halves_of_one_text layouts text.source wdt adt text.rules reads wdt_half adt_half in
    let same = halves.say (spelled_terms wdt) (spelled_rules layouts wdt adt) (halves_say layouts text wdt adt reads wdt_half adt_half) in
    (same.0, same_rules_back (actions text.rules) (spelled_rules layouts wdt adt) same.1)

pub bytes_agree_with_texts : BytesAgreeWithTexts
bytes_agree_with_texts = (spelling_suffices halves_spell_the_text).0

pub bytes_follow_texts : BytesFollowTexts
bytes_follow_texts = (spelling_suffices halves_spell_the_text).1
