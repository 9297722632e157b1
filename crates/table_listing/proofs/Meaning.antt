-- The tree of a sound equation means what its words mean.
use Rattle.std.proofs.Common.{◌≡◌, refl, sym, ◌∙◌, ap, ap₂, subst, ℕ, zero, suc, ◌<◌, Bool, true, false, ◌&&◌, List, [], ◌∷◌, ◌++◌, length, nat_lt, nat_le, slice_get, Some, Option, unwrap_or, option_map, arith}
use Rattle.std.specs.List.{list_any, AllByRecursion}
use Rattle.lc_model.specs.declared.field.Term.{Term}
use Rattle.lc_model.specs.declared.truth.Truth.{Truth}
use Rattle.lc_model.specs.declared.truth.Truth.TheVariants.{Stale}
use Rattle.lc_model.specs.Truth.{truth_not}
use Rattle.lc_model.specs.Codes.{table_entries}
use Rattle.lc_model.specs.Condition as condition
use Rattle.lc_model.specs.Condition.{Condition}
use Rattle.lc_model.specs.LimitChecker.Watch.{combined, truth_by}
use Rattle.lc_model.specs.Tables.Equation as equation
use Rattle.lc_model.specs.Tables.Equation.{SpellsInOrder, operator_word, not_word}
use Rattle.lc_model.specs.Tables.Image.{equation_tests}
use Rattle.lc_model.proofs.Facts.{or_first, or_second, and_other, test_less}
use Rattle.lc_model.proofs.LimitChecker.ResultLaws.{front, back}
use Rattle.lc_model.proofs.Tables.SoundWords.{none_stands, list_any-append}
use Rattle.lc_model.proofs.Tables.SpellsOnce.{computed}
use Rattle.table_listing.specs.Formula.{Formula, Watch, Not, Join, words_of, mentioned, AreNumbers, IsOver, mention, negation, binary, value, found_at}
use Rattle.table_listing.specs.Laws.{TreesMeanAsTheirWords}

list_any-front : (p : ℕ → Bool) (xs ys : List ℕ) → list_any p (xs ++ ys) ≡ false → list_any p xs ≡ false
list_any-front p xs ys none = or_first (list_any p xs) (list_any p ys) (sym (list_any-append p xs ys) ∙ none)

list_any-back : (p : ℕ → Bool) (xs ys : List ℕ) → list_any p (xs ++ ys) ≡ false → list_any p ys ≡ false
list_any-back p xs ys none = or_second (list_any p xs) (list_any p ys) (sym (list_any-append p xs ys) ∙ none)

both_below : (count : ℕ) (xs ys : List ℕ) → AllByRecursion (λ n. n < count) xs → AllByRecursion (λ n. n < count) ys → AllByRecursion (λ n. n < count) (xs ++ ys)
both_below count [] ys first second = second
both_below count (x ∷ xs) ys first second = (first.0, both_below count xs ys first.1 second)

one_below : (count n : ℕ) → n < 176 → (nat_lt n 176 && nat_le count n) ≡ false → n < count
one_below count n small none =
    let known : nat_lt n 176 ≡ true = test_less n 176 small in
    let less : nat_le count n ≡ false = and_other (nat_lt n 176) (nat_le count n) known none in
    grind (arith, less)

module _ (count : ℕ) where
  abbrev missing : ℕ → Bool
  missing w = nat_lt w table_entries && nat_le count w

  -- the numbers of a formula are below the count, where none of its words is a number that isn't
  below : (f : Formula) → AreNumbers (mentioned f) → list_any missing (words_of f) ≡ false → AllByRecursion (λ n. n < count) (mentioned f)
  below (Watch n) numbers none = (one_below count n numbers.0 (or_first (missing n) false none), tt)
  below (Not f) numbers none = below f numbers (list_any-front missing (words_of f) (not_word ∷ []) none)
  below (Join o a b) numbers none =
      let operands = list_any-front missing (words_of a ++ words_of b) (operator_word o ∷ []) none in
      both_below count (mentioned a) (mentioned b)
      (below a (front (λ n. n < 176) (mentioned a) (mentioned b) numbers) (list_any-front missing (words_of a) (words_of b) operands))
      (below b (back (λ n. n < 176) (mentioned a) (mentioned b) numbers) (list_any-back missing (words_of a) (words_of b) operands))

-- each number below the length has a watchpoint
numbered : (terms : List Term) (n : ℕ) → n < length terms → (t : Term) × (slice_get terms n ≡ Some t)
numbered [] n less = absurd (omega (arith, less))
numbered (t ∷ terms) zero less = (t, refl)
numbered (t ∷ terms) (suc n) less = numbered terms n (omega (arith, less))

module _ (terms : List Term) where
  -- the condition that is a formula over these watchpoints
  pub over : (f : Formula) → AllByRecursion (λ n. n < length terms) (mentioned f) → (c : Condition) × IsOver terms f c
  over (Watch n) all = let t : (t : Term) × (slice_get terms n ≡ Some t) = numbered terms n all.0 in (condition.Watch t.0, mention t.1)
  over (Not f) all = let c : (c : Condition) × IsOver terms f c = over f all in (condition.Not c.0, negation c.1)
  over (Join o a b) all =
      let c : (c : Condition) × IsOver terms a c = over a (front (λ n. n < length terms) (mentioned a) (mentioned b) all) in
      let d : (c : Condition) × IsOver terms b c = over b (back (λ n. n < length terms) (mentioned a) (mentioned b) all) in
      (condition.Join o c.0 d.0, binary o c.1 d.1)

  -- its words spell it
  pub spells : {f : Formula} {c : Condition} → IsOver terms f c → SpellsInOrder terms (words_of f) c
  spells (mention there) = equation.mention there
  spells (negation is) = equation.negation (spells is)
  spells (binary o first second) = equation.binary o (spells first) (spells second)

  -- it has the formula's value
  pub same_value : (found : Term → Truth) {f : Formula} {c : Condition} → IsOver terms f c → truth_by found c ≡ value (found_at terms found) f
  same_value found (mention there) = sym (ap (λ (t : Option Term). unwrap_or (option_map found t) Stale) there)
  same_value found (negation is) = ap truth_not (same_value found is)
  same_value found (binary o first second) = ap₂ (combined o) (same_value found first) (same_value found second)

pub trees_mean_as_their_words : TreesMeanAsTheirWords
trees_mean_as_their_words terms ws f few sound tree =
    let tests = none_stands (equation_tests (length terms) ws) sound.passes in
    let none : list_any (missing (length terms)) (words_of f) ≡ false = ap (list_any (missing (length terms))) tree.words ∙ tests.1.0 in
    let c : (c : Condition) × IsOver terms f c = over terms f (below (length terms) f tree.numbers none) in
    record {
      condition = c.0;
      spelled = computed terms (omega (arith, few)) (subst (λ us. SpellsInOrder terms us c.0) tree.words (spells terms c.1));
      over = c.1;
      same = λ found. same_value terms found c.1;
    }
