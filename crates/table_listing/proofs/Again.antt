-- The tree of a sound equation, compiled again.
use Rattle.std.proofs.Common.{◌≡◌, refl, sym, ◌∙◌, ap, ap₂, ℕ, zero, suc, ◌+◌, ◌≤◌, false, max, List, [], ◌∷◌, ◌++◌, length, nat_lt, slice_get, Some, Contains, length-append, arith}
use Rattle.std.specs.List.{AllByRecursion}
use Rattle.lc_model.specs.declared.field.Term.{Term}
use Rattle.lc_model.specs.Condition as condition
use Rattle.lc_model.specs.Condition.{Condition}
use Rattle.lc_model.specs.Tables.Equation as equation
use Rattle.lc_model.specs.Tables.Equation.{mentions, words, size, number_in, operator_word, not_word, heavier_first}
use Rattle.lc_model.specs.Tables.InForce.{arranged}
use Rattle.lc_model.specs.Laws.Equations.{IsLight, WordsSpell}
use Rattle.lc_model.proofs.Facts.{test_not_less}
use Rattle.lc_model.proofs.LimitChecker.Reordered.{same_truth_by}
use Rattle.lc_model.proofs.LimitChecker.ResultLaws.{front, back}
use Rattle.lc_model.proofs.Tables.Arrangements.{still_all}
use Rattle.lc_model.proofs.Tables.Light.{light}
use Rattle.lc_model.proofs.Tables.SaidLaws.{all_append}
use Rattle.lc_model.proofs.Tables.SoundWords.{sound_words_spell}
use Rattle.lc_model.proofs.Tables.SpellsOnce.{computed}
use Rattle.lc_model.proofs.Tables.WordsSpell.{words_spell_in}
use Rattle.table_listing.specs.Formula.{Formula, words_of, mentioned, IsOver, mention, negation, binary, need, StandsHeavierFirst, KeepsNumbers}
use Rattle.table_listing.specs.Laws.{CompiledAgainMeansTheSame, CompiledAgainIsTheSame}
use Rattle.table_listing.proofs.Meaning.{same_value}

contained : (terms : List Term) (n : ℕ) (t : Term) → slice_get terms n ≡ Some t → Contains terms t
contained [] n t there = absurd (cc there)
contained (u ∷ terms) zero t there = (zero, omega arith, cc there)
contained (u ∷ terms) (suc n) t there =
    let later : Contains terms t = contained terms n t there in
    (suc later.0, omega (arith, later.1), later.2)

-- the watchpoints that a condition over these mentions are among them
among : (terms : List Term) {f : Formula} {c : Condition} → IsOver terms f c → AllByRecursion (Contains terms) (mentions c)
among terms (mention {n = n} {t = t} there) = (contained terms n t there, tt)
among terms (negation is) = among terms is
among terms (binary {c = c} {d = d} o first second) = all_append (Contains terms) (mentions c) (mentions d) (among terms first) (among terms second)

-- it has as many words as the formula
as_many : (terms : List Term) {f : Formula} {c : Condition} → IsOver terms f c → size c ≡ length (words_of f)
as_many terms (mention there) = refl
as_many terms (negation {f = f} is) = omega (arith, as_many terms is, length-append (words_of f) (not_word ∷ []))
as_many terms (binary {a = a} {b = b} o first second) = omega (
  arith,
  as_many terms first,
  as_many terms second,
  length-append (words_of a ++ words_of b) (operator_word o ∷ []),
  length-append (words_of a) (words_of b),
)

pub compiled_again_means_the_same : CompiledAgainMeansTheSame
compiled_again_means_the_same terms ws f c few short sound tree over =
    let l : IsLight c = light c in
    let spelled : WordsSpell terms (arranged c) = words_spell_in terms (arranged c) (still_all (Contains terms) l.same (among terms over)) in
    let fits : equation.need (arranged c) ≤ 5 = l.thirty_two (omega (arith, as_many terms over, ap length tree.words, short)) in
    record {
      runs = record {
        sound = (sound_words_spell (length terms) (words terms (arranged c)) few).1 (equation.need (arranged c), omega (arith, fits), spelled.equation);
        spelled = computed terms (omega (arith, few)) spelled.spell;
      };
      same = λ found. sym (same_truth_by found l.same) ∙ same_value terms found over;
    }

-- a condition over watchpoints has the formula's need
same_need : (terms : List Term) {f : Formula} {c : Condition} → IsOver terms f c → equation.need c ≡ need f
same_need terms (mention there) = refl
same_need terms (negation is) = same_need terms is
same_need terms (binary o first second) = ap₂ (λ k l. max k (l + 1)) (same_need terms first) (same_need terms second)

-- where the heavier operand stands first, nothing is exchanged
stays : (terms : List Term) {f : Formula} {c : Condition} → IsOver terms f c → StandsHeavierFirst f → heavier_first c ≡ c
stays terms (mention there) heavier = refl
stays terms (negation is) heavier = ap condition.Not (stays terms is heavier)
stays terms (binary {a = a} {b = b} {c = c} {d = d} o first second) heavier =
    let one : heavier_first c ≡ c = stays terms first heavier.0 in
    let two : heavier_first d ≡ d = stays terms second heavier.1 in
    let kept : nat_lt (equation.need (heavier_first c)) (equation.need (heavier_first d)) ≡ false =
    test_not_less (equation.need (heavier_first c)) (equation.need (heavier_first d))
    (omega (arith, ap equation.need one, ap equation.need two, same_need terms first, same_need terms second, heavier.2)) in
    rw kept (ap₂ (condition.Join o) one two)

-- where watchpoints keep their numbers, the words are the formula's
same_words : (terms : List Term) {f : Formula} {c : Condition} → IsOver terms f c → KeepsNumbers terms f → words terms c ≡ words_of f
same_words terms (mention {n = n} {t = t} there) keeps = ap (λ m. m ∷ []) (keeps.0 t there)
same_words terms (negation is) keeps = ap (λ us. us ++ not_word ∷ []) (same_words terms is keeps)
same_words terms (binary {a = a} {b = b} o first second) keeps =
    ap₂ (λ us vs. us ++ vs ++ operator_word o ∷ [])
    (same_words terms first (front (λ n. (t : Term) → slice_get terms n ≡ Some t → number_in terms t ≡ n) (mentioned a) (mentioned b) keeps))
    (same_words terms second (back (λ n. (t : Term) → slice_get terms n ≡ Some t → number_in terms t ≡ n) (mentioned a) (mentioned b) keeps))

pub compiled_again_is_the_same : CompiledAgainIsTheSame
compiled_again_is_the_same terms ws f c tree over heavier keeps =
    ap (words terms) (stays terms over heavier) ∙ same_words terms over keeps ∙ tree.words
