-- Words have one tree: they are read back to it.
use Rattle.std.proofs.Common.{◌≡◌, refl, sym, ◌∙◌, ap, ℕ, ◌<◌, false, List, [], ◌∷◌, ◌++◌, fold, if◌then◌else◌, ◌==◌, arith}
use Rattle.std.proofs.lemmas.List.Sums.{fold-append}
use Rattle.lc_model.specs.Condition.{Operator, And, Or, Xor}
use Rattle.lc_model.specs.Tables.Equation.{operator_word, not_word}
use Rattle.lc_model.proofs.LimitChecker.ResultLaws.{front, back}
use Rattle.table_listing.specs.Formula.{Formula, Watch, Not, Join, words_of, mentioned, AreNumbers}
use Rattle.table_listing.specs.Laws.{OneTree}

joined : Operator → List Formula → List Formula
joined o (b ∷ a ∷ waiting) = Join o a b ∷ waiting
joined o waiting = waiting

negated : List Formula → List Formula
negated (a ∷ waiting) = Not a ∷ waiting
negated waiting = waiting

-- the formulas that wait after one word more, the last one first
word_read : List Formula → ℕ → List Formula
word_read waiting w =
    if w == not_word then negated waiting
    else if w == operator_word And then joined And waiting
    else if w == operator_word Or then joined Or waiting
    else if w == operator_word Xor then joined Xor waiting
    else Watch w ∷ waiting

differs : (m n : ℕ) → m < n → (m == n) ≡ false
differs m n less = grind (arith, less)

number_again : (n : ℕ) (s : List Formula) → n < 176 → word_read s n ≡ Watch n ∷ s
unfolding word_read
number_again n s below = rw (
  differs n 65284 (omega (arith, below)),
  differs n 65281 (omega (arith, below)),
  differs n 65282 (omega (arith, below)),
  differs n 65283 (omega (arith, below)),
) refl

joined_again : (o : Operator) (a b : Formula) (s : List Formula) → word_read (b ∷ a ∷ s) (operator_word o) ≡ Join o a b ∷ s
unfolding word_read joined
joined_again And a b s = refl
joined_again Or a b s = refl
joined_again Xor a b s = refl

negated_again : (a : Formula) (s : List Formula) → word_read (a ∷ s) not_word ≡ Not a ∷ s
unfolding word_read negated
negated_again a s = refl

-- reading the words of a formula leaves it
read_again : (f : Formula) → AreNumbers (mentioned f) → (s : List Formula) → fold word_read s (words_of f) ≡ f ∷ s
read_again (Watch n) numbers s = number_again n s numbers.0
read_again (Not f) numbers s =
    fold-append word_read s (words_of f) (not_word ∷ [])
    ∙ ap (λ (w : List Formula). word_read w not_word) (read_again f numbers s)
    ∙ negated_again f s
read_again (Join o a b) numbers s =
    fold-append word_read s (words_of a ++ words_of b) (operator_word o ∷ [])
    ∙ ap (λ (w : List Formula). word_read w (operator_word o))
    (fold-append word_read s (words_of a) (words_of b)
    ∙ ap (λ (w : List Formula). fold word_read w (words_of b)) (read_again a (front (λ n. n < 176) (mentioned a) (mentioned b) numbers) s)
    ∙ read_again b (back (λ n. n < 176) (mentioned a) (mentioned b) numbers) (a ∷ s))
    ∙ joined_again o a b s

pub one_tree : OneTree
one_tree ws f g first second =
    let same : f ∷ [] ≡ g ∷ [] =
    sym (read_again f first.numbers []) ∙ ap (fold word_read []) (first.words ∙ sym second.words) ∙ read_again g second.numbers [] in
    cc same
