-- One text more of those that lie one behind the other.
use Rattle.std.proofs.Common.{◌≡◌, ◌∙◌, ap, sym, refl, ℕ, ◌+◌, ◌-◌, ◌<◌, ◌≤◌, List, [], ◌∷◌, ◌++◌, length, take, drop, slice_index_or, arith, append-nil}
use Rattle.std.specs.List.{fold, sum}
use Rattle.std.proofs.lemmas.List.{append_assoc}
use Rattle.std.proofs.Math.Seq.{take-length}
use Rattle.c_interface.specs.Texts.{texts_in}

-- what is left behind the first of at least one
abbrev behind_first : List ℕ → List ℕ
behind_first others = take (length others - 1) (drop 1 others)

behind_is : (x : ℕ) (xs : List ℕ) → behind_first (x ∷ xs) ≡ xs
behind_is x xs = let one : length (x ∷ xs) - 1 ≡ length xs = omega arith in ap (λ n. take n xs) one ∙ take-length xs

first_and_rest : (others : List ℕ) → 1 ≤ length others → others ≡ slice_index_or others 0 0 ∷ behind_first others
first_and_rest [] some = absurd (omega (arith, some))
first_and_rest (x ∷ xs) some = ap (λ (rest : List ℕ). x ∷ rest) (sym (behind_is x xs))

texts_by_parts : (left : List ℕ) (first : ℕ) (rest : List ℕ) → texts_in left (first ∷ rest) ≡ take first left ∷ texts_in (drop first left) rest
unfolding texts_in
texts_by_parts left first rest = refl

sum_from : (a : ℕ) (xs : List ℕ) → fold ◌+◌ a xs ≡ a + sum xs
sum_from a [] = omega arith
sum_from a (x ∷ xs) = omega (arith, sum_from (a + x) xs, sum_from (0 + x) xs)

-- of so many bytes the others are what the first leaves
pub counts_left : (first left : ℕ) (others behind : List ℕ) → 1 ≤ length others → first ≡ slice_index_or others 0 0 → sum others ≡ left → length behind ≡ left - first →
    sum (behind_first others) ≡ length behind
counts_left first left [] behind some is whole long = absurd (omega (arith, some))
counts_left first left (x ∷ xs) behind some is whole long =
    let rest : behind_first (x ∷ xs) ≡ xs = behind_is x xs in
    let left_over : sum (behind_first (x ∷ xs)) ≡ sum xs = ap (λ (o : List ℕ). sum o) rest in
    let total : x + sum xs ≡ left = omega (arith, sum_from (0 + x) xs, whole) in
    let same : first ≡ x = is in
    omega (arith, left_over, same, total, long)

pub one_more : (sources more : List (List ℕ)) (left behind text others : List ℕ) (first : ℕ) (all : List (List ℕ)) → 1 ≤ length others → first ≡ slice_index_or others 0 0
    → text ≡ take first left → behind ≡ drop first left → more ≡ sources ++ text ∷ [] → sources ++ texts_in left others ≡ all
    → more ++ texts_in behind (behind_first others) ≡ all
one_more sources more left behind text others first all some is front back grows same =
    let whole : others ≡ first ∷ behind_first others = first_and_rest others some ∙ ap (λ (x : ℕ). x ∷ behind_first others) (sym is) in
    (λ i. grows i ++ texts_in (back i) (behind_first others))
    ∙ append_assoc sources (text ∷ []) (texts_in (drop first left) (behind_first others))
    ∙ ap (λ (t : List ℕ). sources ++ (t ∷ texts_in (drop first left) (behind_first others))) front
    ∙ ap (λ (texts : List (List ℕ)). sources ++ texts) (sym (texts_by_parts left first (behind_first others)))
    ∙ ap (λ (o : List ℕ). sources ++ texts_in left o) (sym whole)
    ∙ same

pub none_left : (left : List ℕ) (others : List ℕ) (sources all : List (List ℕ)) → length others < 1 → sources ++ texts_in left others ≡ all → sources ≡ all
unfolding texts_in
none_left left [] sources all none same = sym (append-nil sources) ∙ same
none_left left (x ∷ others) sources all none same = absurd (omega (arith, none))
