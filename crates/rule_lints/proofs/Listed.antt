-- What a loop over items or over the names of a comment leaves.
use Rattle.std.proofs.Common.{◌≡◌, ◌≤◌, ◌++◌, ◌∙◌, ℕ, List, [], ◌∷◌, flat_map, length, suc, take, refl, sym, ap, arith, subst}
use Rattle.std.proofs.lemmas.List.{take_all, take_at}
use denote.Ref.{Bor}
use Rattle.lc_model.specs.Text.Syntax as model
use Rattle.rule_parser.specs.declared.syntax.Item.{Item}
use Rattle.rule_parser.specs.Syntax.{item_of, items_of}
use Rattle.rule_lints.specs.Words.{texts_of}

of_items : {A : Type 0} (f : model.Item → List A) (items : List Item) → flat_map (λ (i : Item). f (item_of i)) items ≡ flat_map f (items_of items)
of_items f [] = refl
of_items f (item ∷ items) = ap (λ found. f (item_of item) ++ found) (of_items f items)

-- what the first so many items give is what all give
pub of_all : {A : Type 0} (f : model.Item → List A) (first found : List A) (items : List Item) (n : ℕ)
    → found ≡ first ++ flat_map (λ (i : Item). f (item_of i)) (take n items) → length items ≤ n
    → found ≡ first ++ flat_map f (items_of items)
of_all f first found items n so_far all =
    so_far
    ∙ ap (λ (front : List Item). first ++ flat_map (λ (i : Item). f (item_of i)) front) (take_all n items all)
    ∙ ap (λ behind. first ++ behind) (of_items f items)

length_of : (names : List (Bor (List ℕ))) → length (texts_of names) ≡ length names
length_of [] = refl
length_of (name ∷ names) = ap suc (length_of names)

append_none : (names left : List (List ℕ)) → left ≡ [] → names ++ left ≡ names
append_none [] left none = none
append_none (name ∷ names) left none = ap (λ behind. name ∷ behind) (append_none names left none)

-- names that are all of a comment, and no more than are taken, are those that are taken
pub are_all : (names : List (Bor (List ℕ))) (left whole : List (List ℕ)) (n : ℕ) → texts_of names ++ left ≡ whole → left ≡ []
    → length names ≤ n → texts_of names ≡ take n whole
are_all names left whole n so_far none few =
    sym (append_none (texts_of names) left none) ∙ so_far
    ∙ sym (take_all n whole (subst (λ count. count ≤ n) (sym (ap length (sym so_far ∙ append_none (texts_of names) left none) ∙ length_of names)) few))

are_first : (names : List (Bor (List ℕ))) (left whole : List (List ℕ)) (n : ℕ) → texts_of names ++ left ≡ whole
    → length names ≡ n → texts_of names ≡ take n whole
are_first names left whole n so_far many =
    sym (take_at (texts_of names) left n (length_of names ∙ many)) ∙ ap (take n) so_far

-- as many as are taken are those
pub are_enough : (names : List (Bor (List ℕ))) (left whole : List (List ℕ)) (n count : ℕ) → texts_of names ++ left ≡ whole
    → length names ≡ count → n ≤ count → count ≤ n → texts_of names ≡ take n whole
are_enough names left whole n count so_far many enough most =
    are_first names left whole n so_far (many ∙ omega arith)
