-- How many records are so, with one more.
use Rattle.std.proofs.Common.{◌≡◌, refl, ap, ◌∙◌, ℕ, ◌+◌, Bool, true, false, List, [], ◌∷◌, ◌++◌, filter, length, length-append, arith}
use Rattle.std.proofs.lemmas.List.Elements.{filter-append}
use Rattle.run_account.specs.Account.{Seen, number}
use Rattle.run_account.specs.Clock.{add, capped, more_if}

capped_more : (n : ℕ) → capped (n + 1) ≡ add (capped n) 1
capped_more n = omega arith

pub counted_more : {X : Type 0} (all : List X) (one : X) → capped (length (all ++ one ∷ [])) ≡ add (capped (length all)) 1
counted_more all one = ap capped (length-append all (one ∷ [])) ∙ capped_more (length all)

by_test : (is : Seen → Bool) (all : List Seen) (one : Seen) (b : Bool) → is one ≡ b → capped (length (filter is all ++ filter is (one ∷ []))) ≡ more_if b (capped (length (filter is all)))
by_test is all one true test = rw test (counted_more (filter is all) one)
by_test is all one false test = rw test (ap capped (length-append (filter is all) []) ∙ ap capped (omega arith))

pub number_more : (is : Seen → Bool) (all : List Seen) (one : Seen) → number is (all ++ one ∷ []) ≡ more_if (is one) (number is all)
number_more is all one = ap (λ found. capped (length found)) (filter-append is all (one ∷ [])) ∙ by_test is all one (is one) refl
