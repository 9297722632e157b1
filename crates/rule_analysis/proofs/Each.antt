-- What holds of each item of a list.
use Rattle.std.proofs.Common.{◌≡◌, ℕ, ◌+◌, ◌≤◌, ◌<◌, List, [], ◌∷◌, ◌++◌, take, length, map, get_or, slice_get, ap, sym, subst, zero, suc, arith, Some}
use Rattle.std.specs.List.{AllByRecursion, AllZip}
use Rattle.std.proofs.lemmas.List.{take_all, take_more}

pub both : {A : Type 0} (P : A → Type 0) (xs ys : List A) → AllByRecursion P xs → AllByRecursion P ys → AllByRecursion P (xs ++ ys)
both P [] ys here there = there
both P (x ∷ xs) ys here there = (here.0, both P xs ys here.1 there)

pub each : {A : Type 0} {P Q : A → Type 0} (xs : List A) → ((x : A) → P x → Q x) → AllByRecursion P xs → AllByRecursion Q xs
each [] step all = tt
each (x ∷ xs) step all = (step x all.0, each xs step all.1)

-- one item further
pub one_more : {A : Type 0} (P : A → Type 0) (xs : List A) (i : ℕ) (d : A) → i < length xs → AllByRecursion P (take i xs) → P (get_or xs i d) →
    AllByRecursion P (take (i + 1) xs)
one_more P xs i d below all here = subst (AllByRecursion P) (sym (take_more xs i d below)) (both P (take i xs) (get_or xs i d ∷ []) all (here, tt))

pub whole : {A : Type 0} (P : A → Type 0) (xs : List A) (i : ℕ) → length xs ≤ i → AllByRecursion P (take i xs) → AllByRecursion P xs
whole P xs i past all = subst (AllByRecursion P) (take_all i xs past) all

-- ---- two lists

pub zip_more : {A B : Type 0} (R : A → B → Type 0) (xs : List A) (ys : List B) (x : A) (y : B) → AllZip R xs ys → R x y → AllZip R (xs ++ x ∷ []) (ys ++ y ∷ [])
zip_more R [] [] x y all here = (here, tt)
zip_more R [] (z ∷ ys) x y all here = absurd all
zip_more R (z ∷ xs) [] x y all here = absurd all
zip_more R (z ∷ xs) (w ∷ ys) x y all here = (all.0, zip_more R xs ys x y all.1 here)

-- one pair further
pub one_pair_more : {A B : Type 0} (R : A → B → Type 0) (xs : List A) (i : ℕ) (d : A) (ys now : List B) (y : B) → i < length xs → AllZip R (take i xs) ys →
    R (get_or xs i d) y → now ≡ ys ++ y ∷ [] → AllZip R (take (i + 1) xs) now
one_pair_more R xs i d ys now y below all here is =
    subst (λ zs. AllZip R (take (i + 1) xs) zs) (sym is)
    (subst (λ zs. AllZip R zs (ys ++ y ∷ [])) (sym (take_more xs i d below)) (zip_more R (take i xs) ys (get_or xs i d) y all here))

pub all_pairs : {A B : Type 0} (R : A → B → Type 0) (xs : List A) (i : ℕ) (ys : List B) → length xs ≤ i → AllZip R (take i xs) ys → AllZip R xs ys
all_pairs R xs i ys past all = subst (λ zs. AllZip R zs ys) (take_all i xs past) all

pub mapped_pairs : {A B C : Type 0} (f : A → B) (R : B → C → Type 0) (xs : List A) (ys : List C) → AllZip (λ x y. R (f x) y) xs ys → AllZip R (map f xs) ys
mapped_pairs f R [] [] all = tt
mapped_pairs f R [] (y ∷ ys) all = absurd all
mapped_pairs f R (x ∷ xs) [] all = absurd all
mapped_pairs f R (x ∷ xs) (y ∷ ys) all = (all.0, mapped_pairs f R xs ys all.1)

-- ---- what stands at a place

pub there_mapped : {A B : Type 0} (f : A → B) (xs : List A) (k : ℕ) (x : A) → k < length xs → x ≡ get_or xs k x → slice_get (map f xs) k ≡ Some (f x)
there_mapped f [] k x below is = absurd (omega (arith, below))
there_mapped f (y ∷ xs) zero x below is = ap (λ z. Some (f z)) (sym is)
there_mapped f (y ∷ xs) (suc k) x below is = there_mapped f xs k x (omega (arith, below)) is
