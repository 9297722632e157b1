-- The first object that passes a test, as a loop finds it.
use Rattle.std.proofs.Common.{◌≡◌, ℕ, ◌+◌, ◌<◌, Bool, true, false, List, [], ◌∷◌, Option, Some, None, map, refl, ap, ◌∙◌, sym, length, cond, suc, zero, arith, get_or, set, drop, take, count_by}
use Rattle.std.specs.Prelude.{option_map, is_some, find}
use Rattle.std.specs.List.{position_from}
use Rattle.std.proofs.lemmas.List.{drop_more, length-map, map-set, get_or-set_same}
use Rattle.std.proofs.lemmas.List.Sums.{count_by_more_yes, count_by_more_no}
use Rattle.std.proofs.lemmas.Option.{same_Some}
use Rattle.lc_model.specs.Name.{Name}
use Rattle.lc_model.specs.Kept.Executive.{is_seated, seat_of}
use Rattle.app_host.specs.Hosted.{Object, member_of}

get_or-map : {B M : Type 0} (f : B → M) (xs : List B) (i : ℕ) (d : B) → get_or (map f xs) i (f d) ≡ f (get_or xs i d)
get_or-map f [] i d = refl
get_or-map f (x ∷ xs) zero d = refl
get_or-map f (x ∷ xs) (suc i) d = get_or-map f xs i d

-- an element of a list, as it is shown
pub shown_at : {B M : Type 0} (f : B → M) (xs : List B) (i : ℕ) (x : B) (d : M) → i < length xs → x ≡ get_or xs i x → get_or (map f xs) i d ≡ f x
shown_at f [] i x d less is = absurd (omega arith)
shown_at f (y ∷ xs) zero x d less is = ap f (sym is)
shown_at f (y ∷ xs) (suc i) x d less is = shown_at f xs i x d (omega arith) is

pub shown_in : {B M : Type 0} (f : B → M) (xs : List B) (i : ℕ) (x : B) (d : M) → i < length xs → get_or (map f xs) i d ≡ f (get_or xs i x)
shown_in f [] i x d less = absurd (omega arith)
shown_in f (y ∷ xs) zero x d less = refl
shown_in f (y ∷ xs) (suc i) x d less = shown_in f xs i x d (omega arith)

step : {B M : Type 0} (f : B → M) (p : M → Bool) (xs : List B) (i : ℕ) (x : B) → i < length xs → x ≡ get_or xs i x
    → position_from p i (drop i (map f xs)) ≡ cond (p (f x)) (Some i) (position_from p (i + 1) (drop (i + 1) (map f xs)))
step f p xs i x lt e =
    let within : i < length (map f xs) = rw length-map lt
    in let here : get_or (map f xs) i (f x) ≡ f x = get_or-map f xs i x ∙ ap f (sym e)
    in ap (position_from p i) (drop_more (map f xs) i (f x) within) ∙ ap (λ m. cond (p m) (Some i) (position_from p (i + 1) (drop (i + 1) (map f xs)))) here

pub miss : {B M : Type 0} (f : B → M) (p : M → Bool) (xs : List B) (i : ℕ) (x : B) (r : Option ℕ) → i < length xs → x ≡ get_or xs i x → p (f x) ≡ false
    → position_from p i (drop i (map f xs)) ≡ r → position_from p (i + 1) (drop (i + 1) (map f xs)) ≡ r
miss f p xs i x r lt e bad h = sym (step f p xs i x lt e ∙ ap (λ b. cond b (Some i) (position_from p (i + 1) (drop (i + 1) (map f xs)))) bad) ∙ h

pub hit : {B M : Type 0} (f : B → M) (p : M → Bool) (xs : List B) (i : ℕ) (x : B) (r : Option ℕ) → i < length xs → x ≡ get_or xs i x → p (f x) ≡ true
    → position_from p i (drop i (map f xs)) ≡ r → Some i ≡ r
hit f p xs i x r lt e good h = sym (step f p xs i x lt e ∙ ap (λ b. cond b (Some i) (position_from p (i + 1) (drop (i + 1) (map f xs)))) good) ∙ h

-- a test of what is shown
pub through : {M N : Type 0} (f : M → N) (p : N → Bool) (i : ℕ) (xs : List M) → position_from p i (map f xs) ≡ position_from (λ x. p (f x)) i xs
through f p i [] = refl
through f p i (x ∷ xs) = ap (cond (p (f x)) (Some i)) (through f p (i + 1) xs)

found_case : {M : Type 0} (p : M → Bool) (i : ℕ) (x : M) (xs : List M) (k : ℕ) (d : M) (b : Bool) → p x ≡ b → cond b (Some i) (position_from p (i + 1) xs) ≡ Some k
    → (position_from p (i + 1) xs ≡ Some k → (j : ℕ) × (k ≡ (i + 1) + j) × (j < length xs) × (p (get_or xs j d) ≡ true)) → (j : ℕ) × (k ≡ i + j) × (j < suc (length xs)) × (p (get_or (x ∷ xs) j d) ≡ true)
found_case p i x xs k d true t e rest = (0, omega (arith, same_Some i k e), omega arith, t)
found_case p i x xs k d false t e rest = let r = rest e in (suc r.0, omega (arith, r.1), omega (arith, r.2), r.3)

-- what was found is in the list, and passes
found_from : {M : Type 0} (p : M → Bool) (i : ℕ) (xs : List M) (k : ℕ) (d : M) → position_from p i xs ≡ Some k → (j : ℕ) × (k ≡ i + j) × (j < length xs) × (p (get_or xs j d) ≡ true)
found_from p i [] k d e = cc
found_from p i (x ∷ xs) k d e = found_case p i x xs k d (p x) refl e (λ h. found_from p (i + 1) xs k d h)

pub found : {M : Type 0} (p : M → Bool) (xs : List M) (k : ℕ) (d : M) → Some k ≡ position_from p 0 xs → (k < length xs) × (p (get_or xs k d) ≡ true)
found p xs k d e = let r = found_from p 0 xs k d (sym e) in let same : r.0 ≡ k = omega (arith, r.1) in (omega (arith, r.2), rw (← same) r.3)

-- it is the first that passes
first_case : {M : Type 0} (p : M → Bool) (i : ℕ) (x : M) (xs : List M) (k : ℕ) (d : M) (b : Bool) → cond b (Some i) (position_from p (i + 1) xs) ≡ Some k
    → (position_from p (i + 1) xs ≡ Some k → (j : ℕ) × (k ≡ (i + 1) + j) × (find p xs ≡ Some (get_or xs j d))) → (j : ℕ) × (k ≡ i + j) × (cond b (Some x) (find p xs) ≡ Some (get_or (x ∷ xs) j d))
first_case p i x xs k d true e rest = (0, omega (arith, same_Some i k e), refl)
first_case p i x xs k d false e rest = let r = rest e in (suc r.0, omega (arith, r.1), r.2)

first_from : {M : Type 0} (p : M → Bool) (i : ℕ) (xs : List M) (k : ℕ) (d : M) → position_from p i xs ≡ Some k → (j : ℕ) × (k ≡ i + j) × (find p xs ≡ Some (get_or xs j d))
first_from p i [] k d e = cc
first_from p i (x ∷ xs) k d e = first_case p i x xs k d (p x) e (λ h. first_from p (i + 1) xs k d h)

pub found_first : {M : Type 0} (p : M → Bool) (xs : List M) (k : ℕ) (d : M) → Some k ≡ position_from p 0 xs → find p xs ≡ Some (get_or xs k d)
found_first p xs k d e =
    let r = first_from p 0 xs k d (sym e) in
    let same : r.0 ≡ k = omega (arith, r.1) in
    r.2 ∙ ap (λ j. Some (get_or xs j d)) same

-- where none was found, none passes
nowhere_case : {M : Type 0} (p : M → Bool) (x : M) (xs : List M) (i k : ℕ) (d : M) (b : Bool) → p x ≡ b → cond b (Some i) (position_from p (i + 1) xs) ≡ None →
    ((k : ℕ) → position_from p (i + 1) xs ≡ None → p (get_or xs k d) ≡ false) → p (get_or (x ∷ xs) k d) ≡ false
nowhere_case p x xs i k d true is none rest = cc
nowhere_case p x xs i zero d false is none rest = is
nowhere_case p x xs i (suc k) d false is none rest = rest k none

pub nowhere : {M : Type 0} (p : M → Bool) (xs : List M) (i k : ℕ) (d : M) → position_from p i xs ≡ None → p d ≡ false → p (get_or xs k d) ≡ false
nowhere p [] i k d e default = default
nowhere p (x ∷ xs) i k d e default = nowhere_case p x xs i k d (p x) refl e (λ k none. nowhere p xs (i + 1) k d none default)

-- ---- how many pass

pub counted_one : {B M : Type 0} (f : B → M) (p : M → Bool) (xs : List B) (i : ℕ) (x : B) (count new : ℕ) → i < length xs → x ≡ get_or xs i x → p (f x) ≡ true →
    count ≡ count_by p (take i (map f xs)) → new ≡ count + 1 → new ≡ count_by p (take (i + 1) (map f xs))
counted_one f p xs i x count new less at passes so_far more =
    let within : i < length (map f xs) = rw length-map less in
    more ∙ ap (λ n. n + 1) so_far ∙ sym (count_by_more_yes p (map f xs) i (f x) within (ap p (shown_at f xs i x (f x) less at) ∙ passes))

pub counted_none : {B M : Type 0} (f : B → M) (p : M → Bool) (xs : List B) (i : ℕ) (x : B) (count new : ℕ) → i < length xs → x ≡ get_or xs i x → p (f x) ≡ false →
    count ≡ count_by p (take i (map f xs)) → new ≡ count → new ≡ count_by p (take (i + 1) (map f xs))
counted_none f p xs i x count new less at fails so_far same =
    let within : i < length (map f xs) = rw length-map less in
    same ∙ so_far ∙ sym (count_by_more_no p (map f xs) i (f x) within (ap p (shown_at f xs i x (f x) less at) ∙ fails))

-- whether an application runs
pub runs_there : (name : Name) (seats : List (Option Object)) (seat : Option ℕ) (runs : Bool) → seat ≡ position_from (λ o. is_seated name (option_map member_of o)) 0 seats → runs ≡ is_some seat →
    runs ≡ is_some (seat_of name (map (option_map member_of) seats))
runs_there name seats seat runs searched is = is ∙ ap is_some (searched ∙ sym (through (option_map member_of) (is_seated name) 0 seats))

-- ---- one place changes

pub placed : {A B : Type 0} (f : A → B) (xs : List A) (k : ℕ) (y : A) (d : B) → k < length xs → get_or (map f (set xs k y)) k d ≡ f y
placed f xs k y d less =
    ap (λ (ys : List _). get_or ys k d) (map-set f xs k y) ∙ get_or-set_same (map f xs) k (f y) d (rw length-map less)

pub placed_alone : {A B : Type 0} (f : A → B) (xs : List A) (k : ℕ) (y : A) (d : B) → k < length xs → map f (set xs k y) ≡ set (map f xs) k (get_or (map f (set xs k y)) k d)
placed_alone f xs k y d less = map-set f xs k y ∙ ap (set (map f xs) k) (sym (placed f xs k y d less))

pub placed_at : {A B : Type 0} (f : A → B) (xs : List A) (k seat : ℕ) (y : A) (d : B) → k ≡ seat → k < 8 → length xs ≡ 8 → map f (set xs k y) ≡ set (map f xs) seat (get_or (map f (set xs k y)) seat d)
placed_at f xs k seat y d same less eight = rw (← same) (placed_alone f xs k y d (omega (arith, less, eight)))

pub both_placed : {A B : Type 0} (f : A → B) (P : B → B → Type 0) (xs : List A) (k seat : ℕ) (old y : A) (d : B) → k ≡ seat → k < 8 → length xs ≡ 8 → P (f (get_or xs k old)) (f y) →
    P (get_or (map f xs) seat d) (get_or (map f (set xs k y)) seat d)
both_placed f P xs k seat old y d same less eight both =
    let inside : k < length xs = omega (arith, less, eight) in
    rw (← same, shown_in f xs k old d inside, placed f xs k y d inside) both
