-- Where an application stands among the seats, and a spare in the stock.
use Rattle.std.proofs.Common.{◌≡◌, ℕ, zero, suc, ◌+◌, ◌<◌, ◌⊎◌, inl, inr, Bool, true, false, cond, List, [], ◌∷◌, map, length, count_by, remove, slice_set, slice_index_or, refl, ap, ap₂, sym, ◌∙◌, arith, Option, Some, None, is_none, if◌then◌else◌, IsFalse, IsTrue, true≢false}
use Rattle.std.specs.List.{position_from, AllByRecursion}
use Rattle.std.proofs.lemmas.List.Sums.{sum_by-cons}
use Rattle.host_refinement.specs.Keeping.{App, LimitChecker, Scheduler, Counter, holds, times}

-- ---- one seat

-- the application stands at this place, and at no other
pub Stands : App → ℕ → List (Option App) → Type 0
Stands app k [] = ⊥
Stands app zero (seat ∷ seats) = (seat ≡ Some app) × (times app seats ≡ 0)
Stands app (suc k) (seat ∷ seats) = IsFalse (holds app seat) × Stands app k seats

held_by : (app : App) (seat : Option App) → holds app seat ≡ true → seat ≡ Some app
held_by LimitChecker (Some LimitChecker) h = refl
held_by Scheduler (Some Scheduler) h = refl
held_by Counter (Some Counter) h = refl
held_by LimitChecker None h = absurd (true≢false (sym h))
held_by LimitChecker (Some Scheduler) h = absurd (true≢false (sym h))
held_by LimitChecker (Some Counter) h = absurd (true≢false (sym h))
held_by Scheduler None h = absurd (true≢false (sym h))
held_by Scheduler (Some LimitChecker) h = absurd (true≢false (sym h))
held_by Scheduler (Some Counter) h = absurd (true≢false (sym h))
held_by Counter None h = absurd (true≢false (sym h))
held_by Counter (Some LimitChecker) h = absurd (true≢false (sym h))
held_by Counter (Some Scheduler) h = absurd (true≢false (sym h))

pub holds_own : (app : App) → holds app (Some app) ≡ true
holds_own LimitChecker = refl
holds_own Scheduler = refl
holds_own Counter = refl

-- an application with one seat stands somewhere
pub stands : (app : App) (seats : List (Option App)) → times app seats ≡ 1 → (k : ℕ) × Stands app k seats
unfolding times Stands
stands app [] once = absurd (let none : ⊥ = omega arith in none)
stands app (seat ∷ seats) once = by_test (holds app seat) refl once (stands app seats)
  where
    by_test : (test : Bool) → holds app seat ≡ test → (if test then suc (times app seats) else times app seats) ≡ 1 →
        (times app seats ≡ 1 → (k : ℕ) × Stands app k seats) → (k : ℕ) × Stands app k (seat ∷ seats)
    by_test true e one others = (zero, (held_by app seat e, omega arith))
    by_test false e one others = let r = others one in (suc r.0, (e, r.1))

-- none of them holds the application
none_holds : (app : App) (seat : Option App) (seats : List (Option App)) → times app (seat ∷ seats) ≡ 0 → IsFalse (holds app seat) × (times app seats ≡ 0)
unfolding times
none_holds app seat seats none = by_test (holds app seat) none
  where
    by_test : (test : Bool) → (if test then suc (times app seats) else times app seats) ≡ 0 → IsFalse test × (times app seats ≡ 0)
    by_test true zero_times = absurd (let none : ⊥ = omega arith in none)
    by_test false zero_times = (refl, zero_times)

module _ {B : Type 0} (app : App) where
  -- what agrees on all seats but the application's is the same where it has none
  pub map_absent : (f g : Option App → B) → ((seat : Option App) → IsFalse (holds app seat) → f seat ≡ g seat) →
      (seats : List (Option App)) → times app seats ≡ 0 → map f seats ≡ map g seats
  map_absent f g agree [] none = refl
  map_absent f g agree (seat ∷ seats) none =
      let parts = none_holds app seat seats none in ap₂ (λ x xs. x ∷ xs) (agree seat parts.0) (map_absent f g agree seats parts.1)

  -- a test that none but the application's seat passes
  pub place_absent : (f : Option App → B) (test : B → Bool) → ((seat : Option App) → IsFalse (holds app seat) → IsFalse (test (f seat))) →
      (n : ℕ) (seats : List (Option App)) → times app seats ≡ 0 → position_from test n (map f seats) ≡ None
  place_absent f test fails n [] none = refl
  place_absent f test fails n (seat ∷ seats) none =
      let parts = none_holds app seat seats none in
      ap (λ b. cond b (Some n) (position_from test (n + 1) (map f seats))) (fails seat parts.0) ∙ place_absent f test fails (n + 1) seats parts.1

  pub place_found : (f : Option App → B) (test : B → Bool) → IsTrue (test (f (Some app))) → ((seat : Option App) → IsFalse (holds app seat) → IsFalse (test (f seat))) →
      (n k : ℕ) (seats : List (Option App)) → Stands app k seats → position_from test n (map f seats) ≡ Some (n + k)
  unfolding Stands
  place_found f test passes fails n k [] h = absurd h
  place_found f test passes fails n zero (seat ∷ seats) h =
      ap (λ b. cond b (Some n) (position_from test (n + 1) (map f seats))) (ap (λ s. test (f s)) h.0 ∙ passes)
      ∙ (let same : n ≡ n + 0 = omega arith in ap Some same)
  place_found f test passes fails n (suc k) (seat ∷ seats) h =
      ap (λ b. cond b (Some n) (position_from test (n + 1) (map f seats))) (fails seat h.0) ∙ place_found f test passes fails (n + 1) k seats h.1
      ∙ (let same : n + 1 + k ≡ n + suc k = omega arith in ap Some same)

  pub at_place : (f : Option App → B) (d : B) (k : ℕ) (seats : List (Option App)) → Stands app k seats → slice_index_or (map f seats) k d ≡ f (Some app)
  unfolding Stands
  at_place f d k [] h = absurd h
  at_place f d zero (seat ∷ seats) h = ap f h.0
  at_place f d (suc k) (seat ∷ seats) h = at_place f d k seats h.1

  pub set_place : (f g : Option App → B) → ((seat : Option App) → IsFalse (holds app seat) → f seat ≡ g seat) →
      (k : ℕ) (seats : List (Option App)) → Stands app k seats → slice_set (map f seats) k (g (Some app)) ≡ map g seats
  unfolding Stands
  set_place f g agree k [] h = absurd h
  set_place f g agree zero (seat ∷ seats) h = ap₂ (λ s xs. g s ∷ xs) (sym h.0) (map_absent f g agree seats h.1)
  set_place f g agree (suc k) (seat ∷ seats) h = ap₂ (λ x xs. x ∷ xs) (agree seat h.0) (set_place f g agree k seats h.1)

-- ---- a free seat

pub Free : ℕ → List (Option App) → Type 0
Free k [] = ⊥
Free zero (seat ∷ seats) = seat ≡ None
Free (suc k) (seat ∷ seats) = Free k seats

-- the least one
pub First : ℕ → List (Option App) → Type 0
First k [] = ⊥
First zero (seat ∷ seats) = seat ≡ None
First (suc k) (seat ∷ seats) = IsFalse (is_none seat) × First k seats

pub first_free : (k : ℕ) (seats : List (Option App)) → First k seats → Free k seats
unfolding First Free
first_free k [] h = absurd h
first_free zero (seat ∷ seats) h = h
first_free (suc k) (seat ∷ seats) h = first_free k seats h.1

-- fewer applications than seats
pub room : (seats : List (Option App)) → times LimitChecker seats + times Scheduler seats + times Counter seats < length seats → (k : ℕ) × First k seats
unfolding First times
room [] less = absurd (let none : ⊥ = omega arith in none)
room (None ∷ seats) less = (zero, refl)
room (Some LimitChecker ∷ seats) less = let r = room seats (omega arith) in (suc r.0, (refl, r.1))
room (Some Scheduler ∷ seats) less = let r = room seats (omega arith) in (suc r.0, (refl, r.1))
room (Some Counter ∷ seats) less = let r = room seats (omega arith) in (suc r.0, (refl, r.1))

pub free_found : {B : Type 0} (f : Option App → Option B) → ((seat : Option App) → is_none (f seat) ≡ is_none seat) →
    (n k : ℕ) (seats : List (Option App)) → First k seats → position_from is_none n (map f seats) ≡ Some (n + k)
unfolding First
free_found f same n k [] h = absurd h
free_found f same n zero (seat ∷ seats) h =
    ap (λ b. cond b (Some n) (position_from is_none (n + 1) (map f seats))) (same seat ∙ ap is_none h) ∙ (let same : n ≡ n + 0 = omega arith in ap Some same)
free_found f same n (suc k) (seat ∷ seats) h =
    ap (λ b. cond b (Some n) (position_from is_none (n + 1) (map f seats))) (same seat ∙ h.0) ∙ free_found f same (n + 1) k seats h.1
    ∙ (let same : n + 1 + k ≡ n + suc k = omega arith in ap Some same)

-- ---- how many seats, after a change

-- a free seat is taken
pub times_taken : (app new : App) (k : ℕ) (seats : List (Option App)) → Free k seats →
    times app (slice_set seats k (Some new)) ≡ (if holds app (Some new) then suc (times app seats) else times app seats)
unfolding Free times
times_taken app new k [] h = absurd h
times_taken app new zero (seat ∷ seats) h = sym (ap (λ (s : Option App). if holds app (Some new) then suc (times app (s ∷ seats)) else times app (s ∷ seats)) h ∙ none app)
  where
    none : (app : App) → (if holds app (Some new) then suc (times app (None ∷ seats)) else times app (None ∷ seats)) ≡ times app (Some new ∷ seats)
    none LimitChecker = refl
    none Scheduler = refl
    none Counter = refl
times_taken app new (suc k) (seat ∷ seats) h =
    ap (λ n. if holds app seat then suc n else n) (times_taken app new k seats h) ∙ swap (holds app seat) (holds app (Some new))
  where
    swap : (a b : Bool) → (if a then suc (if b then suc (times app seats) else times app seats) else (if b then suc (times app seats) else times app seats))
        ≡ (if b then suc (if a then suc (times app seats) else times app seats) else (if a then suc (times app seats) else times app seats))
    swap true true = refl
    swap true false = refl
    swap false true = refl
    swap false false = refl

-- a seat is given up
pub times_left : (app : App) (k : ℕ) (seats : List (Option App)) → Stands app k seats → times app (slice_set seats k None) ≡ 0
unfolding Stands times
times_left app k [] h = absurd h
times_left LimitChecker zero (seat ∷ seats) h = h.1
times_left Scheduler zero (seat ∷ seats) h = h.1
times_left Counter zero (seat ∷ seats) h = h.1
times_left app (suc k) (seat ∷ seats) h = ap (λ (test : Bool). if test then suc (times app (slice_set seats k None)) else times app (slice_set seats k None)) h.0 ∙ times_left app k seats h.1

pub times_other : (app other : App) (k : ℕ) (seats : List (Option App)) → Stands app k seats → IsFalse (holds other (Some app)) →
    times other (slice_set seats k None) ≡ times other seats
unfolding Stands times
times_other app other k [] h apart = absurd h
times_other app other zero (seat ∷ seats) h apart = none other ∙ sym (ap (λ (test : Bool). if test then suc (times other seats) else times other seats) (ap (holds other) h.0 ∙ apart))
  where
    none : (other : App) → times other (None ∷ seats) ≡ times other seats
    none LimitChecker = refl
    none Scheduler = refl
    none Counter = refl
times_other app other (suc k) (seat ∷ seats) h apart = ap (λ n. if holds other seat then suc n else n) (times_other app other k seats h.1 apart)

pub free_left : (app : App) (k : ℕ) (seats : List (Option App)) → Stands app k seats → Free k (slice_set seats k None)
unfolding Stands Free
free_left app k [] h = absurd h
free_left app zero (seat ∷ seats) h = refl
free_left app (suc k) (seat ∷ seats) h = free_left app k seats h.1

-- ---- the stock

pub all_at : {X : Type 0} (P : X → Type 0) (xs : List X) (i : ℕ) (d : X) → i < length xs → AllByRecursion P xs → P (slice_index_or xs i d)
all_at P [] i d less h = absurd (let none : ⊥ = omega arith in none)
all_at P (x ∷ xs) zero d less h = h.0
all_at P (x ∷ xs) (suc i) d less h = all_at P xs i d (omega arith) h.1

pub all_removed : {X : Type 0} (P : X → Type 0) (xs : List X) (i : ℕ) → i < length xs → AllByRecursion P xs → AllByRecursion P (remove xs i)
all_removed P [] i less h = absurd (let none : ⊥ = omega arith in none)
all_removed P (x ∷ xs) zero less h = h.1
all_removed P (x ∷ xs) (suc i) less h = (h.0, all_removed P xs i (omega arith) h.1)

-- the first that passes
pub record Found {X : Type 0} (test : X → Bool) (d : X) (n : ℕ) (xs : List X) : Type 0 where
  pub place : ℕ
  pub within : place < length xs
  pub first : position_from test n xs ≡ Some (n + place)
  pub passes : test (slice_index_or xs place d) ≡ true

pub first_or_none : {X : Type 0} (test : X → Bool) (d : X) (n : ℕ) (xs : List X) →
    ((count_by test xs ≡ 0) × (position_from test n xs ≡ None)) ⊎ Found test d n xs
first_or_none test d n [] = inl (refl, refl)
first_or_none {X} test d n (x ∷ xs) = by_test (test x) refl (first_or_none test d (n + 1) xs)
  where
    one_on : (test x ≡ false) → ((count_by test xs ≡ 0) × (position_from test (n + 1) xs ≡ None)) ⊎ Found test d (n + 1) xs → ((count_by test (x ∷ xs) ≡ 0) × (position_from test n (x ∷ xs) ≡ None)) ⊎ Found test d n (x ∷ xs)
    one_on e (inl none) = inl (
      sum_by-cons (λ y. cond (test y) 1 0) x xs ∙ ap₂ (λ b m. cond b 1 0 + m) e none.0,
      ap (λ b. cond b (Some n) (position_from test (n + 1) xs)) e ∙ none.1,
    )
    one_on e (inr found) = inr (record {
      place = suc found.place;
      within = let less = found.within in omega arith;
      first = ap (λ b. cond b (Some n) (position_from test (n + 1) xs)) e ∙ found.first ∙ (let same : n + 1 + found.place ≡ n + suc found.place = omega arith in ap Some same);
      passes = found.passes;
    })

    by_test : (b : Bool) → test x ≡ b → ((count_by test xs ≡ 0) × (position_from test (n + 1) xs ≡ None)) ⊎ Found test d (n + 1) xs → ((count_by test (x ∷ xs) ≡ 0) × (position_from test n (x ∷ xs) ≡ None)) ⊎ Found test d n (x ∷ xs)
    by_test true e others = inr (record {
      place = zero;
      within = omega arith;
      first = ap (λ b. cond b (Some n) (position_from test (n + 1) xs)) e ∙ (let same : n ≡ n + 0 = omega arith in ap Some same);
      passes = e;
    })
    by_test false e others = one_on e others
