-- How many entries lists have.
use Rattle.std.proofs.Common.{◌≡◌, ℕ, ◌<◌, ◌≤◌, ◌+◌, ◌*◌, List, [], ◌∷◌, ◌++◌, length, set, get_or, ◌⊎◌, zero, suc, refl, sym, ap, ◌∙◌, subst, arith, max, inl, inr}
use Rattle.bounded_history.specs.declared.entry.Entry.{Entry}
use Rattle.bounded_history.specs.declared.changes.Changes.{Changes}
use Rattle.bounded_history.specs.Telling.{Tells, AllTell, HaveRoom, IsLongest, count_at, doublings_at, entries_in, entry_count, told_at}

pub either : (n m : ℕ) → (n < m) ⊎ (m ≤ n)
either n zero = inr (omega arith)
either zero (suc m) = inl (omega arith)
either (suc n) (suc m) = go (either n m) where
  go : (n < m) ⊎ (m ≤ n) → (suc n < suc m) ⊎ (suc m ≤ suc n)
  go (inl below) = inl (omega (arith, below))
  go (inr above) = inr (omega (arith, above))

pub same_or : (n m : ℕ) → (n ≡ m) ⊎ (n ≡ m → ⊥)
same_or zero zero = inl refl
same_or zero (suc m) = inr (λ same. absurd (omega (arith, same)))
same_or (suc n) zero = inr (λ same. absurd (omega (arith, same)))
same_or (suc n) (suc m) = go (same_or n m) where
  go : (n ≡ m) ⊎ (n ≡ m → ⊥) → (suc n ≡ suc m) ⊎ (suc n ≡ suc m → ⊥)
  go (inl same) = inl (ap suc same)
  go (inr differ) = inr (λ same. differ (omega (arith, same)))

pub count_is : (lists : List Changes) (n : ℕ) (list : Changes) → n < length lists → list ≡ get_or lists n list → count_at n lists ≡ entry_count list
count_is [] n list within is = absurd (omega arith)
count_is (one ∷ lists) zero list within is = ap entry_count (sym is)
count_is (one ∷ lists) (suc n) list within is = count_is lists n list (omega arith) is

pub doublings_are : (lists : List Changes) (n : ℕ) (list : Changes) → n < length lists → list ≡ get_or lists n list → doublings_at n lists ≡ list.doublings
doublings_are [] n list within is = absurd (omega arith)
doublings_are (one ∷ lists) zero list within is = ap (λ (it : Changes). it.doublings) (sym is)
doublings_are (one ∷ lists) (suc n) list within is = doublings_are lists n list (omega arith) is

pub count_beyond : (lists : List Changes) (n : ℕ) → length lists ≤ n → count_at n lists ≡ 0
count_beyond [] n beyond = refl
count_beyond (one ∷ lists) zero beyond = absurd (omega arith)
count_beyond (one ∷ lists) (suc n) beyond = count_beyond lists n (omega arith)

-- another list in the place of one
pub count_set : (lists : List Changes) (n : ℕ) (new : Changes) → n < length lists → count_at n (set lists n new) ≡ entry_count new
count_set [] n new within = absurd (omega arith)
count_set (one ∷ lists) zero new within = refl
count_set (one ∷ lists) (suc n) new within = count_set lists n new (omega arith)

pub count_set_other : (lists : List Changes) (n other : ℕ) (new : Changes) → (other ≡ n → ⊥) → count_at other (set lists n new) ≡ count_at other lists
count_set_other [] n other new differ = refl
count_set_other (one ∷ lists) zero zero new differ = absurd (differ refl)
count_set_other (one ∷ lists) zero (suc other) new differ = refl
count_set_other (one ∷ lists) (suc n) zero new differ = refl
count_set_other (one ∷ lists) (suc n) (suc other) new differ = count_set_other lists n other new (λ same. differ (ap suc same))

pub doublings_set : (lists : List Changes) (n : ℕ) (new : Changes) → n < length lists → doublings_at n (set lists n new) ≡ new.doublings
doublings_set [] n new within = absurd (omega arith)
doublings_set (one ∷ lists) zero new within = refl
doublings_set (one ∷ lists) (suc n) new within = doublings_set lists n new (omega arith)

pub doublings_set_other : (lists : List Changes) (n other : ℕ) (new : Changes) → (other ≡ n → ⊥) → doublings_at other (set lists n new) ≡ doublings_at other lists
doublings_set_other [] n other new differ = refl
doublings_set_other (one ∷ lists) zero zero new differ = absurd (differ refl)
doublings_set_other (one ∷ lists) zero (suc other) new differ = refl
doublings_set_other (one ∷ lists) (suc n) zero new differ = refl
doublings_set_other (one ∷ lists) (suc n) (suc other) new differ = doublings_set_other lists n other new (λ same. differ (ap suc same))

-- .. whose columns are as before
pub doublings_same : (lists : List Changes) (n : ℕ) (old new : Changes) → old ≡ get_or lists n old → new.doublings ≡ old.doublings →
    (other : ℕ) → doublings_at other (set lists n new) ≡ doublings_at other lists
doublings_same [] n old new is same other = refl
doublings_same (one ∷ lists) zero old new is same zero = same ∙ ap (λ (it : Changes). it.doublings) is
doublings_same (one ∷ lists) zero old new is same (suc other) = refl
doublings_same (one ∷ lists) (suc n) old new is same zero = refl
doublings_same (one ∷ lists) (suc n) old new is same (suc other) = doublings_same lists n old new is same other

pub entries_set : (lists : List Changes) (n : ℕ) (new : Changes) → n < length lists → entries_in (set lists n new) + count_at n lists ≡ entries_in lists + entry_count new
entries_set [] n new within = absurd (omega arith)
entries_set (one ∷ lists) zero new within = omega arith
entries_set (one ∷ lists) (suc n) new within = omega (arith, entries_set lists n new (omega arith))

pub entries_more : (lists : List Changes) (new : Changes) → entries_in (lists ++ new ∷ []) ≡ entries_in lists + entry_count new
entries_more [] new = omega arith
entries_more (one ∷ lists) new = omega (arith, entries_more lists new)

pub count_more : (lists : List Changes) (new : Changes) (most : ℕ) → entry_count new ≤ most → ((n : ℕ) → count_at n lists ≤ most) → (n : ℕ) → count_at n (lists ++ new ∷ []) ≤ most
count_more [] new most few all zero = few
count_more [] new most few all (suc n) = omega arith
count_more (one ∷ lists) new most few all zero = all zero
count_more (one ∷ lists) new most few all (suc n) = count_more lists new most few (λ m. all (suc m)) n

pub count_below : (lists : List Changes) (n : ℕ) → count_at n lists ≤ entries_in lists
count_below [] n = omega arith
count_below (one ∷ lists) zero = omega arith
count_below (one ∷ lists) (suc n) = omega (arith, count_below lists n)

pub short_few : (lists : List Changes) → ((n : ℕ) → count_at n lists ≤ 2) → entries_in lists ≤ 2 * length lists
short_few [] short = omega arith
short_few (one ∷ lists) short = omega (arith, short zero, short_few lists (λ n. short (suc n)))

-- .. but one, which may have one more
pub short_but : (lists : List Changes) (n : ℕ) → count_at n lists ≤ 3 → ((other : ℕ) → (other ≡ n → ⊥) → count_at other lists ≤ 2) → entries_in lists ≤ 2 * length lists + 1
short_but [] n few others = omega arith
short_but (one ∷ lists) zero few others = omega (arith, few, short_few lists (λ other. others (suc other) (λ same. absurd (omega (arith, same)))))
short_but (one ∷ lists) (suc n) few others =
    omega (arith, others zero (λ same. absurd (omega (arith, same))), short_but lists n few (λ other differ. others (suc other) (λ same. differ (omega (arith, same)))))

pub room_few : (most : ℕ) (lists : List Changes) → HaveRoom most lists → entries_in lists ≤ max most (2 * length lists)
room_few most lists (inl few) = omega arith
room_few most lists (inr short) = omega (arith, short_few lists short)

-- what a list tells
pub all_at : (lists : List Changes) (told : List (List Entry)) (n : ℕ) (list : Changes) → n < length lists → list ≡ get_or lists n list → AllTell lists told → Tells list (told_at n told)
all_at [] told n list within is all = absurd (omega arith)
all_at (one ∷ lists) [] n list within is all = absurd all
all_at (one ∷ lists) (first ∷ told) zero list within is all = subst (λ it. Tells it first) (sym is) all.0
all_at (one ∷ lists) (first ∷ told) (suc n) list within is all = all_at lists told n list (omega arith) is all.1

pub is_longest : (lists : List Changes) (n count : ℕ) → count ≤ count_at n lists → ((other : ℕ) → other < length lists → count_at other lists ≤ count) →
    ((other : ℕ) → other < n → count_at other lists < count) → IsLongest n lists × (count ≡ count_at n lists)
is_longest lists n count reached bound first = (
  record {
    longest = λ other. omega (arith, bounds other, is);
    first = λ other before. omega (arith, first other before, is);
  },
  is,
) where
  bounds : (other : ℕ) → count_at other lists ≤ count
  bounds other = by_place (either other (length lists)) where
    by_place : (other < length lists) ⊎ (length lists ≤ other) → count_at other lists ≤ count
    by_place (inl within) = bound other within
    by_place (inr beyond) = omega (arith, count_beyond lists other beyond)

  is : count ≡ count_at n lists
  is = omega (arith, reached, bounds n)

pub longest_more : (lists : List Changes) (n most count : ℕ) (list : Changes) → n < length lists → list ≡ get_or lists n list → count ≡ entry_count list → most < count →
    ((other : ℕ) → other < n → count_at other lists ≤ most) →
    (count ≤ count_at n lists) × ((other : ℕ) → other < n + 1 → count_at other lists ≤ count) × ((other : ℕ) → other < n → count_at other lists < count)
longest_more lists n most count list within is count_same more bound =
    (omega (arith, here), bounds, λ other below. omega (arith, bound other below, more)) where
      here : count_at n lists ≡ count
      here = count_is lists n list within is ∙ sym count_same

      bounds : (other : ℕ) → other < n + 1 → count_at other lists ≤ count
      bounds other below = by_place (same_or other n) where
        by_place : (other ≡ n) ⊎ (other ≡ n → ⊥) → count_at other lists ≤ count
        by_place (inl at) = omega (arith, ap (λ m. count_at m lists) at, here)
        by_place (inr differ) = by_order (either other n) where
          by_order : (other < n) ⊎ (n ≤ other) → count_at other lists ≤ count
          by_order (inl before) = omega (arith, bound other before, more)
          by_order (inr from) = absurd (differ (omega (arith, from, below)))

pub longest_stays : (lists : List Changes) (n most count : ℕ) (list : Changes) → n < length lists → list ≡ get_or lists n list → count ≡ entry_count list → count ≤ most →
    ((other : ℕ) → other < n → count_at other lists ≤ most) → (other : ℕ) → other < n + 1 → count_at other lists ≤ most
longest_stays lists n most count list within is count_same fewer bound other below = by_place (same_or other n) where
  by_place : (other ≡ n) ⊎ (other ≡ n → ⊥) → count_at other lists ≤ most
  by_place (inl at) = omega (arith, ap (λ m. count_at m lists) at, count_is lists n list within is, count_same, fewer)
  by_place (inr differ) = by_order (either other n) where
    by_order : (other < n) ⊎ (n ≤ other) → count_at other lists ≤ most
    by_order (inl before) = bound other before
    by_order (inr from) = absurd (differ (omega (arith, from, below)))

-- the longest list so far
abbrev pub IsSoFar : List Changes → (number longest most : ℕ) → Type 0
IsSoFar lists number longest most =
    (most ≤ count_at longest lists) × ((other : ℕ) → other < number → count_at other lists ≤ most) × ((other : ℕ) → other < longest → count_at other lists < most)

-- one list more, to which nothing was told
none_told : (new : Changes) → Tells new [] → entry_count new ≡ 0
none_told new tells = ap length tells.entries

pub none_more : (lists : List Changes) (new : Changes) → Tells new [] → entries_in (lists ++ new ∷ []) ≡ entries_in lists
none_more lists new tells = omega (arith, entries_more lists new, none_told new tells)

pub room_more : (most : ℕ) (lists : List Changes) (new : Changes) → Tells new [] → HaveRoom most lists → HaveRoom most (lists ++ new ∷ [])
room_more most lists new tells (inl few) = inl (omega (arith, none_more lists new tells, few))
room_more most lists new tells (inr short) = inr (count_more lists new 2 (omega (arith, none_told new tells)) short)

pub doublings_more : (lists : List Changes) (new : Changes) → new.doublings ≡ 0 → (n : ℕ) → doublings_at n (lists ++ new ∷ []) ≡ doublings_at n lists
doublings_more [] new none zero = none
doublings_more [] new none (suc n) = refl
doublings_more (one ∷ lists) new none zero = refl
doublings_more (one ∷ lists) new none (suc n) = doublings_more lists new none n
