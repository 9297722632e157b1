-- Room among the lists of a pool.
use Rattle.std.proofs.Common.{◌≡◌, ℕ, ◌<◌, ◌≤◌, ◌+◌, ◌-◌, ◌*◌, ◌/◌, ◌^◌, List, length, set, get_or, sym, ap, ◌∙◌, subst, arith, max, min, inl, inr, ◌⊎◌}
use Rattle.bounded_history.specs.declared.entry.Entry.{Entry}
use Rattle.bounded_history.specs.declared.changes.Changes.{Changes}
use Rattle.bounded_history.specs.Changes.{changes, reduced}
use Rattle.bounded_history.specs.Telling.{Tells, HaveRoom, IsLeast, IsLongest, IsNearlyShort, ReducesLongest, count_at, entries_in, entry_count, told_at}
use Rattle.bounded_history.proofs.Counts.{count_beyond, count_is, count_set, count_set_other, doublings_are, doublings_set, doublings_set_other, entries_set, same_or, short_but}

-- one more entry than may be, or a list with three
abbrev pub NearRoom : ℕ → List Changes → Type 0
NearRoom most lists = (entries_in lists ≤ most + 1) ⊎ IsNearlyShort lists

-- ---- no list is reduced

pub room_by_count : (most count : ℕ) (lists : List Changes) → count ≡ entries_in lists → count ≤ most → HaveRoom most lists
room_by_count most count lists is few = inl (omega (arith, is, few))

pub room_by_longest : (most number before : ℕ) (lists : List Changes) → IsLongest number lists → before ≡ count_at number lists → before ≤ 2 → HaveRoom most lists
room_by_longest most number before lists longest is few = inr (λ other. omega (arith, longest.longest other, is, few))

pub room_by_none : (most number before : ℕ) (lists : List Changes) → IsLongest number lists → before ≡ count_at number lists → length lists ≤ number → HaveRoom most lists
room_by_none most number before lists longest is none = room_by_longest most number before lists longest is (omega (arith, is, count_beyond lists number none))

pub no_room : (most count number before : ℕ) (lists : List Changes) → count ≡ entries_in lists → before ≡ count_at number lists → most < count → 2 < before → HaveRoom most lists → ⊥
no_room most count number before lists count_is before_is many long (inl few) = absurd (omega (arith, count_is, many, few))
no_room most count number before lists count_is before_is many long (inr short) = absurd (omega (arith, before_is, long, short number))

-- ---- the longest list is reduced

module _ (lists : List Changes) (told : List (List Entry)) (number before : ℕ) (old new : Changes) (within : number < length lists) (is : old ≡ get_or lists number old)
    (before_is : before ≡ count_at number lists) (long : 2 < before)
    (tells : Tells new (told_at number told))
    (least : IsLeast (changes (told_at number told)) (max (entry_count old / 2) 2) old.doublings new.doublings) where
  same_count : before ≡ entry_count old
  same_count = before_is ∙ count_is lists number old within is

  -- it has at most half of its entries, or two
  few_left : entry_count new ≤ max (before / 2) 2
  few_left = subst (λ n. entry_count new ≤ max (n / 2) 2) (sym same_count) (subst (λ n. n ≤ max (entry_count old / 2) 2) (sym (ap length tells.entries)) least.few)

  pub total_left : entries_in (set lists number new) + before ≡ entries_in lists + entry_count new
  total_left = omega (arith, entries_set lists number new within, before_is)

  short_left : IsNearlyShort lists → (other : ℕ) → count_at other (set lists number new) ≤ 2
  short_left short other = by_place (same_or other number) where
    same : number ≡ short.number
    same = by_number (same_or number short.number) where
      by_number : (number ≡ short.number) ⊎ (number ≡ short.number → ⊥) → number ≡ short.number
      by_number (inl it) = it
      by_number (inr differ) = absurd (omega (arith, before_is, long, short.others number differ))

    by_place : (other ≡ number) ⊎ (other ≡ number → ⊥) → count_at other (set lists number new) ≤ 2
    by_place (inl at) = omega (arith, few_left, before_is, ap (λ n. count_at n lists) same, short.few, ap (λ n. count_at n (set lists number new)) at, count_set lists number new within)
    by_place (inr differ) = subst (λ n. n ≤ 2) (sym (count_set_other lists number other new differ)) (short.others other (λ at. differ (at ∙ sym same)))

  pub room_left : (most : ℕ) → NearRoom most lists → HaveRoom most (set lists number new)
  room_left most (inl near) = inl (omega (arith, total_left, near, few_left, long))
  room_left most (inr short) = inr (short_left short)

  pub longest_reduced : IsLongest number lists → ReducesLongest told lists (set lists number new)
  longest_reduced longest = record {
    number = number;
    longest = longest;
    reduced = record {
      more = omega (arith, doublings_are lists number old within is, doublings_set lists number new within, least.more);
      few = subst (λ n. length (reduced_by n) ≤ max (count_at number lists / 2) 2) (sym (doublings_set lists number new within))
          (subst (λ n. length (reduced_by new.doublings) ≤ max (n / 2) 2) (sym (count_is lists number old within is)) least.few);
      least = λ fewer from below. subst (λ n. max (n / 2) 2 < length (reduced_by fewer)) (sym (count_is lists number old within is))
          (least.least fewer (omega (arith, doublings_are lists number old within is, from)) (omega (arith, doublings_set lists number new within, below)));
    };
    others = λ other differ. doublings_set_other lists number other new differ;
  } where
    reduced_by : ℕ → List Entry
    reduced_by doublings = reduced (2 ^ doublings) (changes (told_at number told))

-- ---- counting

-- at most one entry more than may be, or two for each list and one more
pub near_few : (most : ℕ) (lists : List Changes) → NearRoom most lists → entries_in lists ≤ max (most + 1) (2 * length lists + 1)
near_few most lists (inl near) = omega (arith, near)
near_few most lists (inr short) = omega (arith, short_but lists short.number short.few short.others)

-- the count stays that of all entries: it is below 2 ^ 64
pub counted : (count before after less new most rooms : ℕ) (old lists : List Changes) → count ≡ entries_in old → before ≤ entries_in old → less ≡ count - before →
    new ≡ min (less + after) (2 ^ 64 - 1) → entries_in lists + before ≡ entries_in old + after → most < 2 ^ 64 - 1 →
    entries_in lists ≤ max (most + 1) (2 * rooms + 1) → rooms < 2 ^ 63 → new ≡ entries_in lists
counted count before after less new most rooms old lists count_is below less_is new_is sum small few room =
    omega (arith, count_is, below, less_is, new_is, sum, small, few, room)

-- ---- an entry comes

pub near_after : (most : ℕ) (lists : List Changes) (number : ℕ) (old new : Changes) → number < length lists → old ≡ get_or lists number old →
    entry_count new ≤ entry_count old + 1 → HaveRoom most lists → NearRoom most (set lists number new)
near_after most lists number old new within is more (inl few) = inl (omega (arith, entries_set lists number new within, count_is lists number old within is, more, few))
near_after most lists number old new within is more (inr short) = inr (record {
  number = number;
  few = omega (arith, count_set lists number new within, count_is lists number old within is, more, short number);
  others = λ other differ. subst (λ n. n ≤ 2) (sym (count_set_other lists number other new differ)) (short other);
})

pub room_near : (most : ℕ) (lists : List Changes) → HaveRoom most lists → NearRoom most lists
room_near most lists (inl few) = inl (omega (arith, few))
room_near most lists (inr short) = inr (record { number = 0; few = omega (arith, short 0); others = λ other differ. short other })
