-- A change of the one filter that an id has.
use Rattle.std.proofs.Common.{◌≡◌, ℕ, zero, suc, ◌+◌, ◌<◌, ◌==◌, Bool, true, false, not, ◌&&◌, ◌||◌, List, [], ◌∷◌, ◌++◌, length, map, refl, ap, sym, ◌∙◌, subst, arith, Some, None, if◌then◌else◌, cond, take, drop, IsTrue, IsFalse, true≢false, nat_le}
use Rattle.std.specs.Prelude.{slice_index_or, slice_set}
use Rattle.std.specs.List.{list_any, position_from, find, refill}
use Rattle.std.proofs.lemmas.Grind.{common_steps}
use Rattle.std.proofs.lemmas.List.{length-map}
use Rattle.std.proofs.lemmas.Bool.Decides.{Decides-eqb}
use Rattle.lc_model.specs.Kept.Summary.{Filter}
use Rattle.lc_model.specs.Kept.Next.{filter_of, filters_with, filter_put}
use Rattle.lc_model.specs.Events.Log.{is_full_for}
use Rattle.lc_model.proofs.Facts.{or_first, or_second, unequal_turned}
use Rattle.event_service.specs.Filters.{ids_of, AreDistinct, HaveOwnIds, renewed}

-- a filter is the id's
abbrev is_of : ℕ → Filter → Bool
is_of id filter = id == filter.id

-- the filter at this place is the id's, and none before it
abbrev pub IsFirst : ℕ → List Filter → ℕ → Type 0
IsFirst id [] k = ⊥
IsFirst id (filter ∷ filters) zero = IsTrue (id == filter.id)
IsFirst id (filter ∷ filters) (suc k) = IsFalse (id == filter.id) × IsFirst id filters k

first_from : (id i k : ℕ) (filters : List Filter) → position_from (λ (filter : Filter). id == filter.id) i filters ≡ Some k → (d : ℕ) × (k ≡ i + d) × IsFirst id filters d
first_from id i k [] e = cc
first_from id i k (filter ∷ filters) e = by_test (id == filter.id) refl (λ e. first_from id (i + 1) k filters e)
  where
    by_test : (t : Bool) → (id == filter.id) ≡ t →
        (position_from (λ (filter : Filter). id == filter.id) (i + 1) filters ≡ Some k → (d : ℕ) × (k ≡ (i + 1) + d) × IsFirst id filters d) →
        (d : ℕ) × (k ≡ i + d) × IsFirst id (filter ∷ filters) d
    by_test true h behind =
        let here : Some i ≡ Some k = sym (ap (λ t. cond t (Some i) (position_from (λ (filter : Filter). id == filter.id) (i + 1) filters)) h) ∙ e in
        let same : i ≡ k = cc in (zero, omega arith, h)
    by_test false h behind =
        let rest = behind (sym (ap (λ t. cond t (Some i) (position_from (λ (filter : Filter). id == filter.id) (i + 1) filters)) h) ∙ e) in
        let further : k ≡ (i + 1) + rest.0 = rest.1 in
        (suc rest.0, omega arith, (h, rest.2))

pub first : (id k : ℕ) (filters : List Filter) → position_from (λ (filter : Filter). id == filter.id) 0 filters ≡ Some k → IsFirst id filters k
first id k filters e =
    let found = first_from id 0 k filters e in
    let same : found.0 ≡ k = omega (arith, found.1) in
    let P : ℕ → Type 0 = λ n. IsFirst id filters n in subst P same found.2

none_from : (id i : ℕ) (filters : List Filter) → position_from (λ (filter : Filter). id == filter.id) i filters ≡ None → IsFalse (list_any (λ (filter : Filter). id == filter.id) filters)
none_from id i [] e = refl
none_from id i (filter ∷ filters) e = by_test (id == filter.id) refl (λ e. none_from id (i + 1) filters e)
  where
    by_test : (t : Bool) → (id == filter.id) ≡ t →
        (position_from (λ (filter : Filter). id == filter.id) (i + 1) filters ≡ None → IsFalse (list_any (λ (filter : Filter). id == filter.id) filters)) →
        IsFalse ((id == filter.id) || list_any (λ (filter : Filter). id == filter.id) filters)
    by_test true h behind = let here : Some i ≡ None = sym (ap (λ t. cond t (Some i) (position_from (λ (filter : Filter). id == filter.id) (i + 1) filters)) h) ∙ e in cc
    by_test false h behind =
        ap (λ t. t || list_any (λ (filter : Filter). id == filter.id) filters) h
        ∙ behind (sym (ap (λ t. cond t (Some i) (position_from (λ (filter : Filter). id == filter.id) (i + 1) filters)) h) ∙ e)

pub none : (id : ℕ) (filters : List Filter) → position_from (λ (filter : Filter). id == filter.id) 0 filters ≡ None → IsFalse (list_any (λ (filter : Filter). id == filter.id) filters)
none id filters e = none_from id 0 filters e

-- ---- what is looked for at a place

distinct_there : (x k : ℕ) (filters : List Filter) (d : Filter) → k < length filters → IsTrue (x == (slice_index_or filters k d).id) → IsTrue (list_any (λ other. x == other) (ids_of filters))
distinct_there x k [] d inside h = absurd (omega (arith, inside))
distinct_there x zero (filter ∷ filters) d inside h = ap (λ t. t || list_any (λ other. x == other) (ids_of filters)) h
distinct_there x (suc k) (filter ∷ filters) d inside h = by_test (x == filter.id) (distinct_there x k filters d (omega (arith, inside)) h)
  where
    by_test : (t : Bool) → IsTrue (list_any (λ other. x == other) (ids_of filters)) → IsTrue (t || list_any (λ other. x == other) (ids_of filters))
    by_test true rest = refl
    by_test false rest = rest

-- the one filter of an id is its first
pub hinted_is_first : (id k : ℕ) (filters : List Filter) (d : Filter) → HaveOwnIds filters → k < length filters → IsTrue (id == (slice_index_or filters k d).id) → IsFirst id filters k
hinted_is_first id k [] d own inside h = absurd (omega (arith, inside))
hinted_is_first id zero (filter ∷ filters) d own inside h = h
hinted_is_first id (suc k) (filter ∷ filters) d own inside h = (by_test (id == filter.id) refl, hinted_is_first id k filters d own.1 (omega (arith, inside)) h)
  where
    by_test : (t : Bool) → (id == filter.id) ≡ t → IsFalse t
    by_test true e =
        let there : IsTrue (list_any (λ other. id == other) (ids_of filters)) = distinct_there id k filters d (omega (arith, inside)) h in
        absurd (true≢false (sym there ∙ ap (λ n. list_any (λ other. n == other) (ids_of filters)) ((Decides-eqb id filter.id).0 e) ∙ own.0))
    by_test false e = refl

first_position : (id i k : ℕ) (filters : List Filter) → IsFirst id filters k → position_from (λ (filter : Filter). id == filter.id) i filters ≡ Some (i + k)
first_position id i k [] h = absurd h
first_position id i zero (filter ∷ filters) h =
    ap (λ t. cond t (Some i) (position_from (λ (filter : Filter). id == filter.id) (i + 1) filters)) h ∙ ap Some (omega arith)
first_position id i (suc k) (filter ∷ filters) h =
    ap (λ t. cond t (Some i) (position_from (λ (filter : Filter). id == filter.id) (i + 1) filters)) h.0
    ∙ first_position id (i + 1) k filters h.1 ∙ ap Some (omega arith)

pub hinted : (id k : ℕ) (filters : List Filter) (found : Filter) → HaveOwnIds filters → k < length filters → found ≡ slice_index_or filters k found → IsTrue (id == found.id) →
    Some k ≡ position_from (λ (filter : Filter). id == filter.id) 0 filters
hinted id k filters found own inside at h =
    let same : k ≡ 0 + k = omega arith in
    ap Some same ∙ sym (first_position id 0 k filters (hinted_is_first id k filters found own inside (sym (ap (λ (filter : Filter). id == filter.id) at) ∙ h)))

-- ---- what is found

pub first_is_found : (id k : ℕ) (filters : List Filter) (d : Filter) → IsFirst id filters k → filter_of id filters ≡ Some (slice_index_or filters k d)
first_is_found id k [] d h = absurd h
first_is_found id zero (filter ∷ filters) d h = ap (λ t. cond t (Some filter) (find (λ (other : Filter). id == other.id) filters)) h
first_is_found id (suc k) (filter ∷ filters) d h =
    ap (λ t. cond t (Some filter) (find (λ (other : Filter). id == other.id) filters)) h.0 ∙ first_is_found id k filters d h.1

pub first_has_id : (id k : ℕ) (filters : List Filter) (d : Filter) → IsFirst id filters k → id ≡ (slice_index_or filters k d).id
first_has_id id k [] d h = absurd h
first_has_id id zero (filter ∷ filters) d h = (Decides-eqb id filter.id).0 h
first_has_id id (suc k) (filter ∷ filters) d h = first_has_id id k filters d h.1

pub first_is_there : (id k : ℕ) (filters : List Filter) → IsFirst id filters k → IsTrue (list_any (λ (filter : Filter). id == filter.id) filters)
first_is_there id k [] h = absurd h
first_is_there id zero (filter ∷ filters) h = ap (λ t. t || list_any (λ (filter : Filter). id == filter.id) filters) h
first_is_there id (suc k) (filter ∷ filters) h = ap (λ t. t || list_any (λ (filter : Filter). id == filter.id) filters) h.0 ∙ first_is_there id k filters h.1

pub none_is_found : (id : ℕ) (filters : List Filter) → IsFalse (list_any (λ (filter : Filter). id == filter.id) filters) → filter_of id filters ≡ None
none_is_found id [] h = refl
none_is_found id (filter ∷ filters) h = by_test (id == filter.id) h (none_is_found id filters)
  where
    by_test : (t : Bool) → (t || list_any (λ (filter : Filter). id == filter.id) filters) ≡ false →
        (IsFalse (list_any (λ (filter : Filter). id == filter.id) filters) → filter_of id filters ≡ None) → cond t (Some filter) (find (λ (other : Filter). id == other.id) filters) ≡ None
    by_test true h behind = absurd (true≢false h)
    by_test false h behind = behind h

-- ---- what is changed

-- no filter of the id: nothing changes
pub none_changes : (change : Filter → Filter) (id : ℕ) (filters : List Filter) → IsFalse (list_any (λ (filter : Filter). id == filter.id) filters) → filters ≡ filters_with change id filters
none_changes change id [] h = refl
none_changes change id (filter ∷ filters) h = by_test (id == filter.id) h (none_changes change id filters)
  where
    by_test : (t : Bool) → (t || list_any (λ (filter : Filter). id == filter.id) filters) ≡ false →
        (IsFalse (list_any (λ (filter : Filter). id == filter.id) filters) → filters ≡ filters_with change id filters) →
        filter ∷ filters ≡ (if t then change filter else filter) ∷ filters_with change id filters
    by_test true h behind = absurd (true≢false h)
    by_test false h behind = ap (λ l. filter ∷ l) (behind h)

-- ids among ids, and filters of an id
ids_any : (id : ℕ) (filters : List Filter) → list_any (λ other. id == other) (ids_of filters) ≡ list_any (λ (filter : Filter). id == filter.id) filters
ids_any id [] = refl
ids_any id (filter ∷ filters) = ap (λ t. (id == filter.id) || t) (ids_any id filters)

-- the first filter of the id is its only one, so all of them change with it
pub first_changes : (change : Filter → Filter) (id k : ℕ) (filters : List Filter) (d y : Filter) → HaveOwnIds filters → IsFirst id filters k →
    y ≡ change (slice_index_or filters k d) → slice_set filters k y ≡ filters_with change id filters
first_changes change id k [] d y own h changed = absurd h
first_changes change id zero (filter ∷ filters) d y own h changed =
    let others : IsFalse (list_any (λ (other : Filter). id == other.id) filters) =
    sym (ids_any id filters) ∙ ap (λ n. list_any (λ other. n == other) (ids_of filters)) ((Decides-eqb id filter.id).0 h) ∙ own.0 in
    (λ i. changed i ∷ none_changes change id filters others i)
    ∙ ap (λ t. (if t then change filter else filter) ∷ filters_with change id filters) (sym h)
first_changes change id (suc k) (filter ∷ filters) d y own h changed =
    (λ i. filter ∷ first_changes change id k filters d y own.1 h.1 changed i)
    ∙ ap (λ t. (if t then change filter else filter) ∷ filters_with change id filters) (sym h.0)

-- ---- ids stay apart

-- a change of filters that keeps their ids
pub same_ids : (change : Filter → Filter) (id : ℕ) (filters : List Filter) → ((filter : Filter) → (change filter).id ≡ filter.id) → ids_of (filters_with change id filters) ≡ ids_of filters
same_ids change id [] keeps = refl
same_ids change id (filter ∷ filters) keeps = λ i. by_test (id == filter.id) i ∷ same_ids change id filters keeps i
  where
    by_test : (t : Bool) → (if t then change filter else filter).id ≡ filter.id
    by_test true = keeps filter
    by_test false = refl

same_ids_of_all : (change : Filter → Filter) (filters : List Filter) → ((filter : Filter) → (change filter).id ≡ filter.id) → ids_of (map change filters) ≡ ids_of filters
same_ids_of_all change [] keeps = refl
same_ids_of_all change (filter ∷ filters) keeps = λ i. keeps filter i ∷ same_ids_of_all change filters keeps i

-- one more id, which no filter has
absent_more : (x id : ℕ) (ids : List ℕ) → (x == id) ≡ false → IsFalse (list_any (λ other. x == other) ids) → IsFalse (list_any (λ other. x == other) (ids ++ id ∷ []))
absent_more x id [] h old = ap (λ t. t || false) h
absent_more x id (y ∷ ids) h old =
    ap (λ t. t || list_any (λ other. x == other) (ids ++ id ∷ [])) (or_first (x == y) (list_any (λ other. x == other) ids) old)
    ∙ absent_more x id ids h (or_second (x == y) (list_any (λ other. x == other) ids) old)

distinct_more : (id : ℕ) (ids : List ℕ) → AreDistinct ids → IsFalse (list_any (λ other. id == other) ids) → AreDistinct (ids ++ id ∷ [])
distinct_more id [] own new = (refl, tt)
distinct_more id (x ∷ ids) own new = (
  absent_more x id ids (unequal_turned id x (or_first (id == x) (list_any (λ other. id == other) ids) new)) own.0,
  distinct_more id ids own.1 (or_second (id == x) (list_any (λ other. id == other) ids) new),
)

ids_more : (filters : List Filter) (filter : Filter) → ids_of (filters ++ filter ∷ []) ≡ ids_of filters ++ filter.id ∷ []
ids_more [] filter = refl
ids_more (x ∷ filters) filter = ap (λ l. x.id ∷ l) (ids_more filters filter)

pub own_ids_with : (change : Filter → Filter) (id : ℕ) (filters new : List Filter) → ((filter : Filter) → (change filter).id ≡ filter.id) → new ≡ filters_with change id filters →
    HaveOwnIds filters → HaveOwnIds new
own_ids_with change id filters new keeps e own =
    subst AreDistinct (sym (ap ids_of e ∙ same_ids change id filters keeps)) own

pub own_ids_of_all : (change : Filter → Filter) (filters new : List Filter) → ((filter : Filter) → (change filter).id ≡ filter.id) → new ≡ map change filters →
    HaveOwnIds filters → HaveOwnIds new
own_ids_of_all change filters new keeps e own =
    subst AreDistinct (sym (ap ids_of e ∙ same_ids_of_all change filters keeps)) own

pub own_ids_more : (filters new : List Filter) (filter : Filter) → new ≡ filters ++ filter ∷ [] → HaveOwnIds filters →
    IsFalse (list_any (λ (other : Filter). filter.id == other.id) filters) → HaveOwnIds new
own_ids_more filters new filter e own absent =
    subst AreDistinct (sym (ap ids_of e ∙ ids_more filters filter)) (distinct_more filter.id (ids_of filters) own (ids_any filter.id filters ∙ absent))

-- ---- room

pub room_where_there : (id : ℕ) (filters : List Filter) → list_any (λ (filter : Filter). id == filter.id) filters ≡ true → true ≡ not (is_full_for id (ids_of filters))
room_where_there id filters e = sym (ap (λ t. not (nat_le 16 (length (ids_of filters)) && not t)) (ids_any id filters ∙ e) ∙ by_test (nat_le 16 (length (ids_of filters))))
  where
    by_test : (t : Bool) → not (t && false) ≡ true
    by_test true = refl
    by_test false = refl

pub no_room : (id : ℕ) (filters : List Filter) → list_any (λ (filter : Filter). id == filter.id) filters ≡ false → length filters ≡ 16 → false ≡ not (is_full_for id (ids_of filters))
no_room id filters e full =
    sym (ap (λ t. not (nat_le 16 (length (ids_of filters)) && not t)) (ids_any id filters ∙ e) ∙ ap (λ n. not (nat_le 16 n && true)) (length-map filters (λ (filter : Filter). filter.id) ∙ full))

-- ---- a filter put

pub put_behind : (id mask : ℕ) (filters new : List Filter) (x : Filter) → list_any (λ (filter : Filter). id == filter.id) filters ≡ false → x ≡ record { id = id; mask = mask; count = 0 } →
    new ≡ filters ++ x ∷ [] → new ≡ filter_put id mask filters
put_behind id mask filters new x e is written =
    written ∙ ap (λ y. filters ++ y ∷ []) is
    ∙ sym (ap (λ t. if t then filters_with (renewed mask) id filters else filters ++ record { id = id; mask = mask; count = 0 } ∷ []) e)

-- a filter that is replaced by a new one of its id
pub replaced : (id k mask : ℕ) (filters : List Filter) (y : Filter) → HaveOwnIds filters → IsFirst id filters k →
    y ≡ record { id = id; mask = mask; count = 0 } → slice_set filters k y ≡ filters_with (renewed mask) id filters
replaced id k mask filters y own h new =
    first_changes (renewed mask) id k filters y y own h (new ∙ (λ i. record { id = first_has_id id k filters y h i; mask = mask; count = 0 }))

-- ---- what is written through a slice of the same length

pub refilled : (filters new : List Filter) → length new ≡ length filters → refill (length filters) filters new ≡ new
refilled filters new e =
    let none_left : drop (length new) filters ≡ [] = grind (arith, common_steps) in
    subst (λ m. take m (new ++ drop (length new) filters) ≡ new) e (rw none_left (grind (arith, common_steps)))

-- a change of an id's filter through a slice
pub written : (change : Filter → Filter) (id : ℕ) (filters slice new : List Filter) → slice ≡ filters → new ≡ filters_with change id slice →
    refill (length filters) filters new ≡ filters_with change id filters
written change id filters slice new e changed =
    let now : new ≡ filters_with change id filters = changed ∙ ap (filters_with change id) e in
    refilled filters new (ap length now ∙ length-map filters (λ (filter : Filter). if id == filter.id then change filter else filter)) ∙ now

pub written_over : (change : Filter → Filter) (filters slice new : List Filter) → slice ≡ filters → new ≡ map change slice →
    refill (length filters) filters new ≡ map change filters
written_over change filters slice new e changed =
    let now : new ≡ map change filters = changed ∙ ap (map change) e in
    refilled filters new (ap length now ∙ length-map filters change) ∙ now

-- ---- a filter set

module _ (id mask : ℕ) (now items slice new : List Filter) (r : Bool) (viewed : items ≡ now) (lent : slice ≡ items)
    (found : r ≡ list_any (λ (filter : Filter). id == filter.id) slice) (after : new ≡ filters_with (renewed mask) id slice) where
  any_now : (b : Bool) → r ≡ b → list_any (λ (filter : Filter). id == filter.id) now ≡ b
  any_now b e = ap (list_any (λ (filter : Filter). id == filter.id)) (sym (lent ∙ viewed)) ∙ sym found ∙ e

  pub room_there : r ≡ true → true ≡ not (is_full_for id (ids_of now))
  room_there e = room_where_there id now (any_now true e)

  -- where there was none, nothing was written
  pub unchanged : r ≡ false → refill (length items) items new ≡ now
  unchanged e =
      written (renewed mask) id items slice new lent after
      ∙ sym (none_changes (renewed mask) id items (ap (list_any (λ (filter : Filter). id == filter.id)) viewed ∙ any_now false e)) ∙ viewed

  pub full : r ≡ false → (t : Bool) → t ≡ (length (refill (length items) items new) == 16) → t ≡ true → false ≡ not (is_full_for id (ids_of now))
  full e t test is_full =
      no_room id now (any_now false e) (ap length (sym (unchanged e)) ∙ (Decides-eqb (length (refill (length items) items new)) 16).0 (sym test ∙ is_full))

  pub own_with_more : r ≡ false → (pushed : List Filter) (x : Filter) → x ≡ record { id = id; mask = mask; count = 0 } → pushed ≡ refill (length items) items new ++ x ∷ [] →
      HaveOwnIds items → HaveOwnIds pushed
  own_with_more e pushed x is more own =
      own_ids_more now pushed (record { id = id; mask = mask; count = 0 }) (more ∙ (λ i. unchanged e i ++ is i ∷ [])) (subst HaveOwnIds viewed own) (any_now false e)

  pub put_more : r ≡ false → (pushed : List Filter) (x : Filter) → x ≡ record { id = id; mask = mask; count = 0 } → pushed ≡ refill (length items) items new ++ x ∷ [] →
      pushed ≡ filter_put id mask now
  put_more e pushed x is more = put_behind id mask now pushed x (any_now false e) is (more ∙ (λ i. unchanged e i ++ x ∷ []))
