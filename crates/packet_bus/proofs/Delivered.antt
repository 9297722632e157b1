-- How a slot is put behind what waits on several seats, one seat after the other.
use Rattle.std.proofs.Common.{◌≡◌, ◌≢◌, ◌∙◌, ap, ap₂, sym, refl, ℕ, zero, suc, ◌+◌, ◌<◌, ◌==◌, Bool, true, false, not, List, [], ◌∷◌, ◌++◌, length, map, arith, count_by}
use Rattle.std.specs.Prelude.{Option, Some, None, option_map, slice_set, slice_index_or, is_some, if◌then◌else◌}
use Rattle.std.specs.List.{position_from}
use Rattle.std.proofs.lemmas.List.{get_or-set_same, get_or-set_other}
use Rattle.std.proofs.lemmas.List.Sums.{sum_by-set}
use Rattle.lc_model.proofs.Facts.{or_true, or_false}
use Rattle.packet_bus.proofs.Places.{sum_by_cons}
use Rattle.packet_bus.specs.Seats.{is_in, together}
use Rattle.packet_bus.specs.Line.{Line, with_slot, has_slots, is_long}
use Rattle.packet_bus.specs.Inside.{place_at, delivered, HaveRoom}

-- ---- the seats that are left

-- the least seat is one of them
found_from : (i k : ℕ) (left : List Bool) → position_from is_in i left ≡ Some k → (j : ℕ) × (k ≡ i + j) × (slice_index_or left j false ≡ true) × (j < length left)
found_from i k [] e = cc
found_from i k (true ∷ left) e = let same : i ≡ k = cc in (0, omega (arith, same), refl, omega arith)
found_from i k (false ∷ left) e = let rest = found_from (i + 1) k left e in (suc rest.0, omega (arith, rest.1), rest.2, omega (arith, rest.3))

pub is_left : (k : ℕ) (left : List Bool) → position_from is_in 0 left ≡ Some k → slice_index_or left k false ≡ true
is_left k left e = let there = found_from 0 k left e in let same : k ≡ there.0 = omega (arith, there.1) in rw same there.2

pub left_within : (k : ℕ) (left : List Bool) → position_from is_in 0 left ≡ Some k → k < length left
left_within k left e = let there = found_from 0 k left e in omega (arith, there.1, there.3)

-- where none is left, all is done
none_from : (slot i : ℕ) (left : List Bool) (places : List (Option Line)) → position_from is_in i left ≡ None → delivered slot left places ≡ places
none_from slot i left [] e = refl
none_from slot i [] (place ∷ places) e = refl
none_from slot i (true ∷ left) (place ∷ places) e = cc
none_from slot i (false ∷ left) (place ∷ places) e = ap (λ rest. place ∷ rest) (none_from slot (i + 1) left places e)

pub none_left : (slot : ℕ) (left : List Bool) (places : List (Option Line)) → position_from is_in 0 left ≡ None → delivered slot left places ≡ places
none_left slot left places e = none_from slot 0 left places e

-- one less is left
pub fewer_left : (k : ℕ) (left : List Bool) → position_from is_in 0 left ≡ Some k → count_by is_in (slice_set left k false) < count_by is_in left
fewer_left k left e =
    let here : slice_index_or left k false ≡ true = is_left k left e in
    let sums : count_by is_in (slice_set left k false) + (if slice_index_or left k false then 1 else 0) ≡ count_by is_in left + 0 = sum_by-set (λ b. if is_in b then 1 else 0) left k false false (left_within k left e) in
    let sums' : count_by is_in (slice_set left k false) + 1 ≡ count_by is_in left + 0 = rw here at sums in
    omega (arith, sums')

-- ---- one seat

-- what was left is done on one seat
pub delivered_on : (slot k : ℕ) (left : List Bool) (places : List (Option Line)) → slice_index_or left k false ≡ true →
    delivered slot (slice_set left k false) (slice_set places k (option_map (with_slot slot) (place_at places k))) ≡ delivered slot left places
delivered_on slot k left [] e = refl
delivered_on slot k [] (place ∷ places) e = cc
delivered_on slot zero (true ∷ left) (place ∷ places) e = refl
delivered_on slot zero (false ∷ left) (place ∷ places) e = cc
delivered_on slot (suc k) (true ∷ left) (place ∷ places) e = ap (λ rest. option_map (with_slot slot) place ∷ rest) (delivered_on slot k left places e)
delivered_on slot (suc k) (false ∷ left) (place ∷ places) e = ap (λ rest. place ∷ rest) (delivered_on slot k left places e)

-- the others have room still
pub room_left : (k : ℕ) (left : List Bool) (places : List (Option Line)) (new : Option Line) → k < length left → HaveRoom left places →
    HaveRoom (slice_set left k false) (slice_set places k new)
room_left k left places new within room seat inside = by_seat (seat == k) refl
  where
    by_seat : (b : Bool) → (seat == k) ≡ b → (is_some (place_at (slice_set places k new) seat) ≡ true) × (is_long (place_at (slice_set places k new) seat) ≡ false)
    by_seat true is =
        let same : seat ≡ k = grind (arith, is) in
        let out : slice_index_or (slice_set left k false) seat false ≡ false = rw same (get_or-set_same left k false false within) in
        cc
    by_seat false is =
        let another : seat ≢ k = grind (arith, is) in
        rw (get_or-set_other places k seat new None another) (room seat (sym (get_or-set_other left k seat false false another) ∙ inside))

-- it is ready, and maybe full
longer : (slots : List ℕ) (slot : ℕ) → not (length (slots ++ slot ∷ []) == 0) ≡ true
longer [] slot = refl
longer (s ∷ slots) slot = grind arith

has_one : (slot : ℕ) (place : Option Line) → is_some place ≡ true → has_slots (option_map (with_slot slot) place) ≡ true
has_one slot None e = cc
has_one slot (Some line) e = longer line.slots slot

pub ready_then : (slot : ℕ) (hearers : List Bool) (places : List (Option Line)) → HaveRoom hearers places →
    together (map has_slots places) hearers ≡ map has_slots (delivered slot hearers places)
ready_then slot hearers [] room = refl
ready_then slot [] (place ∷ places) room = refl
ready_then slot (true ∷ hearers) (place ∷ places) room =
    ap₂ (λ b bs. b ∷ bs) (or_true (has_slots place) ∙ sym (has_one slot place (room 0 refl).0)) (ready_then slot hearers places (λ seat inside. room (suc seat) inside))
ready_then slot (false ∷ hearers) (place ∷ places) room =
    ap₂ (λ b bs. b ∷ bs) (or_false (has_slots place)) (ready_then slot hearers places (λ seat inside. room (suc seat) inside))

-- ---- one seat alone

nobody_from : (i : ℕ) (seats : List Bool) → count_by is_in seats ≡ 0 → position_from is_in i seats ≡ None
nobody_from i [] none = refl
nobody_from i (true ∷ seats) none = absurd (omega (arith, none, sum_by_cons (λ b. if is_in b then 1 else 0) true seats))
nobody_from i (false ∷ seats) none =
    let rest : count_by is_in seats ≡ 0 = omega (arith, none, sum_by_cons (λ b. if is_in b then 1 else 0) false seats) in
    nobody_from (i + 1) seats rest

by_count : (seats : List Bool) (k : ℕ) (b : Bool) → (count_by is_in seats == 1) ≡ b → Some k ≡ (if b then position_from is_in 0 seats else None) →
    (count_by is_in seats ≡ 1) × (position_from is_in 0 seats ≡ Some k)
by_count seats k true is e = (grind (arith, is), sym e)
by_count seats k false is e = cc

-- the only seat is the least, and the slot is put there alone
pub only_least : (k : ℕ) (seats : List Bool) → Some k ≡ (if count_by is_in seats == 1 then position_from is_in 0 seats else None) → position_from is_in 0 seats ≡ Some k
only_least k seats e = (by_count seats k (count_by is_in seats == 1) refl e).1

pub only_one : (k : ℕ) (seats : List Bool) → Some k ≡ (if count_by is_in seats == 1 then position_from is_in 0 seats else None) → count_by is_in seats ≡ 1
only_one k seats e = (by_count seats k (count_by is_in seats == 1) refl e).0

pub delivered_once : (slot k : ℕ) (seats : List Bool) (places : List (Option Line)) → Some k ≡ (if count_by is_in seats == 1 then position_from is_in 0 seats else None) →
    slice_set places k (option_map (with_slot slot) (place_at places k)) ≡ delivered slot seats places
delivered_once slot k seats places e =
    let one = by_count seats k (count_by is_in seats == 1) refl e in
    let none : count_by is_in (slice_set seats k false) ≡ 0 = omega (arith, fewer_left k seats one.1, one.0) in
    sym (none_left slot (slice_set seats k false) (slice_set places k (option_map (with_slot slot) (place_at places k))) (nobody_from 0 (slice_set seats k false) none))
    ∙ delivered_on slot k seats places (is_left k seats one.1)
