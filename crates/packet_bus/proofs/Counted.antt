-- How many slots are used: as many as there are different numbers that wait.
use Rattle.std.proofs.Common.{◌≡◌, ◌≢◌, ◌∙◌, ap, ap₂, sym, refl, ℕ, zero, suc, ◌+◌, ◌*◌, ◌<◌, ◌≤◌, ◌==◌, Bool, true, false, ◌||◌, List, [], ◌∷◌, ◌++◌, length, map, arith, length-append}
use Rattle.std.specs.Prelude.{Option, Some, None, slice_set, slice_index_or, if◌then◌else◌, nat_lt}
use Rattle.std.proofs.lemmas.List.{get_or-set_same, get_or-set_other}
use Rattle.std.proofs.lemmas.List.Sums.{sum_by-set}
use Rattle.std.proofs.lemmas.Grind.{common_steps}
use Rattle.lc_model.specs.Services.Bus.{Publication, waiting_numbers, is_among, distinct_count}
use Rattle.packet_bus.specs.Slots.{PooledPacket, slot_at, no_packet, occurrences, used_slots, is_used, released}
use Rattle.packet_bus.specs.Line.{Line, slots_in}
use Rattle.packet_bus.specs.Inside.{publication_in, shown, waiting_slots}
use Rattle.packet_bus.proofs.Places.{occurs_cons, sum_by_cons}

-- ---- the numbers that wait are the slots

numbers_are : (pool : List PooledPacket) (slots : List ℕ) → map (λ (publication : Publication). publication.number) (map (publication_in pool) slots) ≡ slots
numbers_are pool [] = refl
numbers_are pool (slot ∷ slots) = ap (λ rest. slot ∷ rest) (numbers_are pool slots)

pub waiting_are : (pool : List PooledPacket) (places : List (Option Line)) → waiting_numbers (shown pool places) ≡ waiting_slots places
waiting_are pool [] = refl
waiting_are pool (None ∷ places) = waiting_are pool places
waiting_are pool (Some line ∷ places) = ap₂ (λ xs ys. xs ++ ys) (numbers_are pool line.slots) (waiting_are pool places)

-- ---- a number among others

among_more : (n first : ℕ) (numbers : List ℕ) (b : Bool) → (n == first) ≡ b → is_among n numbers ≡ nat_lt 0 (occurrences n numbers) →
    (n == first || is_among n numbers) ≡ nat_lt 0 (occurrences n (first ∷ numbers))
among_more n first numbers true is rest =
    let same : (first == n) ≡ true = grind (arith, is) in
    rw (is, occurs_cons n first numbers, same) (grind arith)
among_more n first numbers false is rest =
    let another : (first == n) ≡ false = grind (arith, is) in
    rw (is, occurs_cons n first numbers, another, rest) (grind arith)

pub among_occurs : (n : ℕ) (numbers : List ℕ) → is_among n numbers ≡ nat_lt 0 (occurrences n numbers)
among_occurs n [] = refl
among_occurs n (first ∷ numbers) = among_more n first numbers (n == first) refl (among_occurs n numbers)

-- ---- used slots

-- no slot is used where none is waited for
none_used : (pool : List PooledPacket) → ((slot : ℕ) → 0 ≡ (slot_at pool slot).readers) → used_slots pool ≡ 0
none_used [] none = refl
none_used (kept ∷ pool) none =
    let first : is_used kept ≡ false = let zero_there : 0 ≡ kept.readers = none 0 in grind (arith, zero_there) in
    sum_by_cons (λ slot. if is_used slot then 1 else 0) kept pool ∙ rw first (omega (arith, none_used pool (λ slot. none (suc slot))))

-- where one number less waits
module _ (pool : List PooledPacket) (n : ℕ) (numbers : List ℕ) (readers : (slot : ℕ) → occurrences slot (n ∷ numbers) ≡ (slot_at pool slot).readers) where
  waited_for : (slot_at pool n).readers ≡ suc (occurrences n numbers)
  waited_for = let same : (n == n) ≡ true = grind arith in sym (readers n) ∙ occurs_cons n n numbers ∙ rw same (omega arith)

  within : n < length pool
  within = grind (arith, common_steps, waited_for)

  abbrev less : List PooledPacket
  less = slice_set pool n (released (slot_at pool n))

  readers_less : (slot : ℕ) → occurrences slot numbers ≡ (slot_at less slot).readers
  readers_less slot = by_slot (slot == n) refl
    where
      by_slot : (b : Bool) → (slot == n) ≡ b → occurrences slot numbers ≡ (slot_at less slot).readers
      by_slot true is =
          let same : slot ≡ n = grind (arith, is) in
          let at : slot_at less n ≡ released (slot_at pool n) = get_or-set_same pool n (released (slot_at pool n)) no_packet within in
          rw (same, at) (omega (arith, waited_for))
      by_slot false is =
          let another : slot ≢ n = grind (arith, is) in
          let other : (n == slot) ≡ false = grind (arith, is) in
          let at : slot_at less slot ≡ slot_at pool slot = get_or-set_other pool n slot (released (slot_at pool n)) no_packet another in
          let old : occurrences slot (n ∷ numbers) ≡ occurrences slot numbers = occurs_cons slot n numbers ∙ rw other (omega arith) in
          rw at (sym old ∙ readers slot)

  used_less : used_slots pool ≡ (if is_among n numbers then 0 else 1) + used_slots less
  used_less =
      let sums : used_slots less + (if is_used (slot_at pool n) then 1 else 0) ≡ used_slots pool + (if is_used (released (slot_at pool n)) then 1 else 0) =
      sum_by-set (λ slot. if is_used slot then 1 else 0) pool n (released (slot_at pool n)) no_packet within in
      grind (arith, sums, waited_for, among_occurs n numbers)

-- as many slots are used as different numbers wait
pub used_are : (pool : List PooledPacket) (numbers : List ℕ) → ((slot : ℕ) → occurrences slot numbers ≡ (slot_at pool slot).readers) → used_slots pool ≡ distinct_count numbers
used_are pool [] readers = none_used pool readers
used_are pool (n ∷ numbers) readers =
    used_less pool n numbers readers
    ∙ ap (λ used. (if is_among n numbers then 0 else 1) + used) (used_are (less pool n numbers readers) numbers (readers_less pool n numbers readers))

-- ---- not all are used

one_more : (b : Bool) (m n : ℕ) → m ≤ n → ((if b then 0 else 1) + m) ≤ suc n
one_more true m n less = omega arith
one_more false m n less = omega arith

distinct_short : (numbers : List ℕ) → distinct_count numbers ≤ length numbers
distinct_short [] = omega arith
distinct_short (n ∷ numbers) = one_more (is_among n numbers) (distinct_count numbers) (length numbers) (distinct_short numbers)

pub waiting_short : (places : List (Option Line)) → ((seat : ℕ) → length (slots_in (slice_index_or places seat None)) ≤ 72) → length (waiting_slots places) ≤ 72 * length places
waiting_short [] short = omega arith
waiting_short (place ∷ places) short =
    let first : length (slots_in place) ≤ 72 = short 0 in
    let rest : length (waiting_slots places) ≤ 72 * length places = waiting_short places (λ seat. short (suc seat)) in
    omega (arith, length-append (slots_in place) (waiting_slots places), first, rest)

-- one place has room
pub waiting_shorter : (places : List (Option Line)) (seat : ℕ) → ((seat : ℕ) → length (slots_in (slice_index_or places seat None)) ≤ 72) →
    seat < length places → length (slots_in (slice_index_or places seat None)) < 72 → length (waiting_slots places) < 72 * length places
waiting_shorter [] seat short within room = absurd (omega arith)
waiting_shorter (place ∷ places) zero short within room =
    let rest : length (waiting_slots places) ≤ 72 * length places = waiting_short places (λ seat. short (suc seat)) in
    omega (arith, length-append (slots_in place) (waiting_slots places), rest, room)
waiting_shorter (place ∷ places) (suc seat) short within room =
    let first : length (slots_in place) ≤ 72 = short 0 in
    let less : seat < length places = omega arith in
    let rest : length (waiting_slots places) < 72 * length places = waiting_shorter places seat (λ seat. short (suc seat)) less room in
    omega (arith, length-append (slots_in place) (waiting_slots places), first, rest)

pub slot_left : (pool : List PooledPacket) (places : List (Option Line)) (seat : ℕ) → length places ≡ 8 →
    ((slot : ℕ) → occurrences slot (waiting_slots places) ≡ (slot_at pool slot).readers) → ((seat : ℕ) → length (slots_in (slice_index_or places seat None)) ≤ 72) →
    seat < length places → length (slots_in (slice_index_or places seat None)) < 72 → used_slots pool < 576
slot_left pool places seat eight readers short within room =
    omega (arith, used_are pool (waiting_slots places) readers, distinct_short (waiting_slots places), waiting_shorter places seat short within room, eight)
