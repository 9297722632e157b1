-- How slots are taken from the pool.
use Rattle.std.proofs.Common.{◌≡◌, ◌∙◌, ap, ap₂, sym, refl, ℕ, suc, ◌+◌, ◌<◌, ◌≤◌, ◌==◌, Bool, true, false, ◌&&◌, List, [], ◌∷◌, ◌++◌, length, replicate, arith, length-append, append_assoc, length-set}
use Rattle.std.specs.Prelude.{◌-◌, nat_lt, if◌then◌else◌, slice_set, slice_index_or}
use Rattle.std.proofs.lemmas.List.{length-replicate, get_or-replicate, get_or_past, get_or_append_left, get_or-append_right, set-append_left}
use Rattle.std.proofs.Math.Seq.{set-append_seam}
use Rattle.std.proofs.lemmas.List.Sums.{sum_by-append, sum_by-set}
use Rattle.std.proofs.lemmas.Grind.{common_steps}
use Rattle.packet_bus.specs.Slots.{PooledPacket, all_slots, slot_at, no_packet, is_used, occurrences, IsPool}

-- the last of some numbers stands once more in them
pub last_occurs : (numbers : List ℕ) (n : ℕ) → occurrences n (numbers ++ n ∷ []) ≡ occurrences n numbers + 1
last_occurs numbers n = grind (arith, common_steps, sum_by-append (λ other. if other == n then 1 else 0) numbers (n ∷ []))

-- and another as often
pub others_occur : (numbers : List ℕ) (n other : ℕ) → (n == other) ≡ false → occurrences other (numbers ++ n ∷ []) ≡ occurrences other numbers
others_occur numbers n other differs = grind (arith, common_steps, differs, sum_by-append (λ x. if x == other then 1 else 0) numbers (n ∷ []))

-- ---- all slots by those that were ever used

module _ (slots : List PooledPacket) where
  abbrev rest : List PooledPacket
  rest = replicate (576 - length slots) no_packet

  at_rest : (n : ℕ) → slice_index_or rest n no_packet ≡ no_packet
  at_rest n = by_place (nat_lt n (576 - length slots)) refl
    where
      by_place : (b : Bool) → nat_lt n (576 - length slots) ≡ b → slice_index_or rest n no_packet ≡ no_packet
      by_place true is = get_or-replicate (576 - length slots) n no_packet no_packet (grind (arith, is))
      by_place false is = get_or_past rest n no_packet (rw (length-replicate (576 - length slots) no_packet) (grind (arith, is)))

  pub at_all : (n : ℕ) → slot_at (all_slots slots) n ≡ slot_at slots n
  at_all n = by_place (nat_lt n (length slots)) refl
    where
      by_place : (b : Bool) → nat_lt n (length slots) ≡ b → slot_at (all_slots slots) n ≡ slot_at slots n
      by_place true is = get_or_append_left slots rest no_packet n (grind (arith, is))
      by_place false is =
          let past : length slots ≤ n = grind (arith, is) in
          get_or-append_right slots rest (length slots) n no_packet refl past
          ∙ at_rest (n - length slots)
          ∙ sym (get_or_past slots n no_packet past)

  -- a slot that pipes wait for was used
  pub is_used_once : (n : ℕ) → 0 < (slot_at (all_slots slots) n).readers → n < length slots
  is_used_once n waits = by_place (nat_lt n (length slots)) refl
    where
      by_place : (b : Bool) → nat_lt n (length slots) ≡ b → n < length slots
      by_place true is = grind (arith, is)
      by_place false is =
          let past : length slots ≤ n = grind (arith, is) in
          let none : slot_at (all_slots slots) n ≡ no_packet = at_all n ∙ get_or_past slots n no_packet past in
          grind (arith, none, waits)

  pub set_all : (n : ℕ) (slot : PooledPacket) → n < length slots → all_slots (slice_set slots n slot) ≡ slice_set (all_slots slots) n slot
  set_all n slot below =
      ap (λ k. slice_set slots n slot ++ replicate (576 - k) no_packet) (length-set slots n slot)
      ∙ sym (set-append_left slots rest n slot below)

-- a slot that pipes wait for changes
pub changed_all : (slots now : List PooledPacket) (n : ℕ) (slot : PooledPacket) → all_slots slots ≡ now → 0 < (slot_at now n).readers →
    (slot_at slots n ≡ slot_at now n) × (all_slots (slice_set slots n slot) ≡ slice_set now n slot)
changed_all slots now n slot seen waits =
    let there : n < length slots = is_used_once slots n (rw seen waits) in
    (sym (at_all slots n) ∙ ap (λ all. slot_at all n) seen, set_all slots n slot there ∙ ap (λ all. slice_set all n slot) seen)

-- one more is used
pub all_more : (slots : List PooledPacket) (slot : PooledPacket) → length slots < 576 → all_slots (slots ++ slot ∷ []) ≡ slice_set (all_slots slots) (length slots) slot
all_more slots slot few =
    let long : length (slots ++ slot ∷ []) ≡ length slots + 1 = length-append slots (slot ∷ []) in
    let left : 576 - length slots ≡ suc (575 - length slots) = omega arith in
    let fewer : 576 - (length slots + 1) ≡ 575 - length slots = omega arith in
    ap (λ k. (slots ++ slot ∷ []) ++ replicate (576 - k) no_packet) long
    ∙ ap (λ k. (slots ++ slot ∷ []) ++ replicate k no_packet) fewer
    ∙ append_assoc slots (slot ∷ []) (replicate (575 - length slots) no_packet)
    ∙ sym (ap (λ k. slice_set (slots ++ replicate k no_packet) (length slots) slot) left
    ∙ set-append_seam slots no_packet (replicate (575 - length slots) no_packet) slot)

pub next_used : (slots : List PooledPacket) (n readers : ℕ) → length slots < 576 → n ≡ length slots →
    all_slots (slots ++ record { packet = []; readers = readers } ∷ []) ≡ slice_set (all_slots slots) n record { packet = (slot_at slots n).packet; readers = readers }
next_used slots n readers few is =
    let past : length slots ≤ n = omega arith in
    all_more slots (record { packet = []; readers = readers }) few
    ∙ ap₂ (λ k (packet : List ℕ). slice_set (all_slots slots) k record { packet = packet; readers = readers }) (sym is)
    (ap (λ (slot : PooledPacket). slot.packet) (sym (get_or_past slots n no_packet past)))

-- ---- a slot is taken

-- a slot that is free again
module _ (slots : List PooledPacket) (rest : List ℕ) (n slots_room room : ℕ) (pool : IsPool slots (rest ++ n ∷ []) slots_room room) where
  -- the last free number is a slot's, and no pipe waits for that slot
  pub is_slot : n < length slots
  is_slot = grind (arith, common_steps, pool.free_once n, last_occurs rest n)

  pub is_free : (slot_at slots n).readers ≡ 0
  is_free = grind (arith, common_steps, pool.free_once n, last_occurs rest n)

  -- in the list that is left it stands no more, and the others as before
  occurs : (slot : PooledPacket) → 0 < slot.readers → (other : ℕ) (b : Bool) → (n == other) ≡ b →
      occurrences other rest ≡ (if nat_lt other (length (slice_set slots n slot)) && (slot_at (slice_set slots n slot) other).readers == 0 then 1 else 0)
  occurs slot waits other true is = grind (arith, common_steps, pool.free_once n, last_occurs rest n, is_slot, is_free, is, waits)
  occurs slot waits other false is = grind (arith, common_steps, pool.free_once other, others_occur rest n other is, is)

  -- it is used with a packet that pipes wait for
  pub taken : (slot : PooledPacket) (room' : ℕ) → 0 < slot.readers → room' ≡ room → IsPool (slice_set slots n slot) rest slots_room room'
  taken slot room' waits same = record {
    few = grind (arith, common_steps, pool.few);
    free_once = λ other. occurs slot waits other (n == other) refl;
    all = grind (arith, common_steps, pool.all, length-append rest (n ∷ []), sum_by-set (λ slot. if is_used slot then 1 else 0) slots n slot no_packet is_slot, is_free, waits);
    slots_fit = pool.slots_fit;
    free_fits = grind (arith, same, pool.free_fits);
  }
