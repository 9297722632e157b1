-- The slots of the packet pool. This project's own.
use Rattle.std.specs.Prelude.{◌≡◌, ℕ, ◌+◌, ◌-◌, ◌≤◌, ◌==◌, nat_lt, Bool, ◌&&◌, if◌then◌else◌, List, [], ◌++◌, length, replicate, count_by, slice_index_or}

-- A slot: the packet that was last put into it, and the number of pipes in which it waits.
pub record PooledPacket : Type 0 where
  pub packet : List ℕ
  pub readers : ℕ

-- A slot without a packet.
abbrev pub no_packet : PooledPacket
no_packet = record { packet = []; readers = 0 }

-- A pool of 576 slots without packets.
abbrev pub no_slots : List PooledPacket
no_slots = replicate 576 no_packet

-- The slot with this number.
abbrev pub slot_at : List PooledPacket → ℕ → PooledPacket
slot_at slots number = slice_index_or slots number no_packet

-- Whether the slot's packet waits in a pipe.
abbrev pub is_used : PooledPacket → Bool
is_used slot = nat_lt 0 slot.readers

-- The number of slots whose packets wait in a pipe.
abbrev pub used_slots : List PooledPacket → ℕ
used_slots slots = count_by is_used slots

-- The slot after its packet was taken from one pipe.
abbrev pub released : PooledPacket → PooledPacket
released slot = record { packet = slot.packet; readers = slot.readers - 1 }

-- How often a number stands in a list.
abbrev pub occurrences : ℕ → List ℕ → ℕ
occurrences number numbers = count_by (λ other. other == number) numbers

-- All 576 slots, from those that were ever used: the others follow and have no packets.
abbrev pub all_slots : List PooledPacket → List PooledPacket
all_slots slots = slots ++ replicate (576 - length slots) no_packet

-- The invariant of the pool: the free list has each slot once that was used and whose packet waits in no pipe any more; both
-- lists have the room for all 576 slots that they were made with.
pub record IsPool (slots : List PooledPacket) (free : List ℕ) (slots_room free_room : ℕ) : Type 0 where
  pub few : length slots ≤ 576
  pub free_once : (number : ℕ) → occurrences number free ≡ (if nat_lt number (length slots) && (slot_at slots number).readers == 0 then 1 else 0)
  pub all : length free + used_slots slots ≡ length slots
  pub slots_fit : slots_room ≡ 576
  pub free_fits : free_room ≡ 576
