-- The bus by the parts that the program stores. This project's own.
use Rattle.std.specs.Prelude.{◌≡◌, ℕ, ◌<◌, ◌≤◌, Bool, true, false, List, [], ◌∷◌, length, map, replicate, slice_index_or, slice_set, Option, None, is_some, option_map, Some}
use Rattle.std.specs.List.{flat_map}
use Rattle.lc_model.specs.Packet.{header_fault}
use Rattle.lc_model.specs.Services.Bus.{Publication, Queue, Bus, pipe_at, is_subscribed}
use Rattle.packet_bus.specs.Slots.{PooledPacket, slot_at, occurrences}
use Rattle.packet_bus.specs.Line.{Line, slots_in, has_slots, is_long, hears_mid, with_slot}

-- ---- what the bus is

-- The packet in a pool slot as a publication; the slot's number is the publication's.
abbrev pub publication_in : List PooledPacket → ℕ → Publication
publication_in pool slot = record { number = slot; bytes = (slot_at pool slot).packet }

-- A stored pipe as a pipe of the model.
abbrev pub queue_over : List PooledPacket → Line → Queue
queue_over pool line = record { subscriptions = line.subscriptions; waiting = map (publication_in pool) line.slots }

-- The bus of the model, from the pool and the pipes of the seats.
abbrev pub shown : List PooledPacket → List (Option Line) → Bus
shown pool places = map (option_map (queue_over pool)) places

-- ---- how its parts belong together

-- The stored pipe of a seat, if it has one.
abbrev pub place_at : List (Option Line) → ℕ → Option Line
place_at places seat = slice_index_or places seat None

-- The pool slots of all waiting packets, seat by seat.
abbrev pub waiting_slots : List (Option Line) → List ℕ
waiting_slots places = flat_map slots_in places

-- No seat has a pipe.
abbrev pub no_lines : List (Option Line)
no_lines = replicate 8 None

-- The empty set of seats.
abbrev pub nobody : List Bool
nobody = replicate 8 false

-- The seats whose pipes are subscribed to a message id.
abbrev pub audience_of : List (List Bool) → ℕ → List Bool
audience_of audience mid = slice_index_or audience mid nobody

-- The invariant of the bus: eight seats, pool and pipes agree, and three summaries of them: the subscribers of each message id,
-- the seats with waiting packets, and the seats with full pipes.
pub record IsBus (places : List (Option Line)) (pool : List PooledPacket) (audience : List (List Bool)) (ready full : List Bool) : Type 0 where
  pub eight : length places ≡ 8
  -- Each pool slot has as many readers as pipes in which its packet waits.
  pub readers : (slot : ℕ) → occurrences slot (waiting_slots places) ≡ (slot_at pool slot).readers
  pub short : (seat : ℕ) → length (slots_in (place_at places seat)) ≤ 72
  -- A waiting packet has no header fault.
  pub good : (slot : ℕ) → 0 < (slot_at pool slot).readers → header_fault (slot_at pool slot).packet ≡ None
  -- A row for each message id that passes the header check.
  pub rows : length audience ≡ 8192
  pub heard : (mid : ℕ) → mid < 8192 → audience_of audience mid ≡ map (hears_mid mid) places
  pub waits : ready ≡ map has_slots places
  pub is_full : full ≡ map is_long places

-- ---- steps

-- The bus with `change` done to the pipe of a seat.
abbrev pub changed : ℕ → (Queue → Queue) → Bus → Bus
changed seat change bus = slice_set bus seat (option_map change (pipe_at seat bus))

-- Whether the pipe, if any, is subscribed to the message id.
abbrev pub hears_in : ℕ → Option Queue → Bool
hears_in mid None = false
hears_in mid (Some queue) = is_subscribed mid queue

-- The pipe without its packets.
abbrev pub without_packets : Queue → Queue
without_packets queue = record queue { waiting = [] }

-- The pipe without its subscriptions.
abbrev pub without_subscriptions : Queue → Queue
without_subscriptions queue = record queue { subscriptions = [] }

-- The pipes after the packet of a pool slot was added to those of the seats in `hearers`.
abbrev pub delivered : ℕ → List Bool → List (Option Line) → List (Option Line)
delivered slot hearers [] = []
delivered slot [] (place ∷ places) = place ∷ places
delivered slot (true ∷ hearers) (place ∷ places) = option_map (with_slot slot) place ∷ delivered slot hearers places
delivered slot (false ∷ hearers) (place ∷ places) = place ∷ delivered slot hearers places

-- Each of these seats has a pipe that is not full.
abbrev pub HaveRoom : List Bool → List (Option Line) → Type 0
HaveRoom hearers places =
    (seat : ℕ) → slice_index_or hearers seat false ≡ true → (is_some (place_at places seat) ≡ true) × (is_long (place_at places seat) ≡ false)
