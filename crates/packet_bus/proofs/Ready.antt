-- Which seats are ready, which hear a packet, and which have no room.
use Rattle.std.proofs.Common.{◌≡◌, ap, ap₂, refl, ℕ, zero, suc, ◌+◌, ◌<◌, ◌≤◌, ◌==◌, Bool, true, false, not, ◌&&◌, ◌||◌, List, [], ◌∷◌, length, map, arith, count_by}
use Rattle.std.specs.Prelude.{Option, Some, None, option_map, slice_index_or, is_some, if◌then◌else◌}
use Rattle.std.specs.List.{position_from}
use Rattle.lc_model.specs.Packet.{message_id}
use Rattle.lc_model.specs.Kept.Executive.{ready_seat, is_ready}
use Rattle.lc_model.specs.Services.Bus.{seen, seen_pipe, hears_packet, is_blocked, is_full}
use Rattle.lc_model.proofs.Facts.{or_first, or_second, and_other}
use Rattle.packet_bus.specs.Seats.{is_in, meet}
use Rattle.packet_bus.specs.Slots.{PooledPacket}
use Rattle.packet_bus.specs.Line.{Line, slots_in, has_slots, is_long, hears_mid}
use Rattle.packet_bus.specs.Inside.{publication_in, queue_over, shown, HaveRoom}
use Rattle.packet_bus.proofs.Places.{sum_by_cons}

-- ---- the least seat with a packet

ready_place : (pool : List PooledPacket) (place : Option Line) → has_slots place ≡ is_ready (option_map seen_pipe (option_map (queue_over pool) place))
ready_place pool None = refl
ready_place pool (Some line) = by_slots line.slots
  where
    by_slots : (slots : List ℕ) →
        not (length slots == 0) ≡ is_ready (option_map seen_pipe (option_map (queue_over pool) (Some (record line { slots = slots }))))
    by_slots [] = refl
    by_slots (slot ∷ slots) = grind arith

ready_from : (pool : List PooledPacket) (i : ℕ) (places : List (Option Line)) →
    position_from is_in i (map has_slots places) ≡ position_from is_ready i (seen (shown pool places))
ready_from pool i [] = refl
ready_from pool i (place ∷ places) =
    ap₂ (λ b o. if b then Some i else o) (ready_place pool place) (ready_from pool (i + 1) places)

pub least_is : (pool : List PooledPacket) (places : List (Option Line)) → position_from is_in 0 (map has_slots places) ≡ ready_seat (seen (shown pool places))
least_is pool places = ready_from pool 0 places

-- ---- who hears, and who has no room

pub length_map : {X Y : Type 0} (f : X → Y) (xs : List X) → length (map f xs) ≡ length xs
length_map f [] = refl
length_map f (x ∷ xs) = ap suc (length_map f xs)

full_place : (pool : List PooledPacket) (place : Option Line) → length (slots_in place) ≤ 72 → is_long place ≡ is_full (option_map (queue_over pool) place)
full_place pool None short = refl
full_place pool (Some line) short = grind (arith, short, length_map (publication_in pool) line.slots)

pub heard_place : (pool : List PooledPacket) (packet : List ℕ) (place : Option Line) →
    hears_mid (message_id packet) place ≡ hears_packet packet (option_map (queue_over pool) place)
heard_place pool packet None = refl
heard_place pool packet (Some line) = refl

pub blocked_is : (pool : List PooledPacket) (packet : List ℕ) (places : List (Option Line)) → ((seat : ℕ) → length (slots_in (slice_index_or places seat None)) ≤ 72) →
    meet (map (hears_mid (message_id packet)) places) (map is_long places) ≡ is_blocked packet (shown pool places)
blocked_is pool packet [] short = refl
blocked_is pool packet (place ∷ places) short =
    ap₂ (λ a b. a || b) (ap₂ (λ a b. a && b) (heard_place pool packet place) (full_place pool place (short 0))) (blocked_is pool packet places (λ seat. short (suc seat)))

-- ---- room

hears_some : (mid : ℕ) (place : Option Line) → hears_mid mid place ≡ true → is_some place ≡ true
hears_some mid None e = cc
hears_some mid (Some line) e = refl

pub have_room : (mid : ℕ) (places : List (Option Line)) → meet (map (hears_mid mid) places) (map is_long places) ≡ false → HaveRoom (map (hears_mid mid) places) places
have_room mid [] apart seat inside = cc
have_room mid (place ∷ places) apart zero inside = (
  hears_some mid place inside,
  and_other (hears_mid mid place) (is_long place) inside (or_first (hears_mid mid place && is_long place) (meet (map (hears_mid mid) places) (map is_long places)) apart),
)
have_room mid (place ∷ places) apart (suc seat) inside =
    have_room mid places (or_second (hears_mid mid place && is_long place) (meet (map (hears_mid mid) places) (map is_long places)) apart) seat inside

-- where some are in a set, there is one
pub one_is_in : (seats : List Bool) → 0 < count_by is_in seats → (seat : ℕ) × (seat < length seats) × (slice_index_or seats seat false ≡ true)
one_is_in [] some = absurd (omega arith)
one_is_in (true ∷ seats) some = (0, omega arith, refl)
one_is_in (false ∷ seats) some =
    let rest = one_is_in seats (omega (arith, some, sum_by_cons (λ b. if is_in b then 1 else 0) false seats)) in
    (suc rest.0, omega (arith, rest.1), rest.2)
