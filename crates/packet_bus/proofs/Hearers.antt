-- The seat whose pipe alone hears a packet.
use Rattle.std.proofs.Common.{◌≡◌, ◌∙◌, ap₂, sym, refl, ℕ, ◌+◌, ◌==◌, List, [], ◌∷◌, map, count_by}
use Rattle.std.specs.Prelude.{Bool, Option, Some, None, option_map, if◌then◌else◌}
use Rattle.std.specs.List.{position_from}
use Rattle.lc_model.specs.Packet.{message_id}
use Rattle.lc_model.specs.Services.Bus.{Queue, hears_packet}
use Rattle.packet_bus.specs.Seats.{is_in}
use Rattle.packet_bus.specs.Slots.{PooledPacket}
use Rattle.packet_bus.specs.Line.{Line, hears_mid}
use Rattle.packet_bus.specs.Inside.{queue_over, shown}
use Rattle.packet_bus.specs.Hearers.{only_hearer}
use Rattle.packet_bus.proofs.Places.{sum_by_cons}
use Rattle.packet_bus.proofs.Ready.{heard_place}

-- as many seats are in the set as places hear
counted : (pool : List PooledPacket) (packet : List ℕ) (places : List (Option Line)) →
    count_by is_in (map (hears_mid (message_id packet)) places) ≡ count_by (hears_packet packet) (shown pool places)
counted pool packet [] = refl
counted pool packet (place ∷ places) =
    sum_by_cons (λ b. if is_in b then 1 else 0) (hears_mid (message_id packet) place) (map (hears_mid (message_id packet)) places)
    ∙ ap₂ (λ (b : Bool) n. (if b then 1 else 0) + n) (heard_place pool packet place) (counted pool packet places)
    ∙ sym (sum_by_cons (λ (queue : Option Queue). if hears_packet packet queue then 1 else 0) (option_map (queue_over pool) place) (shown pool places))

-- the first of them is the first place that hears
found_from : (pool : List PooledPacket) (packet : List ℕ) (i : ℕ) (places : List (Option Line)) →
    position_from is_in i (map (hears_mid (message_id packet)) places) ≡ position_from (hears_packet packet) i (shown pool places)
found_from pool packet i [] = refl
found_from pool packet i (place ∷ places) =
    ap₂ (λ (b : Bool) found. if b then Some i else found) (heard_place pool packet place) (found_from pool packet (i + 1) places)

pub only_is : (pool : List PooledPacket) (packet : List ℕ) (places : List (Option Line)) →
    (if count_by is_in (map (hears_mid (message_id packet)) places) == 1 then position_from is_in 0 (map (hears_mid (message_id packet)) places) else None)
    ≡ only_hearer packet (shown pool places)
only_is pool packet places = ap₂ (λ n (found : Option ℕ). if n == 1 then found else None) (counted pool packet places) (found_from pool packet 0 places)
