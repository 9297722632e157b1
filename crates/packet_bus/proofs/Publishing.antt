-- What a publication finds out before it keeps the packet.
use Rattle.std.proofs.Common.{◌≡◌, ◌∙◌, ap, ap₂, sym, refl, ℕ, ◌/◌, ◌<◌, ◌==◌, Bool, true, false, not, List, [], ◌∷◌, length, map, arith, count_by}
use Rattle.std.specs.Prelude.{Option, Some, None, option_map, slice_index_or, if◌then◌else◌}
use Rattle.std.specs.Option.{option_or}
use Rattle.std.proofs.lemmas.List.{get_or_default}
use Rattle.lc_model.specs.Packet.{header_fault, message_id}
use Rattle.lc_model.specs.Refusal.{Refusal}
use Rattle.lc_model.specs.Services.Bus.{Bus, is_blocked, publish_refusal}
use Rattle.packet_bus.specs.Seats.{is_in, meet}
use Rattle.packet_bus.specs.Slots.{PooledPacket, used_slots}
use Rattle.packet_bus.specs.Line.{Line, slots_in, is_long, hears_mid}
use Rattle.packet_bus.specs.Inside.{shown, place_at, nobody, HaveRoom, IsBus}
use Rattle.packet_bus.proofs.Ready.{blocked_is, have_room, one_is_in, length_map}
use Rattle.packet_bus.proofs.Counted.{slot_left}

-- a count, by a test
pub some_in : (n : ℕ) → (n == 0) ≡ false → 0 < n
some_in n e = grind (arith, e)

pub none_in : (n : ℕ) → (n == 0) ≡ true → n ≡ 0
none_in n e = grind (arith, e)

-- a packet has version 0
second_test : (a b : Bool) (rest : Option ℕ) → None ≡ (if a then Some 1 else if b then Some 2 else rest) → b ≡ false
second_test true b rest e = cc
second_test false true rest e = cc
second_test false false rest e = refl

pub small_mid : (packet : List ℕ) → None ≡ header_fault packet → message_id packet < 8192
small_mid packet good =
    let version_0 : not (message_id packet / 8192 == 0) ≡ false = second_test _ _ _ good in
    by_number (message_id packet) version_0
  where
    by_number : (n : ℕ) → not (n / 8192 == 0) ≡ false → n < 8192
    by_number n e = let none : n / 8192 ≡ 0 = grind (arith, e) in omega (arith, none)

-- the answer, where the header is good
pub answer_if : (packet : List ℕ) (bus : Bus) (b : Bool) → None ≡ header_fault packet → is_blocked packet bus ≡ b →
    publish_refusal packet bus ≡ (if b then Some (92 ∷ []) else None)
answer_if packet bus b good is =
    ap₂ (λ (fault : Option ℕ) (blocked : Bool). option_or (option_map (λ reason. 91 ∷ reason ∷ []) fault) (if blocked then Some (92 ∷ []) else None)) (sym good) is
    ∙ by_test b
  where
    by_test : (b : Bool) → option_or {T = Refusal} None (if b then Some (92 ∷ []) else None) ≡ (if b then Some (92 ∷ []) else None)
    by_test true = refl
    by_test false = refl

module _ (places : List (Option Line)) (pool : List PooledPacket) (audience : List (List Bool)) (ready full : List Bool) (bus : IsBus places pool audience ready full) (packet : List ℕ)
    (mid : ℕ) (row hearers : List Bool) (good : None ≡ header_fault packet) (value : mid ≡ message_id packet) (found : row ≡ slice_index_or audience mid row)
    (copied : hearers ≡ row) where
  pub hearers_are : hearers ≡ map (hears_mid (message_id packet)) places
  hearers_are =
      let below : mid < 8192 = rw value (small_mid packet good) in
      let in_rows : mid < length audience = omega (arith, below, bus.rows) in
      copied ∙ found ∙ get_or_default audience mid row nobody in_rows ∙ bus.heard mid below ∙ ap (λ n. map (hears_mid n) places) value

  pub blocked : (old : Bus) → shown pool places ≡ old → meet hearers full ≡ is_blocked packet old
  blocked old view = ap₂ meet hearers_are bus.is_full ∙ blocked_is pool packet places bus.short ∙ ap (is_blocked packet) view

  pub with_room : meet hearers full ≡ false → HaveRoom (map (hears_mid (message_id packet)) places) places
  with_room apart = have_room (message_id packet) places (sym (ap₂ meet hearers_are bus.is_full) ∙ apart)

  pub some_slot : meet hearers full ≡ false → 0 < count_by is_in hearers → used_slots pool < 576
  some_slot apart some =
      let counted : count_by is_in hearers ≡ count_by is_in (map (hears_mid (message_id packet)) places) = ap (count_by is_in) hearers_are in
      let one = one_is_in (map (hears_mid (message_id packet)) places) (omega (arith, some, counted)) in
      let within : one.0 < length places = omega (arith, one.1, length_map (hears_mid (message_id packet)) places) in
      let room : is_long (place_at places one.0) ≡ false = (with_room apart one.0 one.2).1 in
      let less : length (slots_in (place_at places one.0)) < 72 = grind (arith, room, bus.short one.0) in
      slot_left pool places one.0 bus.eight bus.readers bus.short within less
