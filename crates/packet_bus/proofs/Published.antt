-- The bus after a publication.
use Rattle.std.proofs.Common.{◌≡◌, ◌≢◌, ◌∙◌, ap, ap₂, sym, refl, ℕ, zero, suc, ◌+◌, ◌<◌, ◌≤◌, ◌==◌, Bool, true, false, List, [], ◌∷◌, ◌++◌, length, map, arith, count_by, length-append}
use Rattle.std.specs.Prelude.{Option, Some, None, option_map, slice_set, slice_index_or, if◌then◌else◌, nat_lt}
use Rattle.std.proofs.lemmas.List.{set-set, get_or-set_same, get_or-set_other}
use Rattle.std.proofs.Math.ListN.{get_or-eq_default}
use Rattle.lc_model.specs.Packet.{header_fault, message_id}
use Rattle.lc_model.specs.Services.Bus.{Publication, Bus, waiting_numbers, is_among, offered_as, published_as, IsPublished}
use Rattle.packet_bus.specs.Seats.{is_in}
use Rattle.packet_bus.specs.Slots.{PooledPacket, slot_at, no_packet, occurrences}
use Rattle.packet_bus.specs.Line.{Line, slots_in, with_slot, has_slots, is_long, hears_mid}
use Rattle.packet_bus.specs.Inside.{publication_in, queue_over, shown, waiting_slots, delivered, HaveRoom, IsBus}
use Rattle.packet_bus.proofs.Places.{sum_by_cons, occurs_cons, occurs_append}
use Rattle.packet_bus.proofs.Counted.{waiting_are, among_occurs}

-- ---- how often a slot waits

-- a weight for each seat in a set
abbrev weights : ℕ → List Bool → ℕ
weights k [] = 0
weights k (true ∷ seats) = k + weights k seats
weights k (false ∷ seats) = weights k seats

each_one : (seats : List Bool) → weights 1 seats ≡ count_by is_in seats
each_one [] = refl
each_one (true ∷ seats) = omega (arith, each_one seats, sum_by_cons (λ b. if is_in b then 1 else 0) true seats)
each_one (false ∷ seats) = omega (arith, each_one seats, sum_by_cons (λ b. if is_in b then 1 else 0) false seats)

none_each : (seats : List Bool) → weights 0 seats ≡ 0
none_each [] = refl
none_each (true ∷ seats) = omega (arith, none_each seats)
none_each (false ∷ seats) = none_each seats

module _ (slot other k : ℕ) (once : occurrences other (slot ∷ []) ≡ k) (mid : ℕ) where
  more_slots : (place : Option Line) → hears_mid mid place ≡ true → occurrences other (slots_in (option_map (with_slot slot) place)) ≡ occurrences other (slots_in place) + k
  more_slots None e = cc
  more_slots (Some line) e = occurs_append other line.slots (slot ∷ []) ∙ ap (λ n. occurrences other line.slots + n) once

  weighed : (places : List (Option Line)) → occurrences other (waiting_slots (delivered slot (map (hears_mid mid) places) places)) ≡ occurrences other (waiting_slots places) + weights k (map (hears_mid mid) places)
  weighed [] = refl
  weighed (place ∷ places) = by_hearing (hears_mid mid place) refl (weighed places)
    where
      by_hearing : (b : Bool) → hears_mid mid place ≡ b →
          occurrences other (waiting_slots (delivered slot (map (hears_mid mid) places) places)) ≡ occurrences other (waiting_slots places) + weights k (map (hears_mid mid) places) →
          occurrences other (waiting_slots (delivered slot (b ∷ map (hears_mid mid) places) (place ∷ places)))
          ≡ occurrences other (waiting_slots (place ∷ places)) + weights k (b ∷ map (hears_mid mid) places)
      by_hearing true is rest =
          omega (
            arith,
            rest,
            more_slots place is,
            occurs_append other (slots_in (option_map (with_slot slot) place)) (waiting_slots (delivered slot (map (hears_mid mid) places) places)),
            occurs_append other (slots_in place) (waiting_slots places),
          )
      by_hearing false is rest =
          omega (
            arith,
            rest,
            occurs_append other (slots_in place) (waiting_slots (delivered slot (map (hears_mid mid) places) places)),
            occurs_append other (slots_in place) (waiting_slots places),
          )

-- ---- each place

with_slot_heard : (slot mid : ℕ) (place : Option Line) → hears_mid mid (option_map (with_slot slot) place) ≡ hears_mid mid place
with_slot_heard slot mid None = refl
with_slot_heard slot mid (Some line) = refl

heard_still : (slot mid : ℕ) (hearers : List Bool) (places : List (Option Line)) → map (hears_mid mid) (delivered slot hearers places) ≡ map (hears_mid mid) places
heard_still slot mid hearers [] = refl
heard_still slot mid [] (place ∷ places) = refl
heard_still slot mid (true ∷ hearers) (place ∷ places) = ap₂ (λ b bs. b ∷ bs) (with_slot_heard slot mid place) (heard_still slot mid hearers places)
heard_still slot mid (false ∷ hearers) (place ∷ places) = ap (λ bs. hears_mid mid place ∷ bs) (heard_still slot mid hearers places)

as_many : (slot : ℕ) (hearers : List Bool) (places : List (Option Line)) → length (delivered slot hearers places) ≡ length places
as_many slot hearers [] = refl
as_many slot [] (place ∷ places) = refl
as_many slot (true ∷ hearers) (place ∷ places) = ap suc (as_many slot hearers places)
as_many slot (false ∷ hearers) (place ∷ places) = ap suc (as_many slot hearers places)

one_longer : (slot : ℕ) (place : Option Line) → length (slots_in place) ≤ 72 → is_long place ≡ false → length (slots_in (option_map (with_slot slot) place)) ≤ 72
one_longer slot None short room = omega arith
one_longer slot (Some line) short room =
    let less : length line.slots < 72 = grind (arith, short, room) in
    omega (arith, less, length-append line.slots (slot ∷ []))

still_short : (slot : ℕ) (hearers : List Bool) (places : List (Option Line)) → HaveRoom hearers places → ((seat : ℕ) → length (slots_in (slice_index_or places seat None)) ≤ 72) →
    (seat : ℕ) → length (slots_in (slice_index_or (delivered slot hearers places) seat None)) ≤ 72
still_short slot hearers [] room short seat = short seat
still_short slot [] (place ∷ places) room short seat = short seat
still_short slot (true ∷ hearers) (place ∷ places) room short zero = one_longer slot place (short 0) (room 0 refl).1
still_short slot (true ∷ hearers) (place ∷ places) room short (suc seat) =
    still_short slot hearers places (λ k inside. room (suc k) inside) (λ k. short (suc k)) seat
still_short slot (false ∷ hearers) (place ∷ places) room short zero = short 0
still_short slot (false ∷ hearers) (place ∷ places) room short (suc seat) =
    still_short slot hearers places (λ k inside. room (suc k) inside) (λ k. short (suc k)) seat

-- ---- the whole

module _ (places : List (Option Line)) (pool : List PooledPacket) (slot : ℕ) (packet : List ℕ) (readers : ℕ) (within : slot < length pool) where
  abbrev kept : PooledPacket
  kept = record { packet = packet; readers = readers }

  abbrev pool_then : List PooledPacket
  pool_then = slice_set pool slot kept

  -- a slot that isn't this one
  same_publication : (other : ℕ) → (other == slot) ≡ false → publication_in pool_then other ≡ publication_in pool other
  same_publication other is =
      let another : other ≢ slot = grind (arith, is) in
      ap (λ (it : PooledPacket). record { number = other; bytes = it.packet }) (get_or-set_other pool slot other kept no_packet another)

  new_publication : publication_in pool_then slot ≡ record { number = slot; bytes = packet }
  new_publication = ap (λ (it : PooledPacket). record { number = slot; bytes = it.packet }) (get_or-set_same pool slot kept no_packet within)

  -- slots among which it isn't
  same_publications : (slots : List ℕ) → occurrences slot slots ≡ 0 → map (publication_in pool_then) slots ≡ map (publication_in pool) slots
  same_publications [] nowhere = refl
  same_publications (other ∷ slots) nowhere =
      let sum : (if other == slot then 1 else 0) + occurrences slot slots ≡ 0 = sym (occurs_cons slot other slots) ∙ nowhere in
      let is : (other == slot) ≡ false = grind (arith, sum) in
      let rest : occurrences slot slots ≡ 0 = omega (arith, sum) in
      ap₂ (λ first others. first ∷ others) (same_publication other is) (same_publications slots rest)

  map_behind : (slots : List ℕ) → map (publication_in pool_then) (slots ++ slot ∷ []) ≡ map (publication_in pool_then) slots ++ publication_in pool_then slot ∷ []
  map_behind [] = refl
  map_behind (other ∷ slots) = ap (λ rest. publication_in pool_then other ∷ rest) (map_behind slots)

  -- one place
  one_place : (place : Option Line) (b : Bool) → hears_mid (message_id packet) place ≡ b → occurrences slot (slots_in place) ≡ 0 →
      option_map (queue_over pool_then) (if b then option_map (with_slot slot) place else place) ≡ option_map (offered_as slot packet) (option_map (queue_over pool) place)
  one_place None b is nowhere = by_test b
    where
      by_test : (b : Bool) → option_map (queue_over pool_then) (if b then None else None) ≡ None
      by_test true = refl
      by_test false = refl
  one_place (Some line) true is nowhere =
      rw is
      (ap (λ (waiting : List Publication). Some (record { subscriptions = line.subscriptions; waiting = waiting }))
      (map_behind line.slots ∙ ap₂ (λ (waiting : List Publication) (new : Publication). waiting ++ new ∷ []) (same_publications line.slots nowhere) new_publication))
  one_place (Some line) false is nowhere =
      rw is (ap (λ (waiting : List Publication). Some (record { subscriptions = line.subscriptions; waiting = waiting })) (same_publications line.slots nowhere))

  -- all places
  all_places : (places : List (Option Line)) → occurrences slot (waiting_slots places) ≡ 0 →
      shown pool_then (delivered slot (map (hears_mid (message_id packet)) places) places) ≡ published_as slot packet (shown pool places)
  all_places [] nowhere = refl
  all_places (place ∷ places) nowhere = by_hearing (hears_mid (message_id packet) place) refl first (all_places places rest)
    where
      sum : occurrences slot (slots_in place) + occurrences slot (waiting_slots places) ≡ 0
      sum = sym (occurs_append slot (slots_in place) (waiting_slots places)) ∙ nowhere

      first : occurrences slot (slots_in place) ≡ 0
      first = omega (arith, sum)

      rest : occurrences slot (waiting_slots places) ≡ 0
      rest = omega (arith, sum)

      by_hearing : (b : Bool) → hears_mid (message_id packet) place ≡ b → occurrences slot (slots_in place) ≡ 0 →
          shown pool_then (delivered slot (map (hears_mid (message_id packet)) places) places) ≡ published_as slot packet (shown pool places) →
          shown pool_then (delivered slot (b ∷ map (hears_mid (message_id packet)) places) (place ∷ places)) ≡ published_as slot packet (shown pool (place ∷ places))
      by_hearing true is nowhere others = ap₂ (λ first others. first ∷ others) (one_place place true is nowhere) others
      by_hearing false is nowhere others = ap₂ (λ first others. first ∷ others) (one_place place false is nowhere) others

-- a slot that no pipe waits for is not among those that wait
pub not_among : (places : List (Option Line)) (pool : List PooledPacket) (slot : ℕ) → ((slot : ℕ) → occurrences slot (waiting_slots places) ≡ (slot_at pool slot).readers) →
    (slot_at pool slot).readers ≡ 0 → is_among slot (waiting_numbers (shown pool places)) ≡ false
not_among places pool slot readers free =
    ap (is_among slot) (waiting_are pool places) ∙ among_occurs slot (waiting_slots places) ∙ ap (nat_lt 0) (readers slot ∙ free)

-- beyond the pool there is none either
pub beyond : (pool : List PooledPacket) → (slot_at pool (length pool)).readers ≡ 0
beyond pool = ap (λ (it : PooledPacket). it.readers) (get_or-eq_default pool no_packet (omega arith))

-- a slot that is taken, and then filled
pub kept_then : (pool taken filled : List PooledPacket) (slot readers : ℕ) (packet : List ℕ) → slot < length pool →
    taken ≡ slice_set pool slot (record { packet = (slot_at pool slot).packet; readers = readers }) →
    filled ≡ slice_set taken slot (record { packet = packet; readers = (slot_at taken slot).readers }) →
    filled ≡ slice_set pool slot (record { packet = packet; readers = readers })
kept_then pool taken filled slot readers packet within first second =
    let held : (slot_at taken slot).readers ≡ readers =
    ap (λ (slots : List PooledPacket). (slot_at slots slot).readers) first
    ∙ ap (λ (kept : PooledPacket). kept.readers) (get_or-set_same pool slot (record { packet = (slot_at pool slot).packet; readers = readers }) no_packet within) in
    second
    ∙ ap₂ (λ (slots : List PooledPacket) count. slice_set slots slot (record { packet = packet; readers = count })) first held
    ∙ set-set pool slot (record { packet = (slot_at pool slot).packet; readers = readers }) (record { packet = packet; readers = readers })

module _ (places : List (Option Line)) (pool : List PooledPacket) (audience : List (List Bool)) (ready full : List Bool) (bus : IsBus places pool audience ready full) (slot : ℕ) (packet : List ℕ)
    (readers : ℕ) (within : slot < length pool) (free : (slot_at pool slot).readers ≡ 0) where
  -- each slot has its readers
  readers_then : readers ≡ count_by is_in (map (hears_mid (message_id packet)) places) → (other : ℕ) →
      occurrences other (waiting_slots (delivered slot (map (hears_mid (message_id packet)) places) places)) ≡ (slot_at (slice_set pool slot (record { packet = packet; readers = readers })) other).readers
  readers_then count other = by_slot (other == slot) refl
    where
      by_slot : (b : Bool) → (other == slot) ≡ b →
          occurrences other (waiting_slots (delivered slot (map (hears_mid (message_id packet)) places) places)) ≡ (slot_at (slice_set pool slot (record { packet = packet; readers = readers })) other).readers
      by_slot true is =
          let same : other ≡ slot = grind (arith, is) in
          let at : slot_at (slice_set pool slot (record { packet = packet; readers = readers })) slot ≡ record { packet = packet; readers = readers } =
          get_or-set_same pool slot (record { packet = packet; readers = readers }) no_packet within in
          let itself : (slot == slot) ≡ true = grind arith in
          let once : occurrences slot (slot ∷ []) ≡ 1 = occurs_cons slot slot [] ∙ rw itself (omega arith) in
          rw (same, at)
          (weighed slot slot 1 once (message_id packet) places
          ∙ omega (arith, bus.readers slot, free, each_one (map (hears_mid (message_id packet)) places), count))
      by_slot false is =
          let another : other ≢ slot = grind (arith, is) in
          let at : slot_at (slice_set pool slot (record { packet = packet; readers = readers })) other ≡ slot_at pool other =
          get_or-set_other pool slot other (record { packet = packet; readers = readers }) no_packet another in
          let differs : (slot == other) ≡ false = grind (arith, is) in
          let never : occurrences other (slot ∷ []) ≡ 0 = occurs_cons other slot [] ∙ rw differs (omega arith) in
          rw at (weighed slot other 0 never (message_id packet) places ∙ omega (arith, bus.readers other, none_each (map (hears_mid (message_id packet)) places)))

  good_then : header_fault packet ≡ None → (other : ℕ) → 0 < (slot_at (slice_set pool slot (record { packet = packet; readers = readers })) other).readers →
      header_fault (slot_at (slice_set pool slot (record { packet = packet; readers = readers })) other).packet ≡ None
  good_then good other less = by_slot (other == slot) refl
    where
      by_slot : (b : Bool) → (other == slot) ≡ b → header_fault (slot_at (slice_set pool slot (record { packet = packet; readers = readers })) other).packet ≡ None
      by_slot true is =
          let same : other ≡ slot = grind (arith, is) in
          rw (same, get_or-set_same pool slot (record { packet = packet; readers = readers }) no_packet within) good
      by_slot false is =
          let another : other ≢ slot = grind (arith, is) in
          let at : slot_at (slice_set pool slot (record { packet = packet; readers = readers })) other ≡ slot_at pool other =
          get_or-set_other pool slot other (record { packet = packet; readers = readers }) no_packet another in
          rw at (bus.good other (omega (arith, less, ap (λ (kept : PooledPacket). kept.readers) at)))

  -- the bus belongs together
  pub published_together : header_fault packet ≡ None → (places' : List (Option Line)) (ready' full' : List Bool) → places' ≡ delivered slot (map (hears_mid (message_id packet)) places) places →
      readers ≡ count_by is_in (map (hears_mid (message_id packet)) places) → HaveRoom (map (hears_mid (message_id packet)) places) places →
      ready' ≡ map has_slots places' → full' ≡ map is_long places' →
      IsBus places' (slice_set pool slot (record { packet = packet; readers = readers })) audience ready' full'
  published_together good places' ready' full' are count room waits long = record {
    eight = ap length are ∙ as_many slot (map (hears_mid (message_id packet)) places) places ∙ bus.eight;
    readers = λ other. ap (λ (ps : List (Option Line)). occurrences other (waiting_slots ps)) are ∙ readers_then count other;
    short = rw are (still_short slot (map (hears_mid (message_id packet)) places) places room bus.short);
    good = good_then good;
    rows = bus.rows;
    heard = λ mid below. bus.heard mid below ∙ sym (heard_still slot mid (map (hears_mid (message_id packet)) places) places) ∙ ap (map (hears_mid mid)) (sym are);
    waits = waits;
    is_full = long;
  }

  -- and the packet is published
  pub is_published : (places' : List (Option Line)) (old : Bus) → places' ≡ delivered slot (map (hears_mid (message_id packet)) places) places → shown pool places ≡ old →
      IsPublished packet old (shown (slice_set pool slot (record { packet = packet; readers = readers })) places')
  is_published places' old are view = record {
    number = slot;
    another = ap (λ (b : Bus). is_among slot (waiting_numbers b)) (sym view) ∙ not_among places pool slot bus.readers free;
    published =
        ap (shown (slice_set pool slot (record { packet = packet; readers = readers }))) are
        ∙ all_places places pool slot packet readers within places (bus.readers slot ∙ free)
        ∙ ap (published_as slot packet) view;
  }

-- ---- nobody hears

heard_by_none : (pool : List PooledPacket) (number : ℕ) (packet : List ℕ) (place : Option Line) → hears_mid (message_id packet) place ≡ false →
    option_map (queue_over pool) place ≡ option_map (offered_as number packet) (option_map (queue_over pool) place)
heard_by_none pool number packet None e = refl
heard_by_none pool number packet (Some line) e = rw e refl

none_hear : (pool : List PooledPacket) (number : ℕ) (packet : List ℕ) (places : List (Option Line)) → count_by is_in (map (hears_mid (message_id packet)) places) ≡ 0 →
    shown pool places ≡ published_as number packet (shown pool places)
none_hear pool number packet [] none = refl
none_hear pool number packet (place ∷ places) none =
    let sum : (if hears_mid (message_id packet) place then 1 else 0) + count_by is_in (map (hears_mid (message_id packet)) places) ≡ 0 =
    sym (sum_by_cons (λ b. if is_in b then 1 else 0) (hears_mid (message_id packet) place) (map (hears_mid (message_id packet)) places)) ∙ none in
    let first : hears_mid (message_id packet) place ≡ false = grind (arith, sum) in
    let rest : count_by is_in (map (hears_mid (message_id packet)) places) ≡ 0 = omega (arith, sum) in
    ap₂ (λ first others. first ∷ others) (heard_by_none pool number packet place first) (none_hear pool number packet places rest)

pub unheard : (places : List (Option Line)) (pool : List PooledPacket) (packet : List ℕ) (old : Bus) → ((slot : ℕ) → occurrences slot (waiting_slots places) ≡ (slot_at pool slot).readers) →
    count_by is_in (map (hears_mid (message_id packet)) places) ≡ 0 → shown pool places ≡ old → IsPublished packet old old
unheard places pool packet old readers none view = record {
  number = length pool;
  another = ap (λ (b : Bus). is_among (length pool) (waiting_numbers b)) (sym view) ∙ not_among places pool (length pool) readers (beyond pool);
  published = sym view ∙ none_hear pool (length pool) packet places none ∙ ap (published_as (length pool) packet) view;
}
