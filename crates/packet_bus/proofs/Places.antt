-- The parts of the bus, where one place changes.
use Rattle.std.proofs.Common.{◌≡◌, ◌≢◌, ◌∙◌, ap, ap₂, sym, refl, ℕ, suc, ◌+◌, ◌<◌, ◌≤◌, ◌==◌, Bool, true, false, not, List, [], ◌∷◌, ◌++◌, length, map, drop, arith, length-set, zero-add, subst, IfSome}
use Rattle.std.specs.Prelude.{Option, Some, None, option_map, slice_set, slice_index_or, slice_get, if◌then◌else◌, is_some}
use Rattle.std.specs.List.{sum_by, list_any}
use Rattle.std.proofs.lemmas.List.{map-set, set-get_or, get_or-set_same, get_or-set_other, get_or-map, get_or_default}
use Rattle.std.proofs.lemmas.List.Sums.{sum_by-append, sum_by-set}
use Rattle.std.proofs.lemmas.Grind.{common_steps}
use Rattle.std.proofs.Math.Seq.{map-set_same}
use Rattle.lc_model.specs.Packet.{header_fault}
use Rattle.lc_model.specs.Services.Bus.{Publication, Queue, Bus, pipe_at, oldest, oldest_at, without_oldest}
use Rattle.packet_bus.specs.Slots.{PooledPacket, slot_at, no_packet, occurrences, released}
use Rattle.packet_bus.specs.Line.{Line, slots_in, mids_in, first_slot, behind_first, has_slots, is_long, hears_mid}
use Rattle.packet_bus.specs.Inside.{publication_in, queue_over, shown, place_at, waiting_slots, audience_of, IsBus, changed}

-- a sum, one by one
pub sum_by_cons : {X : Type 0} (f : X → ℕ) (x : X) (xs : List X) → sum_by f (x ∷ xs) ≡ f x + sum_by f xs
sum_by_cons f x xs = sum_by-append f (x ∷ []) xs ∙ ap (λ n. n + sum_by f xs) (zero-add (f x))

-- how often a number stands in a list, one by one, and in two lists
pub occurs_cons : (n first : ℕ) (rest : List ℕ) → occurrences n (first ∷ rest) ≡ (if first == n then 1 else 0) + occurrences n rest
occurs_cons n first rest = sum_by_cons (λ other. if other == n then 1 else 0) first rest

pub occurs_append : (n : ℕ) (xs ys : List ℕ) → occurrences n (xs ++ ys) ≡ occurrences n xs + occurrences n ys
occurs_append n xs ys = sum_by-append (λ other. if other == n then 1 else 0) xs ys

-- how often a slot waits, place by place
pub occurs_by_place : (slot : ℕ) (places : List (Option Line)) →
    occurrences slot (waiting_slots places) ≡ sum_by (λ place. occurrences slot (slots_in place)) places
occurs_by_place slot [] = refl
occurs_by_place slot (place ∷ places) =
    occurs_append slot (slots_in place) (waiting_slots places)
    ∙ ap (λ n. occurrences slot (slots_in place) + n) (occurs_by_place slot places)
    ∙ sym (sum_by_cons (λ (other : Option Line). occurrences slot (slots_in other)) place places)

-- and where one place changes
pub occurs_changed : (slot : ℕ) (places : List (Option Line)) (seat : ℕ) (place : Option Line) → seat < length places →
    occurrences slot (waiting_slots (slice_set places seat place)) + occurrences slot (slots_in (place_at places seat))
    ≡ occurrences slot (waiting_slots places) + occurrences slot (slots_in place)
occurs_changed slot places seat place below =
    rw (occurs_by_place slot (slice_set places seat place), occurs_by_place slot places)
    (sum_by-set (λ place. occurrences slot (slots_in place)) places seat place None below)

-- what holds of a new place and of all others holds of all
pub each_place : (P : Option Line → Type 0) (places : List (Option Line)) (seat : ℕ) (place : Option Line) → seat < length places → P place →
    ((other : ℕ) → P (place_at places other)) → (other : ℕ) → P (place_at (slice_set places seat place) other)
each_place P places seat place below holds each other = by_seat (other == seat) refl
  where
    by_seat : (b : Bool) → (other == seat) ≡ b → P (place_at (slice_set places seat place) other)
    by_seat true is = let same : other ≡ seat = grind (arith, is) in rw (same, get_or-set_same places seat place None below) holds
    by_seat false is = let another : other ≢ seat = grind (arith, is) in rw (get_or-set_other places seat other place None another) (each other)

-- an element that is there, however it was looked up
pub is_place_at : (places : List (Option Line)) (seat : ℕ) (place : Option Line) → seat < length places → place ≡ slice_index_or places seat place →
    place ≡ place_at places seat
is_place_at places seat place below e = e ∙ get_or_default places seat place None below

-- the view, where one place changes as its pipe does
pub shown_changed : (pool : List PooledPacket) (places : List (Option Line)) (seat : ℕ) (line_change : Line → Line) (change : Queue → Queue) → seat < length places →
    ((line : Line) → queue_over pool (line_change line) ≡ change (queue_over pool line)) →
    shown pool (slice_set places seat (option_map line_change (place_at places seat))) ≡ changed seat change (shown pool places)
shown_changed pool places seat line_change change below same =
    map-set (option_map (queue_over pool)) places seat (option_map line_change (place_at places seat))
    ∙ ap (slice_set (shown pool places) seat) (by_place (place_at places seat) ∙ ap (option_map change) (sym (get_or-map (option_map (queue_over pool)) places seat None None below)))
  where
    by_place : (place : Option Line) → option_map (queue_over pool) (option_map line_change place) ≡ option_map change (option_map (queue_over pool) place)
    by_place None = refl
    by_place (Some line) = ap Some (same line)

-- a pipe of the view is the place's
pub shown_pipe : (pool : List PooledPacket) (places : List (Option Line)) (seat : ℕ) → seat < length places →
    pipe_at seat (shown pool places) ≡ option_map (queue_over pool) (place_at places seat)
shown_pipe pool places seat below = get_or-map (option_map (queue_over pool)) places seat None None below

pub pipe_is : (pool : List PooledPacket) (places : List (Option Line)) (bus : Bus) (seat at : ℕ) (place : Option Line) → at < length places →
    place ≡ slice_index_or places at place → at ≡ seat → shown pool places ≡ bus → option_map (queue_over pool) place ≡ pipe_at seat bus
pipe_is pool places bus seat at place below found index view =
    ap (option_map (queue_over pool)) (is_place_at places at place below found)
    ∙ sym (shown_pipe pool places at below)
    ∙ ap₂ pipe_at index view

-- whether there is a pipe, on a place and in the view
pub has_queue : (pool : List PooledPacket) (place : Option Line) → is_some (option_map (queue_over pool) place) ≡ is_some place
has_queue pool None = refl
has_queue pool (Some line) = refl

pub no_place : (place : Option Line) → is_some place ≡ false → place ≡ None
no_place None e = refl
no_place (Some line) e = cc

-- the view, where a place is written
pub shown_set : (pool : List PooledPacket) (places : List (Option Line)) (bus : Bus) (seat at : ℕ) (new : Option Line) → at ≡ seat → shown pool places ≡ bus →
    shown pool (slice_set places at new) ≡ slice_set bus seat (option_map (queue_over pool) new)
shown_set pool places bus seat at new index view =
    map-set (option_map (queue_over pool)) places at new ∙ ap₂ (λ (b : Bus) k. slice_set b k (option_map (queue_over pool) new)) view index

-- and where it is written as the pipe changes
pub shown_new : (pool : List PooledPacket) (places : List (Option Line)) (bus : Bus) (seat at : ℕ) (old new : Option Line) (line_change : Line → Line) (change : Queue → Queue) →
    at < length places → old ≡ slice_index_or places at old → at ≡ seat → shown pool places ≡ bus → new ≡ option_map line_change old →
    ((line : Line) → queue_over pool (line_change line) ≡ change (queue_over pool line)) → shown pool (slice_set places at new) ≡ changed seat change bus
shown_new pool places bus seat at old new line_change change below found index view e same =
    ap (λ place. shown pool (slice_set places at place)) (e ∙ ap (option_map line_change) (is_place_at places at old below found))
    ∙ shown_changed pool places at line_change change below same
    ∙ ap₂ (λ k (b : Bus). changed k change b) index view

module _ (places : List (Option Line)) (pool : List PooledPacket) (audience : List (List Bool)) (ready full : List Bool) (bus : IsBus places pool audience ready full) (seat : ℕ)
    (below : seat < 8) where
  pub in_places : seat < length places
  in_places = omega (arith, below, bus.eight)

  -- the slots of a seat stay, and its subscriptions change
  pub resubscribed : (place : Option Line) (rows : List (List Bool)) → slots_in place ≡ slots_in (place_at places seat) → length rows ≡ 8192 →
      ((mid : ℕ) → mid < 8192 → audience_of rows mid ≡ slice_set (audience_of audience mid) seat (hears_mid mid place)) →
      IsBus (slice_set places seat place) pool rows ready full
  resubscribed place rows same size heard = record {
    eight = length-set places seat place ∙ bus.eight;
    readers = λ slot. readers_kept slot (occurs_changed slot places seat place in_places) (ap (occurrences slot) same) ∙ bus.readers slot;
    short = each_place (λ place. length (slots_in place) ≤ 72) places seat place in_places (rw same (bus.short seat)) bus.short;
    good = bus.good;
    rows = size;
    heard = λ mid less. heard mid less ∙ ap (λ row. slice_set row seat (hears_mid mid place)) (bus.heard mid less) ∙ sym (map-set (hears_mid mid) places seat place);
    waits = bus.waits ∙ sym (map-set_same has_slots places seat place None (ap (λ slots. not (length slots == 0)) same));
    is_full = bus.is_full ∙ sym (map-set_same is_long places seat place None (ap (λ slots. length slots == 72) same));
  }
    where
      readers_kept : (slot : ℕ) {new old now before : ℕ} → new + before ≡ old + now → now ≡ before → new ≡ old
      readers_kept slot e same = omega (arith, e, same)

  -- the oldest slot of a seat goes
  module _ (slot : ℕ) (first : first_slot (place_at places seat) ≡ Some slot) where
    -- the places then, and the pool
    abbrev behind : Option Line
    behind = option_map behind_first (place_at places seat)

    abbrev pool_after : List PooledPacket
    pool_after = slice_set pool slot (released (slot_at pool slot))

    -- the slots of the seat are this one and the others
    slots_are : slots_in (place_at places seat) ≡ slot ∷ slots_in behind
    slots_are = by_place (place_at places seat) first
      where
        by_slots : (slots : List ℕ) → slice_get slots 0 ≡ Some slot → slots ≡ slot ∷ drop 1 slots
        by_slots [] e = cc
        by_slots (n ∷ slots) e = let same : n ≡ slot = cc in ap (λ n. n ∷ slots) same

        by_place : (place : Option Line) → first_slot place ≡ Some slot → slots_in place ≡ slot ∷ slots_in (option_map behind_first place)
        by_place None e = cc
        by_place (Some line) e = by_slots line.slots e

    -- how often each slot waits then
    occurs_then : (other : ℕ) → occurrences other (waiting_slots (slice_set places seat behind)) + (if slot == other then 1 else 0) ≡ occurrences other (waiting_slots places)
    occurs_then other =
        omega (arith, occurs_changed other places seat behind in_places, ap (occurrences other) slots_are, occurs_cons other slot (slots_in behind))

    pub waits_here : 0 < (slot_at pool slot).readers
    waits_here = grind (arith, occurs_then slot, bus.readers slot)

    pub is_slot : slot < length pool
    is_slot = grind (arith, common_steps, waits_here)

    -- the others are as before
    packet_kept : (other : ℕ) → (slot_at pool_after other).packet ≡ (slot_at pool other).packet
    packet_kept other = by_slot (other == slot) refl
      where
        by_slot : (b : Bool) → (other == slot) ≡ b → (slot_at pool_after other).packet ≡ (slot_at pool other).packet
        by_slot true is =
            let same : other ≡ slot = grind (arith, is) in
            rw same (ap (λ (kept : PooledPacket). kept.packet) (get_or-set_same pool slot (released (slot_at pool slot)) no_packet is_slot))
        by_slot false is =
            let another : other ≢ slot = grind (arith, is) in
            ap (λ (kept : PooledPacket). kept.packet) (get_or-set_other pool slot other (released (slot_at pool slot)) no_packet another)

    readers_then : (other : ℕ) → (slot_at pool_after other).readers + (if slot == other then 1 else 0) ≡ (slot_at pool other).readers
    readers_then other = by_slot (other == slot) refl
      where
        by_slot : (b : Bool) → (other == slot) ≡ b → (slot_at pool_after other).readers + (if slot == other then 1 else 0) ≡ (slot_at pool other).readers
        by_slot true is =
            let same : other ≡ slot = grind (arith, is) in
            let at : slot_at pool_after slot ≡ released (slot_at pool slot) = get_or-set_same pool slot (released (slot_at pool slot)) no_packet is_slot in
            rw (same, at) (grind (arith, waits_here))
        by_slot false is =
            let another : other ≢ slot = grind (arith, is) in
            let at : slot_at pool_after other ≡ slot_at pool other = get_or-set_other pool slot other (released (slot_at pool slot)) no_packet another in
            rw at (grind (arith, another))

    good_then : (other : ℕ) → 0 < (slot_at pool_after other).readers → header_fault (slot_at pool_after other).packet ≡ None
    good_then other less = rw (packet_kept other) (bus.good other (omega (arith, less, readers_then other)))

    -- the bus belongs together again
    pub popped : (places' : List (Option Line)) (ready' full' : List Bool) → places' ≡ slice_set places seat behind → ready' ≡ map has_slots places' → full' ≡ map is_long places' →
        IsBus places' pool_after audience ready' full'
    popped places' ready' full' are waits long = record {
      eight = ap length are ∙ length-set places seat behind ∙ bus.eight;
      readers = λ other. omega (arith, ap (λ (ps : List (Option Line)). occurrences other (waiting_slots ps)) are, occurs_then other, readers_then other, bus.readers other);
      short = rw are (each_place (λ place. length (slots_in place) ≤ 72) places seat behind in_places (omega (arith, shorter)) bus.short);
      good = good_then;
      rows = bus.rows;
      heard = λ mid less.
          bus.heard mid less ∙ sym (map-set_same (hears_mid mid) places seat behind None (ap (list_any (λ other. mid == other)) mids_kept)) ∙ ap (map (hears_mid mid)) (sym are);
      waits = waits;
      is_full = long;
    }
      where
        shorter : length (slots_in behind) < 72
        shorter = let n : length (slots_in (place_at places seat)) ≡ suc (length (slots_in behind)) = ap length slots_are in omega (arith, n, bus.short seat)

        by_place : (place : Option Line) → mids_in (option_map behind_first place) ≡ mids_in place
        by_place None = refl
        by_place (Some line) = refl

        mids_kept : mids_in behind ≡ mids_in (place_at places seat)
        mids_kept = by_place (place_at places seat)

    -- and what is seen is the pipe without its oldest packet
    pub shown_popped : shown pool_after (slice_set places seat behind) ≡ changed seat without_oldest (shown pool places)
    shown_popped =
        ap (λ (publication : ℕ → Publication). map (option_map (λ (line : Line). record { subscriptions = line.subscriptions; waiting = map publication line.slots })) (slice_set places seat behind)) same
        ∙ shown_changed pool places seat behind_first without_oldest in_places (λ line. ap (λ waiting. record { subscriptions = line.subscriptions; waiting = waiting }) (map_behind line.slots))
      where
        same : publication_in pool_after ≡ publication_in pool
        same = λ i other. record { number = other; bytes = packet_kept other i }

        map_behind : (slots : List ℕ) → map (publication_in pool) (drop 1 slots) ≡ drop 1 (map (publication_in pool) slots)
        map_behind [] = refl
        map_behind (slot ∷ slots) = refl

  -- the oldest packet of a seat has no fault
  pub good_oldest : IfSome (oldest_at seat (shown pool places)) (λ packet. header_fault packet ≡ None)
  good_oldest = subst Good (sym (ap is_oldest (get_or-map (option_map (queue_over pool)) places seat None None in_places))) (by_place (place_at places seat) refl)
    where
      Good : Option (List ℕ) → Type 0
      Good packet = IfSome packet (λ packet. header_fault packet ≡ None)

      is_oldest : Option Queue → Option (List ℕ)
      is_oldest queue = option_map (λ (publication : Publication). publication.bytes) (oldest queue)

      by_slots : (slots : List ℕ) → ((slot : ℕ) → slice_get slots 0 ≡ Some slot → 0 < (slot_at pool slot).readers) →
          Good (option_map (λ (publication : Publication). publication.bytes) (slice_get (map (publication_in pool) slots) 0))
      by_slots [] waiting = tt
      by_slots (slot ∷ slots) waiting = bus.good slot (waiting slot refl)

      by_place : (place : Option Line) → place_at places seat ≡ place → Good (is_oldest (option_map (queue_over pool) place))
      by_place None is = tt
      by_place (Some line) is = by_slots line.slots (λ slot first. waits_here slot (rw is first))

  -- no slot waits on a seat
  module _ (none : first_slot (place_at places seat) ≡ None) where
    same_place : option_map behind_first (place_at places seat) ≡ place_at places seat
    same_place = by_place (place_at places seat) none
      where
        by_slots : (slots : List ℕ) → slice_get slots 0 ≡ None → drop 1 slots ≡ slots
        by_slots [] e = refl
        by_slots (slot ∷ slots) e = cc

        by_place : (place : Option Line) → first_slot place ≡ None → option_map behind_first place ≡ place
        by_place None e = refl
        by_place (Some line) e = ap (λ slots. Some (record { subscriptions = line.subscriptions; slots = slots })) (by_slots line.slots e)

    pub as_before : slice_set places seat (option_map behind_first (place_at places seat)) ≡ places
    as_before = ap (slice_set places seat) same_place ∙ set-get_or places seat None

    pub untouched : (places' : List (Option Line)) (ready' full' : List Bool) → places' ≡ slice_set places seat (option_map behind_first (place_at places seat)) →
        ready' ≡ map has_slots places' → full' ≡ map is_long places' → IsBus places' pool audience ready' full'
    untouched places' ready' full' are waits long =
        let same : places' ≡ places = are ∙ as_before in
        record {
          eight = ap length same ∙ bus.eight;
          readers = λ slot. ap (λ (ps : List (Option Line)). occurrences slot (waiting_slots ps)) same ∙ bus.readers slot;
          short = rw same bus.short;
          good = bus.good;
          rows = bus.rows;
          heard = λ mid less. bus.heard mid less ∙ ap (map (hears_mid mid)) (sym same);
          waits = waits;
          is_full = long;
        }

-- ---- sets of seats, where one place changes

-- a set by a test of each place
pub set_then : (test : Option Line → Bool) (places : List (Option Line)) (seat at : ℕ) (old new : List Bool) (place : Option Line) (b : Bool) → at ≡ seat → old ≡ map test places →
    test place ≡ b → new ≡ slice_set old seat b → new ≡ map test (slice_set places at place)
set_then test places seat at old new place b index was is now =
    now ∙ ap₂ (λ bs k. slice_set bs k b) was (sym index) ∙ ap (slice_set (map test places) at) (sym is) ∙ sym (map-set test places at place)

pub set_same : (test : Option Line → Bool) (places : List (Option Line)) (at : ℕ) (old : List Bool) (place : Option Line) → old ≡ map test places →
    test place ≡ test (place_at places at) → old ≡ map test (slice_set places at place)
set_same test places at old place was same = was ∙ sym (map-set_same test places at place None same)

-- a place with a slot is ready, and has room without it
pub has_first : (slot : ℕ) (place : Option Line) → first_slot place ≡ Some slot → has_slots place ≡ true
has_first slot None e = cc
has_first slot (Some line) e = by_slots line.slots e
  where
    by_slots : (slots : List ℕ) → slice_get slots 0 ≡ Some slot → not (length slots == 0) ≡ true
    by_slots [] e = cc
    by_slots (n ∷ slots) e = grind arith

pub has_room_behind : (slot : ℕ) (place : Option Line) → first_slot place ≡ Some slot → length (slots_in place) ≤ 72 → is_long (option_map behind_first place) ≡ false
has_room_behind slot None e short = cc
has_room_behind slot (Some line) e short = by_slots line.slots e short
  where
    by_slots : (slots : List ℕ) → slice_get slots 0 ≡ Some slot → length slots ≤ 72 → (length (drop 1 slots) == 72) ≡ false
    by_slots [] e short = cc
    by_slots (n ∷ slots) e short = let less : length slots < 72 = omega (arith, short) in grind (arith, less)
