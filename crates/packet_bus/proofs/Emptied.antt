-- A pipe that loses its packets and its subscriptions, one after the other.
use Rattle.std.proofs.Common.{◌≡◌, ◌∙◌, ap, ap₂, sym, refl, ℕ, zero, suc, ◌<◌, ◌≤◌, ◌==◌, Bool, true, false, not, List, [], ◌∷◌, length, drop, filter, map, arith}
use Rattle.std.specs.Prelude.{Option, Some, None, option_map, slice_set, slice_get, is_some, cond}
use Rattle.std.proofs.lemmas.List.{get_or-set_same, set-get_or}
use Rattle.lc_model.specs.Services.Bus.{Publication, Queue, Bus, new_pipe, pipe_at, oldest, oldest_at, without_oldest, parted, after, pipe_removed}
use Rattle.packet_bus.specs.Slots.{PooledPacket}
use Rattle.packet_bus.specs.Line.{Line, new_line, mids_in}
use Rattle.packet_bus.specs.Inside.{publication_in, queue_over, changed, without_packets, without_subscriptions}

-- written twice
set_twice : {X : Type 0} (xs : List X) (k : ℕ) (x y : X) → slice_set (slice_set xs k x) k y ≡ slice_set xs k y
set_twice [] k x y = refl
set_twice (first ∷ xs) zero x y = refl
set_twice (first ∷ xs) (suc k) x y = ap (λ rest. first ∷ rest) (set_twice xs k x y)

-- changed twice
pub changed_twice : (seat : ℕ) (first second : Queue → Queue) (bus : Bus) → changed seat second (changed seat first bus) ≡ changed seat (λ queue. second (first queue)) bus
changed_twice seat first second [] = refl
changed_twice zero first second (None ∷ bus) = refl
changed_twice zero first second (Some queue ∷ bus) = refl
changed_twice (suc seat) first second (place ∷ bus) = ap (λ rest. place ∷ rest) (changed_twice seat first second bus)

-- the packets of a pipe, and its subscriptions
abbrev pub packets_of : Option Queue → List Publication
packets_of None = []
packets_of (Some queue) = queue.waiting

abbrev pub mids_of : Option Queue → List ℕ
mids_of None = []
mids_of (Some queue) = queue.subscriptions

-- no packet is left
pub no_packets : (seat : ℕ) (bus : Bus) → is_some (oldest_at seat bus) ≡ false → changed seat without_oldest bus ≡ changed seat without_packets bus
no_packets seat bus none = ap (slice_set bus seat) (by_pipe (pipe_at seat bus) none)
  where
    by_packets : (queue : Queue) (packets : List Publication) → is_some (option_map (λ (publication : Publication). publication.bytes) (slice_get packets 0)) ≡ false →
        Some (record queue { waiting = drop 1 packets }) ≡ Some (record queue { waiting = [] })
    by_packets queue [] none = refl
    by_packets queue (packet ∷ packets) none = cc

    by_pipe : (o : Option Queue) → is_some (option_map (λ (publication : Publication). publication.bytes) (oldest o)) ≡ false →
        option_map without_oldest o ≡ option_map without_packets o
    by_pipe None none = refl
    by_pipe (Some queue) none = by_packets queue queue.waiting none

-- a subscription less
kept_or_less : (p : ℕ → Bool) (xs : List ℕ) → length (filter p xs) ≤ length xs
kept_or_less p [] = omega arith
kept_or_less p (x ∷ xs) = by_test (p x) (kept_or_less p xs)
  where
    by_test : (b : Bool) → length (filter p xs) ≤ length xs → length (cond b (x ∷ filter p xs) (filter p xs)) ≤ suc (length xs)
    by_test true less = omega arith
    by_test false less = omega arith

pub fewer_mids : (seat mid : ℕ) (bus : Bus) → seat < length bus → slice_get (mids_of (pipe_at seat bus)) 0 ≡ Some mid →
    length (mids_of (pipe_at seat (changed seat (parted mid) bus))) < length (mids_of (pipe_at seat bus))
fewer_mids seat mid bus below first =
    rw (get_or-set_same bus seat (option_map (parted mid) (pipe_at seat bus)) None below) (by_pipe (pipe_at seat bus) first)
  where
    by_mids : (mids : List ℕ) → slice_get mids 0 ≡ Some mid → length (filter (λ other. not (mid == other)) mids) < length mids
    by_mids [] e = cc
    by_mids (m ∷ mids) e =
        let same : m ≡ mid = cc in
        let out : not (mid == m) ≡ false = grind (arith, same) in
        let rest : length (filter (λ other. not (mid == other)) mids) ≤ length mids = kept_or_less (λ other. not (mid == other)) mids in
        rw out (omega (arith, rest))

    by_pipe : (o : Option Queue) → slice_get (mids_of o) 0 ≡ Some mid → length (mids_of (option_map (parted mid) o)) < length (mids_of o)
    by_pipe None e = cc
    by_pipe (Some queue) e = by_mids queue.subscriptions e

-- no subscription is left
pub no_mids : (seat : ℕ) (bus : Bus) → slice_get (mids_of (pipe_at seat bus)) 0 ≡ None → bus ≡ changed seat without_subscriptions bus
no_mids seat bus none = sym (ap (slice_set bus seat) (sym (by_pipe (pipe_at seat bus) none)) ∙ set-get_or bus seat None)
  where
    by_mids : (queue : Queue) (mids : List ℕ) → slice_get mids 0 ≡ None → Some (record queue { subscriptions = mids }) ≡ Some (record queue { subscriptions = [] })
    by_mids queue [] e = refl
    by_mids queue (mid ∷ mids) e = cc

    by_pipe : (o : Option Queue) → slice_get (mids_of o) 0 ≡ None → o ≡ option_map without_subscriptions o
    by_pipe None e = refl
    by_pipe (Some queue) e = by_mids queue queue.subscriptions e

-- a place has the subscriptions of its pipe
pub same_mids : (pool : List PooledPacket) (place : Option Line) → mids_of (option_map (queue_over pool) place) ≡ mids_in place
same_mids pool None = refl
same_mids pool (Some line) = refl

-- ---- a pipe that goes

-- the seat's pipe has nothing then
pub nothing_left : (seat : ℕ) (bus : Bus) → seat < length bus → is_some (pipe_at seat bus) ≡ true →
    pipe_at seat (changed seat without_subscriptions (changed seat without_packets bus)) ≡ Some new_pipe
nothing_left seat bus below some =
    ap (pipe_at seat) (changed_twice seat without_packets without_subscriptions bus)
    ∙ get_or-set_same bus seat (option_map (λ queue. without_subscriptions (without_packets queue)) (pipe_at seat bus)) None below
    ∙ by_pipe (pipe_at seat bus) some
  where
    by_pipe : (o : Option Queue) → is_some o ≡ true → option_map (λ queue. without_subscriptions (without_packets queue)) o ≡ Some new_pipe
    by_pipe None e = cc
    by_pipe (Some queue) e = refl

-- nor has its place
pub place_is_new : (pool : List PooledPacket) (place : Option Line) → option_map (queue_over pool) place ≡ Some new_pipe → place ≡ Some new_line
place_is_new pool None e = cc
place_is_new pool (Some line) e =
    let subscriptions : line.subscriptions ≡ [] = ap mids_of e in
    let packets : map (publication_in pool) line.slots ≡ [] = ap packets_of e in
    ap₂ (λ mids slots. Some (record { subscriptions = mids; slots = slots })) subscriptions (by_slots line.slots packets)
  where
    by_slots : (slots : List ℕ) → map (publication_in pool) slots ≡ [] → slots ≡ []
    by_slots [] e = refl
    by_slots (slot ∷ slots) e = cc

-- and the bus without it
pub removed_is : (seat : ℕ) (bus : Bus) → is_some (pipe_at seat bus) ≡ true →
    slice_set (changed seat without_subscriptions (changed seat without_packets bus)) seat None ≡ after bus (pipe_removed seat bus)
removed_is seat bus some =
    set_twice (changed seat without_packets bus) seat (option_map without_subscriptions (pipe_at seat (changed seat without_packets bus))) None
    ∙ set_twice bus seat (option_map without_packets (pipe_at seat bus)) None
    ∙ by_pipe (pipe_at seat bus) refl some
  where
    by_pipe : (o : Option Queue) → pipe_at seat bus ≡ o → is_some o ≡ true → slice_set bus seat None ≡ after bus (pipe_removed seat bus)
    by_pipe None e lacks = cc
    by_pipe (Some queue) e lacks = rw e refl
