-- A packet is published where none waits.
use Rattle.std.proofs.Common.{◌≡◌, refl, ap, ap₂, ◌∙◌, ℕ, zero, suc, ◌+◌, ◌*◌, ◌≤◌, ◌&&◌, ◌||◌, Bool, true, false, List, [], ◌∷◌, ◌++◌, length, map, count_by, arith, cond, if◌then◌else◌, Option, Some, None, Result, Ok, Err}
use Rattle.std.specs.Prelude.{IsOk, IsTrue, IfSome, option_map, slice_index_or, nat_le}
use Rattle.std.specs.Option.{option_or}
use Rattle.std.specs.List.{sum_by, position_from}
use Rattle.std.proofs.lemmas.List.{length-map}
use Rattle.std.proofs.lemmas.List.Sums.{sum_by-cons, count_by-le-length}
use Rattle.lc_model.specs.Packet.{header_fault, message_id}
use Rattle.lc_model.specs.Kept.Executive.{Pipe, has_some, is_ready, ready_seat, hears, offered, published_to}
use Rattle.lc_model.specs.Services.Bus.{Bus, Queue, Publication, seen, seen_pipe, is_full, hears_packet, is_blocked, is_subscribed, offered_as, published_as, publish_refusal}
use Rattle.lc_model.specs.Services.Interface.{waiting_in}
use Rattle.packet_bus.specs.declared.error.BusError.{BusError}
use Rattle.packet_bus.specs.Error.{refusal_in}
use Rattle.app_host.specs.Load.{is_tick, packets_in, ticks_in, weight_of, all_ticks, load, IsLight}
use Rattle.app_host.proofs.Found.{nowhere}
use Rattle.app_host.proofs.Loads.{no_ticks_in}

-- ---- it is not refused

no_packets : (ps : List Publication) → has_some (map (λ (p : Publication). p.bytes) ps) ≡ false → length ps ≡ 0
no_packets [] e = refl
no_packets (p ∷ ps) e = cc

pub first_not_ready : (place : Option Pipe) (places : List (Option Pipe)) (i : ℕ) → position_from is_ready i (place ∷ places) ≡ None → (is_ready place ≡ false) × (position_from is_ready (i + 1) places ≡ None)
first_not_ready place places i none = by_test (is_ready place) refl none
  where
    by_test : (b : Bool) → is_ready place ≡ b → cond b (Some i) (position_from is_ready (i + 1) places) ≡ None → (is_ready place ≡ false) × (position_from is_ready (i + 1) places ≡ None)
    by_test true is none = cc
    by_test false is none = (is, none)

not_full : (place : Option Queue) → is_ready (option_map seen_pipe place) ≡ false → is_full place ≡ false
not_full None e = refl
not_full (Some queue) e = let none : length queue.waiting ≡ 0 = no_packets queue.waiting e in ap (nat_le 72) none

never_blocked : (packet : List ℕ) (bus : Bus) (i : ℕ) → position_from is_ready i (seen bus) ≡ None → is_blocked packet bus ≡ false
never_blocked packet [] i none = refl
never_blocked packet (place ∷ bus) i none =
    let both = first_not_ready (option_map seen_pipe place) (seen bus) i none in
    joined (hears_packet packet place) (is_full place) (is_blocked packet bus) (not_full place both.0) (never_blocked packet bus (i + 1) both.1)
  where
    joined : (hearing full rest : Bool) → full ≡ false → rest ≡ false → (hearing && full || rest) ≡ false
    joined true full rest e f = ap₂ (λ a b. a || b) e f
    joined false full rest e f = f

pub is_published : (packet : List ℕ) (bus : Bus) (result : Result (Unit {0}) BusError) → header_fault packet ≡ None → ready_seat (seen bus) ≡ None → refusal_in result ≡ publish_refusal packet bus → IsOk result
is_published packet bus (Ok done) good quiet answer = refl
is_published packet bus (Err e) good quiet answer =
    let none : refusal_in {A = Unit {0}} (Err e) ≡ None = answer ∙ ap₂ (λ fault (b : Bool). option_or (option_map (λ reason. 91 ∷ reason ∷ []) fault) (if b then Some (92 ∷ []) else None)) good (never_blocked packet bus 0 quiet) in cc

-- ---- what waits then

sum_bounded : {A : Type 0} (f : A → ℕ) (xs : List A) (d : A) (n : ℕ) → ((i : ℕ) → f (slice_index_or xs i d) ≤ n) → sum_by f xs ≤ length xs * n
sum_bounded f [] d n each = omega arith
sum_bounded f (x ∷ xs) d n each =
    let rest : sum_by f xs ≤ length xs * n = sum_bounded f xs d n (λ i. each (suc i)) in
    let first : f x ≤ n = each 0 in
    grind (arith, rest, first, sum_by-cons f x xs)

pub offered_at : (packet : List ℕ) (pipes : List (Option Pipe)) (i : ℕ) → slice_index_or (published_to pipes packet) i None ≡ option_map (offered packet) (slice_index_or pipes i None)
offered_at packet [] i = refl
offered_at packet (pipe ∷ pipes) zero = refl
offered_at packet (pipe ∷ pipes) (suc i) = offered_at packet pipes i

one_at_most : (packet : List ℕ) (pipe : Option Pipe) → is_ready pipe ≡ false → packets_in (option_map (offered packet) pipe) ≤ 1
one_at_most packet None e = omega arith
one_at_most packet (Some pipe) e = by_waiting pipe.waiting e (hears packet pipe)
  where
    by_waiting : (waiting : List (List ℕ)) → has_some waiting ≡ false → (b : Bool) → length (if b then record pipe { waiting = waiting ++ packet ∷ [] } else record pipe { waiting = waiting }).waiting ≤ 1
    by_waiting [] e true = omega arith
    by_waiting [] e false = omega arith
    by_waiting (first ∷ rest) e b = cc

-- a pipe in which something waits hears the packet
heard_where_waits : {P : Type 0} (packet : List ℕ) (pipe : Option Pipe) → is_ready pipe ≡ false → IfSome pipe (λ (p : Pipe). IsTrue (hears packet p) → P) → 1 ≤ packets_in (option_map (offered packet) pipe) → P
heard_where_waits packet None e known waits = absurd (let none : 1 ≤ 0 = waits in omega (arith, none))
heard_where_waits {P} packet (Some pipe) e known waits = by_waiting pipe.waiting e (hears packet pipe) known waits
  where
    by_waiting : (waiting : List (List ℕ)) → has_some waiting ≡ false → (b : Bool) → (IsTrue b → P) →
        1 ≤ length (if b then record pipe { waiting = waiting ++ packet ∷ [] } else record pipe { waiting = waiting }).waiting → P
    by_waiting [] e true known waits = known refl
    by_waiting [] e false known waits = absurd (let none : 1 ≤ 0 = waits in omega (arith, none))
    by_waiting (first ∷ rest) e b known waits = cc

-- and what waits is no tick, if the packet is none
no_tick_at : (packet : List ℕ) (pipe : Option Pipe) → is_tick packet ≡ false → is_ready pipe ≡ false → ticks_in (option_map (offered packet) pipe) ≡ 0
no_tick_at packet None other e = refl
no_tick_at packet (Some pipe) other e = by_waiting pipe.waiting e (hears packet pipe)
  where
    by_waiting : (waiting : List (List ℕ)) → has_some waiting ≡ false → (b : Bool) →
        count_by is_tick (if b then record pipe { waiting = waiting ++ packet ∷ [] } else record pipe { waiting = waiting }).waiting ≡ 0
    by_waiting [] e true = no_ticks_in (packet ∷ []) ((λ is. grind (arith, is, other)), tt)
    by_waiting [] e false = refl
    by_waiting (first ∷ rest) e b = cc

module _ (packet : List ℕ) (pipes : List (Option Pipe)) (quiet : ready_seat pipes ≡ None) where
  pub none_is_tick : is_tick packet ≡ false → all_ticks (published_to pipes packet) ≡ 0
  none_is_tick other =
      let each : (i : ℕ) → ticks_in (slice_index_or (published_to pipes packet) i None) ≤ 0 = λ i.
      (let none : ticks_in (slice_index_or (published_to pipes packet) i None) ≡ 0 = ap ticks_in (offered_at packet pipes i) ∙ no_tick_at packet (slice_index_or pipes i None) other (nowhere is_ready pipes 0 i None quiet refl) in omega (arith, none)) in
      let sum : all_ticks (published_to pipes packet) ≤ length (published_to pipes packet) * 0 = sum_bounded ticks_in (published_to pipes packet) None 0 each in
      omega (arith, sum)

  pub who_waits_hears : {P : Type 0} (i : ℕ) → IfSome (slice_index_or pipes i None) (λ (p : Pipe). IsTrue (hears packet p) → P) → 1 ≤ packets_in (slice_index_or (published_to pipes packet) i None) → P
  who_waits_hears i known waits = heard_where_waits packet (slice_index_or pipes i None) (nowhere is_ready pipes 0 i None quiet refl) known (rw (offered_at packet pipes i) at waits)

module _ (packet : List ℕ) (pipes : List (Option Pipe)) (eight : length pipes ≡ 8) (quiet : ready_seat pipes ≡ None) where
  abbrev new : List (Option Pipe)
  new = published_to pipes packet

  as_long : length new ≡ 8
  as_long = length-map pipes (option_map (offered packet)) ∙ eight

  packets_at : (i : ℕ) → packets_in (slice_index_or new i None) ≤ 1
  packets_at i = rw (offered_at packet pipes i) (one_at_most packet (slice_index_or pipes i None) (nowhere is_ready pipes 0 i None quiet refl))

  ticks_at : (i : ℕ) → ticks_in (slice_index_or new i None) ≤ 1
  ticks_at i = omega (arith, packets_at i, count_by-le-length is_tick (waiting_in (slice_index_or new i None)))

  pub light_first : IsLight new
  light_first =
      let ticks : all_ticks new ≤ length new * 1 = sum_bounded ticks_in new None 1 ticks_at in
      record { eight = as_long; short = λ i. omega (arith, packets_at i, ticks, as_long) }

  pub load_first : load new ≤ 520
  load_first =
      let sum : load new ≤ length new * 65 = sum_bounded weight_of new None 65 (λ i. omega (arith, packets_at i, ticks_at i)) in
      omega (arith, sum, as_long)

-- a packet behind which nothing waits anywhere was heard by nobody, and left the bus as it was
unheard_at : (number : ℕ) (packet : List ℕ) (place : Option Queue) → is_ready (option_map seen_pipe (option_map (offered_as number packet) place)) ≡ false → option_map (offered_as number packet) place ≡ place
unheard_at number packet None idle = refl
unheard_at number packet (Some queue) idle = by_test (is_subscribed (message_id packet) queue) idle
  where
    some_wait : (waiting : List Publication) → has_some (map (λ (p : Publication). p.bytes) (waiting ++ record { number = number; bytes = packet } ∷ [])) ≡ true
    some_wait [] = refl
    some_wait (first ∷ waiting) = refl

    by_test : (b : Bool) → has_some (seen_pipe (if b then record queue { waiting = queue.waiting ++ record { number = number; bytes = packet } ∷ [] } else queue)).waiting ≡ false →
        ◌≡◌ {A = Option Queue} (Some (if b then record queue { waiting = queue.waiting ++ record { number = number; bytes = packet } ∷ [] } else queue)) (Some queue)
    by_test true idle = let busy = some_wait queue.waiting in cc
    by_test false idle = refl

pub unheard : (number : ℕ) (packet : List ℕ) (bus : Bus) (i : ℕ) → position_from is_ready i (seen (published_as number packet bus)) ≡ None → published_as number packet bus ≡ bus
unheard number packet [] i none = refl
unheard number packet (place ∷ bus) i none =
    let both = first_not_ready (option_map seen_pipe (option_map (offered_as number packet) place)) (seen (published_as number packet bus)) i none in
    ap₂ (λ (first : Option Queue) (rest : Bus). first ∷ rest) (unheard_at number packet place both.0) (unheard number packet bus (i + 1) both.1)

-- a pipe keeps its subscriptions
pub offered_keeps : (packet : List ℕ) (pipe : Option Pipe) → option_map (λ (p : Pipe). p.subscriptions) (option_map (offered packet) pipe) ≡ option_map (λ (p : Pipe). p.subscriptions) pipe
offered_keeps packet None = refl
offered_keeps packet (Some pipe) = by_test (hears packet pipe)
  where
    by_test : (b : Bool) → ◌≡◌ {A = Option (List ℕ)} (Some (if b then record pipe { waiting = pipe.waiting ++ packet ∷ [] } else pipe).subscriptions) (Some pipe.subscriptions)
    by_test true = refl
    by_test false = refl
