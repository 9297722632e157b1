-- A packet that one pipe alone hears, where none waits: to publish it and to receive it leaves the bus as it is.
use Rattle.std.proofs.Common.{◌≡◌, refl, ap, ap₂, sym, ◌∙◌, subst, ℕ, zero, suc, ◌+◌, ◌<◌, ◌≤◌, ◌==◌, Bool, true, false, List, [], ◌∷◌, ◌++◌, length, map, arith, count_by, if◌then◌else◌, Option, Some, None, Result, Ok}
use Rattle.std.specs.Prelude.{IfSome, option_map, slice_set}
use Rattle.std.specs.List.{AllByRecursion, position_from}
use Rattle.std.proofs.lemmas.List.{length-map}
use Rattle.std.proofs.lemmas.List.Sums.{sum_by-cons}
use Rattle.std.proofs.lemmas.Option.{same_Some}
use Rattle.lc_model.specs.Device.{Sink}
use Rattle.lc_model.specs.Packet.{header_fault, message_id}
use Rattle.lc_model.specs.Refusal as refusal
use Rattle.lc_model.specs.Refusal.{Refusal, ◌>>=◌}
use Rattle.lc_model.specs.Kept.Executive.{has_some, is_ready, ready_seat}
use Rattle.lc_model.specs.Laws.TablesByName.{TablesAreFound}
use Rattle.lc_model.specs.Services.Bus.{Bus, Queue, Publication, seen, seen_pipe, pipe_at, waiting_numbers, is_among, is_subscribed, hears_packet, offered_as, published_as, IsPublished, with_pipe, without_oldest, received, after}
use Rattle.lc_model.specs.Services.Tables.{IsTableService}
use Rattle.packet_bus.specs.Hearers.{only_hearer}
use Rattle.app_host.specs.Hosted.{Object, Hosted, object_at}
use Rattle.app_host.specs.Objects.{IfBoth, MayAnswer, HasAnswered}
use Rattle.app_host.specs.Whole.{IsWhole, IsQuiet}
use Rattle.app_host.specs.Load.{IsLight, load}
use Rattle.app_host.specs.Delivered.{HasDelivered}
use Rattle.app_host.specs.HandedOver.{with_packet}
use Rattle.app_host.proofs.Delivery.{HasFirst, oldest_is}
use Rattle.app_host.proofs.Deliver.{may_give, deliver_done}
use Rattle.app_host.proofs.FirstPublished.{first_not_ready}
use Rattle.app_host.proofs.Draining.{Draining, draining_first}
use Rattle.app_host.specs.Heard.{IsOffered}
use Rattle.app_host.proofs.PassedOn.{light_after, load_after, whole_mid}

-- ---- nothing waits

-- what waits in a place
abbrev waits_in : Option Queue → List Publication
waits_in None = []
waits_in (Some queue) = queue.waiting

abbrev AreEmpty : Bus → Type 0
AreEmpty bus = AllByRecursion (λ (place : Option Queue). waits_in place ≡ []) bus

is_empty : (place : Option Queue) → is_ready (option_map seen_pipe place) ≡ false → waits_in place ≡ []
is_empty None e = refl
is_empty (Some queue) e = by_waiting queue.waiting e
  where
    by_waiting : (waiting : List Publication) → has_some (map (λ (publication : Publication). publication.bytes) waiting) ≡ false → waiting ≡ []
    by_waiting [] e = refl
    by_waiting (first ∷ others) e = cc

are_empty : (bus : Bus) (i : ℕ) → position_from is_ready i (seen bus) ≡ None → AreEmpty bus
are_empty [] i none = tt
are_empty (place ∷ bus) i none =
    let both = first_not_ready (option_map seen_pipe place) (seen bus) i none in (is_empty place both.0, are_empty bus (i + 1) both.1)

no_numbers : (bus : Bus) → AreEmpty bus → waiting_numbers bus ≡ []
no_numbers [] empty = refl
no_numbers (None ∷ bus) empty = no_numbers bus empty.1
no_numbers (Some queue ∷ bus) empty = ap₂ (λ (ns ms : List ℕ). ns ++ ms) (ap (map (λ (publication : Publication). publication.number)) empty.0) (no_numbers bus empty.1)

module _ (packet : List ℕ) where
  -- ---- who hears the packet

  abbrev NoneHear : Bus → Type 0
  NoneHear bus = AllByRecursion (λ (place : Option Queue). hears_packet packet place ≡ false) bus

  -- the place of this seat alone
  abbrev HearsAlone : Bus → ℕ → Type 0
  HearsAlone [] seat = ⊥
  HearsAlone (place ∷ bus) zero = (hears_packet packet place ≡ true) × NoneHear bus
  HearsAlone (place ∷ bus) (suc seat) = (hears_packet packet place ≡ false) × HearsAlone bus seat

  counted : (place : Option Queue) (bus : Bus) → count_by (hears_packet packet) (place ∷ bus) ≡ (if hears_packet packet place then 1 else 0) + count_by (hears_packet packet) bus
  counted place bus = sum_by-cons (λ (place : Option Queue). if hears_packet packet place then 1 else 0) place bus

  none_hear : (bus : Bus) → count_by (hears_packet packet) bus ≡ 0 → NoneHear bus
  none_hear [] none = tt
  none_hear (place ∷ bus) none =
      let sum : (if hears_packet packet place then 1 else 0) + count_by (hears_packet packet) bus ≡ 0 = sym (counted place bus) ∙ none in
      let first : hears_packet packet place ≡ false = grind (arith, sum) in
      (first, none_hear bus (omega (arith, sum)))

  alone_from : (bus : Bus) (i k : ℕ) → count_by (hears_packet packet) bus ≡ 1 → position_from (hears_packet packet) i bus ≡ Some k → (seat : ℕ) × (k ≡ i + seat) × HearsAlone bus seat
  alone_from [] i k one at = cc
  alone_from (place ∷ bus) i k one at =
      by_test (hears_packet packet place) refl (sym (counted place bus) ∙ one) at (λ one at. alone_from bus (i + 1) k one at)
    where
      by_test : (b : Bool) → hears_packet packet place ≡ b → (if b then 1 else 0) + count_by (hears_packet packet) bus ≡ 1 →
          (if b then Some i else position_from (hears_packet packet) (i + 1) bus) ≡ Some k →
          (count_by (hears_packet packet) bus ≡ 1 → position_from (hears_packet packet) (i + 1) bus ≡ Some k → (seat : ℕ) × (k ≡ (i + 1) + seat) × HearsAlone bus seat) →
          (seat : ℕ) × (k ≡ i + seat) × HearsAlone (place ∷ bus) seat
      by_test true is sum at rest = (0, omega (arith, same_Some i k at), (is, none_hear bus (omega (arith, sum))))
      by_test false is sum at rest = let found = rest (omega (arith, sum)) at in (suc found.0, omega (arith, found.1), (is, found.2))

  -- ---- the bus with it

  publication : Publication
  publication = record { number = 0; bytes = packet }

  still : (place : Option Queue) → hears_packet packet place ≡ false → option_map (offered_as 0 packet) place ≡ place
  still None e = refl
  still (Some queue) e = rw e refl

  all_still : (bus : Bus) → NoneHear bus → published_as 0 packet bus ≡ bus
  all_still [] none = refl
  all_still (place ∷ bus) none = ap₂ (λ (first : Option Queue) (rest : Bus). first ∷ rest) (still place none.0) (all_still bus none.1)

  offered : (queue : Queue) → is_subscribed (message_id packet) queue ≡ true → queue.waiting ≡ [] → offered_as 0 packet queue ≡ record queue { waiting = record { number = 0; bytes = packet } ∷ [] }
  offered queue e empty = rw e (ap (λ (ps : List Publication). record queue { waiting = ps ++ record { number = 0; bytes = packet } ∷ [] }) empty)

  -- the pipe in which it waits, and the bus when it is taken
  record Passing (bus : Bus) (seat : ℕ) : Type 0 where
    queue : Queue
    below : seat < length bus
    there : pipe_at seat (published_as 0 packet bus) ≡ Some queue
    waiting : queue.waiting ≡ record { number = 0; bytes = packet } ∷ []
    back : slice_set (published_as 0 packet bus) seat (Some (without_oldest queue)) ≡ bus

  passing : (bus : Bus) (seat : ℕ) → AreEmpty bus → HearsAlone bus seat → Passing bus seat
  passing [] seat empty alone = absurd alone
  passing (None ∷ bus) zero empty alone = cc
  passing (Some queue ∷ bus) zero empty alone = record {
    queue = record queue { waiting = record { number = 0; bytes = packet } ∷ [] };
    below = omega arith;
    there = ap Some (offered queue alone.0 empty.0);
    waiting = refl;
    back = ap₂ (λ (first : Option Queue) (rest : Bus). first ∷ rest) (ap (λ (ps : List Publication). Some (record queue { waiting = ps })) (sym empty.0)) (all_still bus alone.1);
  }
  passing (place ∷ bus) (suc seat) empty alone =
      let rest = passing bus seat empty.1 alone.1 in
      record {
        queue = rest.queue;
        below = omega (arith, rest.below);
        there = rest.there;
        waiting = rest.waiting;
        back = ap₂ (λ (first : Option Queue) (rest : Bus). first ∷ rest) (still place alone.0) rest.back;
      }

  -- ---- who is ready then

  ready_then : (place : Option Queue) → waits_in place ≡ [] → is_ready (option_map seen_pipe (option_map (offered_as 0 packet) place)) ≡ hears_packet packet place
  ready_then None empty = refl
  ready_then (Some queue) empty = by_test (is_subscribed (message_id packet) queue)
    where
      by_test : (b : Bool) → is_ready (Some (seen_pipe (if b then record queue { waiting = queue.waiting ++ record { number = 0; bytes = packet } ∷ [] } else queue))) ≡ b
      by_test true = ap (λ (ps : List Publication). has_some (map (λ (publication : Publication). publication.bytes) (ps ++ record { number = 0; bytes = packet } ∷ []))) empty
      by_test false = ap (λ (ps : List Publication). has_some (map (λ (publication : Publication). publication.bytes) ps)) empty

  ready_from : (bus : Bus) (i : ℕ) → AreEmpty bus → position_from is_ready i (seen (published_as 0 packet bus)) ≡ position_from (hears_packet packet) i bus
  ready_from [] i empty = refl
  ready_from (place ∷ bus) i empty = ap₂ (λ (b : Bool) found. if b then Some i else found) (ready_then place empty.0) (ready_from bus (i + 1) empty.1)

  -- ---- all of it

  record Alone (bus : Bus) (seat : ℕ) : Type 0 where
    hears : HearsAlone bus seat
    first : position_from (hears_packet packet) 0 bus ≡ Some seat

  only_alone : (bus : Bus) (seat : ℕ) → only_hearer packet bus ≡ Some seat → Alone bus seat
  only_alone bus seat only = by_test (count_by (hears_packet packet) bus == 1) refl only
    where
      by_test : (b : Bool) → (count_by (hears_packet packet) bus == 1) ≡ b → (if b then position_from (hears_packet packet) 0 bus else None) ≡ Some seat → Alone bus seat
      by_test true one at =
          let count : count_by (hears_packet packet) bus ≡ 1 = grind (arith, one) in
          let found = alone_from bus 0 seat count at in
          let same : found.0 ≡ seat = omega (arith, found.1) in
          record { hears = subst (HearsAlone bus) same found.2; first = at }
      by_test false one at = cc

module _ (law : TablesAreFound) (packet : List ℕ) (h : Hosted) (whole : IsWhole h) (quiet : IsQuiet h) (sound : IsTableService h.services.tables) (good : header_fault packet ≡ None)
    (eight : length h.services.bus ≡ 8) (seat : ℕ) (only : only_hearer packet h.services.bus ≡ Some seat) where
  abbrev bus : Bus
  bus = h.services.bus

  abbrev between : Bus
  between = published_as 0 packet h.services.bus

  empty : AreEmpty bus
  empty = are_empty bus 0 quiet

  pub published_first : IsPublished packet bus between
  published_first = record { number = 0; another = ap (is_among 0) (no_numbers bus empty); published = refl }

  alone : Alone packet bus seat
  alone = only_alone packet bus seat only

  through : Passing packet bus seat
  through = passing packet bus seat empty alone.hears

  pub ready_first : ready_seat (seen between) ≡ Some seat
  ready_first = ready_from packet bus 0 empty ∙ alone.first

  has : HasFirst between seat
  has = record {
    queue = through.queue;
    first = record { number = 0; bytes = packet };
    others = [];
    there = through.there;
    waiting = through.waiting;
    below = omega (arith, through.below, length-map bus (option_map (offered_as 0 packet)));
  }

  -- taken from its pipe, the bus is as it was
  bus_again : bus ≡ after between (received seat between)
  bus_again = sym through.back ∙ sym (ap (λ (place : Option Queue). after between (received_by place)) through.there)
    where
      received_by : Option Queue → Result Bus Refusal
      received_by place = refusal.found place 93 >>= (λ queue. Ok (with_pipe seat between (without_oldest queue)))

  pub whole_first : IsWhole (with_packet packet h)
  whole_first = whole_mid law h (with_packet packet h) packet whole quiet sound refl refl refl refl refl refl refl refl published_first

  pub light_first : IsLight (seen between)
  light_first = light_after packet bus between published_first eight quiet

  pub load_first : load (seen between) ≤ 520
  load_first = load_after packet bus between published_first eight quiet

  pub offered_first : IsOffered packet h (with_packet packet h)
  offered_first = record {
    stock = refl;
    seats = refl;
    is_closed = refl;
    events = refl;
    tables = refl;
    counts = refl;
    moment = refl;
    outgoing = refl;
    published = published_first;
  }

  pub handing_first : (sink : Sink) → h.calls ≡ 0 → Draining (with_packet packet h) (with_packet packet h) 0 sink sink
  handing_first sink none_yet = draining_first (with_packet packet h) sink whole_first light_first load_first none_yet

  below_eight : seat < 8
  below_eight = omega (arith, through.below, eight)

  pub may_have : IfSome (object_at seat h.seats) (MayAnswer seat packet h.services)
  unfolding has
  may_have =
      may_give law (with_packet packet h).services h.services sound refl refl refl refl refl seat has bus_again packet (object_at seat h.seats)
      (whole_first.seated.running seat) light_first below_eight whole.idle
      (subst (λ (oldest : Option (List ℕ)). IfSome oldest (λ packet. header_fault packet ≡ None)) (sym (oldest_is between seat has)) good) refl

  pub handed_over : (new : Hosted) → IsTableService new.services.tables → (place' : Option Object) → IfBoth (object_at seat h.seats) place' (HasAnswered seat packet h.services new.services) →
      new.seats ≡ slice_set h.seats seat place' → new.stock ≡ h.stock → length new.services.bus ≡ 8 → new.is_closed ≡ h.is_closed → new.calls ≡ h.calls + 1 → HasDelivered seat (with_packet packet h) new
  unfolding has
  handed_over new sound' place' both seats stock eight' closed calls =
      deliver_done law (with_packet packet h) new h.services seat whole_first.seated light_first sound sound' refl refl refl refl refl has bus_again below_eight packet refl
      (object_at seat h.seats) place' refl both seats stock eight' closed calls
