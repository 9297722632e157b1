-- What the scheduler does at its seat, by the rules of the interface and by the definitions.
use Rattle.std.proofs.Common.{◌≡◌, ◌≢◌, refl, ap, sym, ◌∙◌, subst, ℕ, ◌+◌, ◌<◌, ◌≤◌, Bool, true, false, ◌==◌, List, [], ◌∷◌, ◌++◌, length, map, take, drop, arith, Option, Some, None, if◌then◌else◌, get_or}
use Rattle.std.specs.Prelude.{IfSome, IsSomeAnd}
use Rattle.std.specs.List.{AllByRecursion}
use Rattle.std.proofs.lemmas.List.{take_more, map-append, length-map}
use Rattle.lc_model.specs.Name.{sch_name}
use Rattle.lc_model.specs.Packet.{message_id, header_fault, tick_mid}
use Rattle.lc_model.specs.Host.Schedule.{Schedule, ScheduleEntry, Sample, Housekeeping, entry_packet}
use Rattle.lc_model.specs.Kept.Summary.{AppState, SchState}
use Rattle.lc_model.specs.Kept.Next.{next_tick}
use Rattle.lc_model.specs.Kept.Call.{with_mids, sch_subscriptions, sch_told, silent, registered, next_start, next_on_packet, next_retire}
use Rattle.lc_model.specs.Services.Bus.{Bus}
use Rattle.lc_model.specs.Services.Tables.{tables_at}
use Rattle.lc_model.specs.Services.Interface.{MayBeStarted, MayBeGiven, MayPublish, IsGiven, IsRetired}
use Rattle.lc_model.specs.Services.Settled.{IsSettled, form_of}
use Rattle.lc_model.proofs.Facts.{tested_equal, map_none, test_equal}
use Rattle.app_host.specs.declared.services.Services.{Services}
use Rattle.app_host.specs.Shared.{on_board, held_by, shared}
use Rattle.app_host.specs.Seating.{IsOpened, IsClosed}
use Rattle.app_host.specs.Calls.{IsAtHome, Leaves, LeavesEmpty}
use Rattle.app_host.specs.Publishing.{AreShort, Publishes, PublishingGoesOn, TicksHaveRoom, PublishingAnswers, PublishingLeaves, PublishingSettles}
use Rattle.app_host.specs.Statements.{OpeningLeaves, OpeningSettles, SilenceLeaves, ClosingRetires, ClosingLeaves, NoTablesGo}
use Rattle.schedules.specs.declared.entry.Entry.{Entry}
use Rattle.schedules.specs.Entry.{entry_of, entries_of}

-- ---- the packets of entries

entry_is_good : (entry : ScheduleEntry) → header_fault (entry_packet entry) ≡ None
entry_is_good Housekeeping = refl
entry_is_good (Sample first last true) = refl
entry_is_good (Sample first last false) = refl

is_no_tick : (entry : ScheduleEntry) → (message_id (entry_packet entry) == tick_mid) ≡ false
is_no_tick Housekeeping = refl
is_no_tick (Sample first last true) = refl
is_no_tick (Sample first last false) = refl

no_tick : (entry : ScheduleEntry) → message_id (entry_packet entry) ≢ tick_mid
no_tick entry same = let never : true ≡ false = sym (test_equal (message_id (entry_packet entry)) tick_mid same) ∙ is_no_tick entry in cc

no_ticks : (entries : List ScheduleEntry) → AllByRecursion (λ (other : List ℕ). message_id other ≢ tick_mid) (map entry_packet entries)
no_ticks [] = tt
no_ticks (entry ∷ entries) = (no_tick entry, no_ticks entries)

pub may_publish : (packet : List ℕ) (entries : List Entry) → length entries ≤ 8 → message_id packet ≡ tick_mid → MayPublish packet (map entry_packet (entries_of entries))
may_publish packet entries few tick = record {
  few =
      let same : length (map entry_packet (entries_of entries)) ≡ length (entries_of entries) = length-map (entries_of entries) entry_packet in
      let as_many : length (entries_of entries) ≡ length entries = length-map entries entry_of in
      omega (arith, same, as_many, few);
  for_ticks = λ some. tick;
  no_ticks = no_ticks (entries_of entries);
}

-- ---- one entry after the other

abbrev pub packets_of : List Entry → List (List ℕ)
packets_of entries = map entry_packet (entries_of entries)

pub packet_of_entry : (entry : Entry) (buffer new : List ℕ) (size : ℕ) → size ≡ length (entry_packet (entry_of entry)) →
    new ≡ entry_packet (entry_of entry) ++ drop (length (entry_packet (entry_of entry))) buffer → take size new ≡ entry_packet (entry_of entry)
packet_of_entry entry buffer new size is bytes = (λ i. take (is i) (bytes i)) ∙ front (entry_packet (entry_of entry)) (drop (length (entry_packet (entry_of entry))) buffer)
  where
    front : (xs ys : List ℕ) → take (length xs) (xs ++ ys) ≡ xs
    front [] ys = refl
    front (x ∷ xs) ys = ap (λ rest. x ∷ rest) (front xs ys)

pub written_is_good : (entry : Entry) (buffer new : List ℕ) (size : ℕ) → size ≡ length (entry_packet (entry_of entry)) →
    new ≡ entry_packet (entry_of entry) ++ drop (length (entry_packet (entry_of entry))) buffer → header_fault (take size new) ≡ None
written_is_good entry buffer new size is bytes = ap header_fault (packet_of_entry entry buffer new size is bytes) ∙ entry_is_good (entry_of entry)

one_more : (entries : List Entry) (k : ℕ) (default : Entry) → k < length entries →
    packets_of (take k entries) ++ entry_packet (entry_of (get_or entries k default)) ∷ [] ≡ packets_of (take (k + 1) entries)
one_more entries k default more =
    let entry : Entry = get_or entries k default in
    sym (ap packets_of (take_more entries k default more)
    ∙ ap (map entry_packet) (map-append entry_of (take k entries) (entry ∷ [])) ∙ map-append entry_packet (entries_of (take k entries)) (entry_of entry ∷ []))

pub one_entry_more : PublishingGoesOn → (entries : List Entry) (k : ℕ) (default : Entry) → k < length entries →
    (before between after : Services) → Publishes (packets_of (take k entries)) before between → (packet : List ℕ) → packet ≡ entry_packet (entry_of (get_or entries k default)) →
    Publishes (packet ∷ []) between after → Publishes (packets_of (take (k + 1) entries)) before after
one_entry_more law entries k default more before between after far packet same next =
    subst (λ packets. Publishes packets before after) (one_more entries k default more)
    (law (packets_of (take k entries)) (entry_packet (entry_of (get_or entries k default))) before between after far (subst (λ p. Publishes (p ∷ []) between after) same next))

pub one_more_waits : (k : ℕ) (bus : Bus) → AreShort (64 + k + 1) bus → AreShort (64 + (k + 1)) bus
one_more_waits k bus short = subst (λ n. AreShort n bus) (let same : 64 + k + 1 ≡ 64 + (k + 1) = omega arith in same) short

-- ---- the start

pub own_id : with_mids (tick_mid ∷ []) [] ≡ sch_subscriptions
unfolding with_mids
own_id = refl

pub starts : OpeningLeaves → (seat : ℕ) (before after : Services) → IsOpened seat sch_name (with_mids (tick_mid ∷ []) []) before after →
    MayBeStarted seat sch_name (held_by before) → (schedule : Schedule) (slot : ℕ) (state : AppState) → state ≡ SchState schedule 0 →
    IfSome (next_start on_board before.moment (SchState schedule slot) (shared before)) (Leaves seat state before after)
starts law seat before after o may schedule slot state is =
    law seat sch_name (with_mids (tick_mid ∷ []) []) before after o may state (silent (SchState schedule 0) sch_subscriptions [] (registered sch_name (shared before)))
    is (sym own_id) refl refl refl

pub start_settles : OpeningSettles → (seat : ℕ) (before after : Services) → IsOpened seat sch_name (with_mids (tick_mid ∷ []) []) before after →
    MayBeStarted seat sch_name (held_by before) → (schedule : Schedule) (slot : ℕ) → IsSettled (SchState schedule slot) seat (held_by after)
start_settles law seat before after o may schedule slot =
    law seat sch_name (with_mids (tick_mid ∷ []) []) before after o may (SchState schedule slot) refl refl (sym own_id)

-- ---- a packet

pub another_id : (mid : ℕ) (n : ℕ) → n ≡ mid → (n ≡ 6336 → ⊥) → (mid == 6336) ≡ false
another_id mid n is two = by_test (mid == 6336) refl
  where
    by_test : (test : Bool) → (mid == 6336) ≡ test → test ≡ false
    by_test true e = absurd (two (is ∙ tested_equal mid 6336 e))
    by_test false e = refl

module _ (schedule : Schedule) where
  abbrev pub IsHome : Option ℕ → ℕ → Services → Type 0
  IsHome place slot s = IsSomeAnd place (λ seat. IsAtHome (SchState schedule slot) sch_name seat s)

  abbrev pub LeavesThere : Option ℕ → ℕ → AppState → List ℕ → Services → Services → Type 0
  LeavesThere place old new packet before after = IfSome place (λ seat. IfSome (next_on_packet on_board before.moment (SchState schedule old) packet (shared before))
      (Leaves seat new before after))

abbrev pub MayBeGivenThere : Option ℕ → List ℕ → Services → Type 0
MayBeGivenThere place packet s = IfSome place (λ seat. MayBeGiven seat sch_name packet (held_by s))

abbrev pub IsGivenThere : Option ℕ → List ℕ → Services → Services → Type 0
IsGivenThere place packet before after = IfSome place (λ seat. IsGiven seat sch_name packet (held_by before) (held_by after))

module _ (schedule : Schedule) where
  pub silent_exact : SilenceLeaves → (place : Option ℕ) (slot : ℕ) (s : Services) (packet : List ℕ) → (message_id packet == tick_mid) ≡ false → IsHome schedule place slot s →
      MayBeGivenThere place packet s → LeavesThere schedule place slot (SchState schedule slot) packet s s
  silent_exact law None slot s packet other home given = tt
  silent_exact law (Some seat) slot s packet other home given =
      subst (Leaves seat (SchState schedule slot) s s)
      (sym (ap (λ b. if b then sch_told (next_tick schedule slot) schedule (shared s) else silent (SchState schedule slot) sch_subscriptions [] (shared s)) other))
      (law seat s (SchState schedule slot) sch_subscriptions given.idle home.settled.pipe)

  pub has_room : TicksHaveRoom → (place : Option ℕ) (slot : ℕ) (s : Services) (packet : List ℕ) → message_id packet ≡ tick_mid → IsHome schedule place slot s →
      MayBeGivenThere place packet s → AreShort 64 s.bus
  has_room law None slot s packet tick home given = absurd home
  has_room law (Some seat) slot s packet tick home given = law seat sch_name packet (held_by s) given tick

  module _ (place : Option ℕ) (old : ℕ) (packet : List ℕ) (packets : List (List ℕ)) (before after : Services)
      (home : IsHome schedule place old before) (given : MayBeGivenThere place packet before)
      (published : Publishes packets before after) where
    pub tick_rules : PublishingAnswers → MayPublish packet packets → IsGivenThere place packet before after
    tick_rules law may = by_place place home given
      where
        by_place : (p : Option ℕ) → IsHome schedule p old before → MayBeGivenThere p packet before → IsGivenThere p packet before after
        by_place None home given = tt
        by_place (Some seat) home given = law seat sch_name packets before after published packet may home.belongs given.idle

    pub tick_settles : PublishingSettles → (now : Schedule) (new : ℕ) → IfSome place (λ seat. IsSettled (SchState now new) seat (held_by after))
    tick_settles law now new = by_place place home
      where
        by_place : (p : Option ℕ) → IsHome schedule p old before → IfSome p (λ seat. IsSettled (SchState now new) seat (held_by after))
        by_place None home = tt
        by_place (Some seat) home = law seat packets before after published (SchState schedule old) (SchState now new) refl refl refl home.settled

    pub tick_exact : PublishingLeaves → (message_id packet == tick_mid) ≡ true → packets ≡ (next_tick schedule old).1 → (new : AppState) → new ≡ SchState schedule (next_tick schedule old).0 →
        LeavesThere schedule place old new packet before after
    tick_exact law own are new is = by_place place home given
      where
        by_place : (p : Option ℕ) → IsHome schedule p old before → MayBeGivenThere p packet before → LeavesThere schedule p old new packet before after
        by_place None home given = tt
        by_place (Some seat) home given =
            subst (Leaves seat new before after)
            ((λ i. silent (is i) sch_subscriptions (are i) (shared before))
            ∙ sym (ap (λ b. if b then sch_told (next_tick schedule old) schedule (shared before) else silent (SchState schedule old) sch_subscriptions [] (shared before)) own))
            (law seat packets before after published new sch_subscriptions given.idle home.settled.pipe)

-- ---- the retirement

pub leaves_empty : ClosingLeaves → NoTablesGo → (place : Option ℕ) (schedule : Schedule) (slot : ℕ) (before after : Services) → IsHome schedule place slot before →
    IfSome place (λ seat. IsClosed seat before after) → before.outgoing ≡ [] →
    IfSome place (λ seat. IfSome (next_retire (SchState schedule slot) (shared before)) (LeavesEmpty seat before after))
leaves_empty law none None schedule slot before after home closed idle = tt
leaves_empty law none (Some seat) schedule slot before after home closed idle =
    law seat sch_name before after closed idle home.settled.sender (shared before).slots (none seat before (map_none form_of (tables_at seat before.tables.places) home.settled.tables))

pub retires : ClosingRetires → (place : Option ℕ) (before after : Services) → IfSome place (λ seat. IsClosed seat before after) → before.outgoing ≡ [] →
    IfSome place (λ seat. IsRetired seat sch_name (held_by before) (held_by after))
retires law None before after closed idle = tt
retires law (Some seat) before after closed idle = law seat sch_name before after closed idle
