-- One delivery.
use Rattle.std.proofs.Common.{◌≡◌, refl, ap, sym, ◌∙◌, subst, ℕ, ◌+◌, ◌<◌, ◌≤◌, true, false, List, [], ◌∷◌, ◌++◌, length, map, take, drop, arith, Option, Some, None, Result, Ok}
use Rattle.std.specs.Prelude.{IfSome, option_map, slice_index_or, slice_set, slice_get}
use Rattle.std.proofs.Math.Seq.{take-append_seam}
use Rattle.std.proofs.lemmas.List.{length-map}
use Rattle.lc_model.specs.Packet.{header_fault}
use Rattle.lc_model.specs.Refusal as refusal
use Rattle.lc_model.specs.Refusal.{Refusal, ◌>>=◌}
use Rattle.lc_model.specs.Kept.Executive.{Pipe, has_some, is_ready, ready_seat}
use Rattle.lc_model.specs.Laws.TablesByName.{TablesAreFound}
use Rattle.lc_model.specs.Services.Bus.{Bus, Queue, Publication, seen, seen_pipe, pipe_at, oldest, oldest_at, with_pipe, without_oldest, received, after}
use Rattle.lc_model.specs.Services.Events.{EventService, sender_at}
use Rattle.lc_model.specs.Services.Tables.{TableService, IsTableService, tables_at}
use Rattle.lc_model.specs.Services.Interface.{seen_at}
use Rattle.lc_model.specs.Services.Seen.{services_seen}
use Rattle.app_host.specs.declared.services.Services.{Services}
use Rattle.app_host.specs.Shared.{held_by, shared}
use Rattle.app_host.specs.Telling.{name_of}
use Rattle.app_host.specs.Hosted.{Object}
use Rattle.app_host.specs.Objects.{MayAnswer}
use Rattle.app_host.specs.Whole.{IsRunning}
use Rattle.app_host.specs.Load.{packets_in, IsLight}
use Rattle.app_host.proofs.Rules.{seen_of_place, seen_with}
use Rattle.app_host.proofs.Frames.{fact_at_set, StaysAt, stays_running}
use Rattle.app_host.proofs.Found.{found}
use Rattle.app_host.proofs.Loads.{room_for_tick}
use Rattle.app_host.proofs.Unused.{each_of}

-- ---- the pipe of a ready seat

-- a pipe, with its first packet and the others
pub record HasFirst (bus : Bus) (seat : ℕ) : Type 0 where
  pub queue : Queue
  pub first : Publication
  pub others : List Publication
  pub there : pipe_at seat bus ≡ Some queue
  pub waiting : queue.waiting ≡ first ∷ others
  pub below : seat < length bus

first_of_queue : (bus : Bus) (seat : ℕ) (queue : Queue) (waiting : List Publication) → pipe_at seat bus ≡ Some queue → queue.waiting ≡ waiting → seat < length bus →
    is_ready (Some (seen_pipe queue)) ≡ true → HasFirst bus seat
first_of_queue bus seat queue [] there are below ready =
    let none : is_ready (Some (seen_pipe queue)) ≡ false = ap (λ (ps : List Publication). has_some (map (λ (publication : Publication). publication.bytes) ps)) are in cc
first_of_queue bus seat queue (first ∷ others) there are below ready = record { queue = queue; first = first; others = others; there = there; waiting = are; below = below }

first_of_place : (bus : Bus) (seat : ℕ) (place : Option Queue) → pipe_at seat bus ≡ place → seat < length bus → is_ready (option_map seen_pipe place) ≡ true → HasFirst bus seat
first_of_place bus seat None there below ready = cc
first_of_place bus seat (Some queue) there below ready = first_of_queue bus seat queue queue.waiting there refl below ready

pub has_first : (bus : Bus) (seat : ℕ) → ready_seat (seen bus) ≡ Some seat → HasFirst bus seat
has_first bus seat ready =
    let where_it_is = found is_ready (seen bus) seat None (sym ready) in
    let size : length (seen bus) ≡ length bus = length-map bus (option_map seen_pipe) in
    first_of_place bus seat (pipe_at seat bus) refl (omega (arith, where_it_is.0, size)) (sym (ap is_ready (seen_of_place seat bus)) ∙ where_it_is.1)

module _ (bus : Bus) (seat : ℕ) (has : HasFirst bus seat) where
  -- the packet, and what waits behind it
  abbrev pub first_packet : List ℕ
  first_packet = has.first.bytes

  abbrev pub behind : List (List ℕ)
  behind = map (λ (publication : Publication). publication.bytes) has.others

  pub oldest_is : oldest_at seat bus ≡ Some first_packet
  oldest_is =
      ap (λ (place : Option Queue). option_map (λ (publication : Publication). publication.bytes) (oldest place)) has.there
      ∙ ap (λ (ps : List Publication). option_map (λ (publication : Publication). publication.bytes) (slice_get ps 0)) has.waiting

  pub pipe_is : slice_index_or (seen bus) seat None ≡ Some (seen_pipe has.queue)
  pipe_is = seen_of_place seat bus ∙ ap (option_map seen_pipe) has.there

  pub waits : (seen_pipe has.queue).waiting ≡ first_packet ∷ behind
  waits = ap (map (λ (publication : Publication). publication.bytes)) has.waiting

  -- the bus without it
  pub taken_then : (new : Bus) → new ≡ after bus (received seat bus) → new ≡ with_pipe seat bus (without_oldest has.queue)
  taken_then new is = is ∙ ap (λ (place : Option Queue). after bus (received_by place)) has.there
    where
      received_by : Option Queue → Result Bus Refusal
      received_by place = refusal.found place 93 >>= (λ queue. Ok (with_pipe seat bus (without_oldest queue)))

  pub bus_then : (new : Bus) → new ≡ after bus (received seat bus) → seen new ≡ slice_set (seen bus) seat (Some (record { subscriptions = has.queue.subscriptions; waiting = behind }))
  bus_then new is =
      ap seen (taken_then new is)
      ∙ seen_with seat bus (Some (without_oldest has.queue))
      ∙ ap (λ (ps : List Publication). slice_set (seen bus) seat (Some (record { subscriptions = has.queue.subscriptions; waiting = map (λ (publication : Publication). publication.bytes) (drop 1 ps) }))) has.waiting

-- what is read of the buffer
pub read_back : (packet rest buffer : List ℕ) (size : ℕ) → size ≡ length packet → buffer ≡ packet ++ rest → take size buffer ≡ packet
read_back packet rest buffer size is filled = rw (is, filled) (take-append_seam packet rest)

-- ---- an object may have its packet

-- where the bus alone changes, and there the waiting packets of one seat alone
module _ (law : TablesAreFound) (before now : Services) (sound : IsTableService before.tables) (events : now.events ≡ before.events) (tables : now.tables ≡ before.tables) (counts : now.counts ≡ before.counts)
    (moment : now.moment ≡ before.moment) (outgoing : now.outgoing ≡ before.outgoing) where
  pub shared_still : shared now ≡ shared before
  unfolding shared
  shared_still = λ i. services_seen (events i) (tables i) (counts i)

  module _ (seat : ℕ) (has : HasFirst before.bus seat) (bus : now.bus ≡ after before.bus (received seat before.bus)) where
    subscriptions_at : (other : ℕ) → option_map (λ (pipe : Pipe). pipe.subscriptions) (seen_at other (held_by now)) ≡ option_map (λ (pipe : Pipe). pipe.subscriptions) (seen_at other (held_by before))
    subscriptions_at other =
        ap (λ (pipes : List (Option Pipe)). option_map (λ (pipe : Pipe). pipe.subscriptions) (slice_index_or pipes other None)) (bus_then before.bus seat has now.bus bus)
        ∙ fact_at_set (λ i (pipe : Option Pipe). option_map (λ (pipe : Pipe). pipe.subscriptions) pipe ≡ option_map (λ (pipe : Pipe). pipe.subscriptions) (slice_index_or (seen before.bus) i None))
        (seen before.bus) seat other (Some (record { subscriptions = has.queue.subscriptions; waiting = behind before.bus seat has })) None
        (rw (length-map before.bus (option_map seen_pipe)) has.below)
        (ap (option_map (λ (pipe : Pipe). pipe.subscriptions)) (sym (pipe_is before.bus seat has)))
        (λ i another. refl)

    pub stays_taken : (other : ℕ) → StaysAt other before now
    stays_taken other = record {
      sender = ap (λ (e : EventService). option_map name_of (sender_at (Some other) e)) events;
      tables = ap (λ (t : TableService). tables_at other t.places) tables;
      subscriptions = subscriptions_at other;
    }

    pub running_taken : (o : Object) → IsRunning before seat o → IsRunning now seat o
    running_taken o running = stays_running law seat o before now sound (subst IsTableService (sym tables) sound) (stays_taken seat) running

    pub may_answer : (o : Object) (packet : List ℕ) → IsRunning before seat o → IsLight (seen before.bus) → seat < 8 → before.outgoing ≡ [] →
        IfSome (oldest_at seat before.bus) (λ packet. header_fault packet ≡ None) → packet ≡ first_packet before.bus seat has → MayAnswer seat packet now o
    may_answer o packet running light below idle good is =
        let home : IsRunning now seat o = running_taken o running in
        record {
          holds = running.holds;
          home = home.home;
          given = record {
            belongs = home.home.belongs;
            good = rw is (subst (λ oldest. IfSome oldest (λ packet. header_fault packet ≡ None)) (oldest_is before.bus seat has) good);
            idle = outgoing ∙ idle;
            room = λ tick. each_of (λ (pipe : Option Pipe). packets_in pipe + 8 ≤ 72) (seen now.bus) None
                (λ i. rw (bus_then before.bus seat has now.bus bus)
                (room_for_tick (seen before.bus) seat light (seen_pipe has.queue) (first_packet before.bus seat has) (behind before.bus seat has) (pipe_is before.bus seat has) (waits before.bus seat has) below
                (rw (← is) tick) i));
          };
        }
