-- What is published keeps the rules of the interface, and is what the definitions say.
use Rattle.std.proofs.Common.{◌≡◌, ◌≢◌, inl, refl, ap, sym, ◌∙◌, subst, ℕ, zero, suc, ◌+◌, ◌≤◌, Bool, true, false, List, [], ◌∷◌, ◌++◌, length, map, filter, arith, if◌then◌else◌, Option, Some, None, Result, Ok, Err}
use Rattle.std.specs.Prelude.{IfSome, IsTrue, OnOk, option_map, slice_index_or, slice_set}
use Rattle.std.specs.Option.{option_or}
use Rattle.std.specs.List.{AllByRecursion}
use Rattle.std.proofs.lemmas.List.{append_assoc}
use Rattle.lc_model.specs.Name.{Name}
use Rattle.lc_model.specs.Packet.{message_id, tick_mid, header_fault}
use Rattle.lc_model.specs.Kept.Summary.{AppState}
use Rattle.lc_model.specs.Kept.Call.{silent}
use Rattle.lc_model.specs.Kept.Executive.{Pipe, hears, offered, published_to, all_published_to}
use Rattle.lc_model.specs.Kept.GoesWith.{own_name, subscriptions_of}
use Rattle.lc_model.specs.Laws.Bus.{IsShort}
use Rattle.lc_model.specs.Services.Bus.{Bus, Queue, Publication, pipe_depth, seen, seen_pipe, is_blocked, publish_refusal}
use Rattle.lc_model.specs.Services.Events.{EventService, Sender, sender_at}
use Rattle.lc_model.specs.Services.Tables.{Table, TableService, tables_at}
use Rattle.lc_model.specs.Services.Interface.{Held, MayBeGiven, MayPublish, IsGiven, IsPartOf, IsOwnPipe, BelongsTo, most_published, seen_at, waiting_in, is_table_of}
use Rattle.lc_model.specs.Services.Settled.{IsSettled, own_forms, form_of}
use Rattle.lc_model.specs.Services.Seen.{services_seen}
use Rattle.packet_bus.specs.declared.error.BusError.{BusError}
use Rattle.packet_bus.specs.Error.{refusal_in}
use Rattle.app_host.specs.declared.services.Services.{Services}
use Rattle.app_host.specs.Shared.{held_by, shared}
use Rattle.app_host.specs.Calls.{Leaves}
use Rattle.app_host.specs.Publishing.{AreShort, Publishes}
use Rattle.app_host.proofs.Rules.{silence_leaves, none_published, nothing_heard, hearing}

-- ---- a packet is taken

pub not_refused : (packet : List ℕ) (bus : Bus) → header_fault packet ≡ None → is_blocked packet bus ≡ false → publish_refusal packet bus ≡ None
not_refused packet bus good room = (λ i. option_or (option_map (λ reason. 91 ∷ reason ∷ []) (good i)) (if room i then Some (92 ∷ []) else None))

pub where_taken : (P : Type 0) (r : Result (Unit {0}) BusError) → refusal_in r ≡ None → OnOk r P → P
where_taken P (Ok done) e p = p
where_taken P (Err error) e p = cc

pub one_published : (pipes : List (Option Pipe)) (packet : List ℕ) → published_to pipes packet ≡ all_published_to pipes (packet ∷ [])
unfolding all_published_to
one_published pipes packet = refl

pub nothing_published : (s : Services) → Publishes [] s s
unfolding all_published_to
nothing_published s = record { pipes = refl; events = refl; tables = refl; counts = refl; moment = refl; outgoing = refl }

one_behind : (pipes : List (Option Pipe)) (packets : List (List ℕ)) (packet : List ℕ) → all_published_to (all_published_to pipes packets) (packet ∷ []) ≡ all_published_to pipes (packets ++ packet ∷ [])
unfolding all_published_to
one_behind pipes [] packet = refl
one_behind pipes (first ∷ packets) packet = one_behind (published_to pipes first) packets packet

pub goes_on : (packets : List (List ℕ)) (packet : List ℕ) (before between after : Services) → Publishes packets before between →
    Publishes (packet ∷ []) between after → Publishes (packets ++ packet ∷ []) before after
goes_on packets packet before between after p q = record {
  pipes = q.pipes ∙ ap (λ pipes. all_published_to pipes (packet ∷ [])) p.pipes ∙ one_behind (seen before.bus) packets packet;
  events = q.events ∙ p.events;
  tables = q.tables ∙ p.tables;
  counts = q.counts ∙ p.counts;
  moment = q.moment ∙ p.moment;
  outgoing = q.outgoing ∙ p.outgoing;
}

-- ---- room

bytes_counted : (waiting : List Publication) → length (map (λ (publication : Publication). publication.bytes) waiting) ≡ length waiting
bytes_counted [] = refl
bytes_counted (first ∷ waiting) = ap suc (bytes_counted waiting)

short_place : (place : Option Queue) → length (waiting_in (option_map seen_pipe place)) + most_published ≤ pipe_depth → IsShort 64 place
short_place None room = tt
short_place (Some queue) room = let same : length (map (λ (publication : Publication). publication.bytes) queue.waiting) ≡ length queue.waiting = bytes_counted queue.waiting in
    omega (arith, same, room)

short_bus : (bus : Bus) → AllByRecursion (λ (pipe : Option Pipe). length (waiting_in pipe) + most_published ≤ pipe_depth) (seen bus) → AreShort 64 bus
short_bus [] room seat = tt
short_bus (place ∷ bus) room zero = short_place place room.0
short_bus (place ∷ bus) room (suc seat) = short_bus bus room.1 seat

pub ticks_have_room : (seat : ℕ) (name : Name) (packet : List ℕ) (held : Held) → MayBeGiven seat name packet held → message_id packet ≡ tick_mid → AreShort 64 held.bus
ticks_have_room seat name packet held given tick = short_bus held.bus (given.room tick)

-- ---- what pipes hear

heard_first : (pipe : Pipe) (packet : List ℕ) (packets : List (List ℕ)) → hearing packets (offered packet pipe) ≡ hearing (packet ∷ packets) pipe
heard_first pipe packet packets = by_test (hears packet pipe) refl
  where
    by_test : (test : Bool) → hears packet pipe ≡ test → hearing packets (offered packet pipe) ≡ hearing (packet ∷ packets) pipe
    by_test true e = rw e (λ i. record pipe { waiting = append_assoc pipe.waiting (packet ∷ []) (filter (λ other. hears other pipe) packets) i })
    by_test false e = rw e refl

at_place : (pipes : List (Option Pipe)) (packet : List ℕ) (seat : ℕ) → slice_index_or (published_to pipes packet) seat None ≡ option_map (offered packet) (slice_index_or pipes seat None)
at_place [] packet seat = refl
at_place (place ∷ pipes) packet zero = refl
at_place (place ∷ pipes) packet (suc seat) = at_place pipes packet seat

heard_then : (place : Option Pipe) (packet : List ℕ) (packets : List (List ℕ)) → option_map (hearing packets) (option_map (offered packet) place) ≡ option_map (hearing (packet ∷ packets)) place
heard_then None packet packets = refl
heard_then (Some pipe) packet packets = ap Some (heard_first pipe packet packets)

pub heard_at : (pipes : List (Option Pipe)) (packets : List (List ℕ)) (seat : ℕ) →
    slice_index_or (all_published_to pipes packets) seat None ≡ option_map (hearing packets) (slice_index_or pipes seat None)
unfolding all_published_to
heard_at pipes [] seat = nothing_heard (slice_index_or pipes seat None)
heard_at pipes (packet ∷ packets) seat =
    heard_at (published_to pipes packet) packets seat ∙ ap (option_map (hearing packets)) (at_place pipes packet seat) ∙ heard_then (slice_index_or pipes seat None) packet packets

whole_is_part : (packets : List (List ℕ)) → IsPartOf packets packets
whole_is_part [] = tt
whole_is_part (packet ∷ packets) = inl (refl, whole_is_part packets)

-- ---- the rules

module _ (seat : ℕ) (packets : List (List ℕ)) (before after : Services) (p : Publishes packets before after) where
  heard_there : (other : ℕ) → seen_at other (held_by after) ≡ option_map (hearing packets) (seen_at other (held_by before))
  heard_there other = ap (λ pipes. slice_index_or pipes other None) p.pipes ∙ heard_at (seen before.bus) packets other

  own_pipe : (place : Option Pipe) → IfSome (option_map (hearing packets) place) (IsOwnPipe place packets)
  own_pipe None = tt
  own_pipe (Some pipe) = record {
    stayed = pipe.waiting;
    heard = filter (λ packet. hears packet pipe) packets;
    waiting = refl;
    old_or_new = inl refl;
    heard_of = whole_is_part (filter (λ packet. hears packet pipe) packets);
  }

  pub published_is_given : (name : Name) (packet : List ℕ) → MayPublish packet packets → BelongsTo seat name (held_by before) → before.outgoing ≡ [] →
      IsGiven seat name packet (held_by before) (held_by after)
  published_is_given name packet may belongs idle = record {
    published = packets;
    may = may;
    call = record {
      others = record {
        host = ap (λ (e : EventService). e.host) p.events;
        senders = λ other two. ap (sender_at (Some other)) p.events;
        tables = λ other two. ap (λ (t : TableService). tables_at other t.places) p.tables;
        files = ap (λ (t : TableService). t.files) p.tables;
        moment = p.moment;
      };
      pipes = λ other two. heard_there other;
      outgoing = let none : length after.outgoing ≡ 0 = ap length (p.outgoing ∙ idle) in omega (arith, none);
    };
    own = subst (λ place. IfSome place (IsOwnPipe (seen_at seat (held_by before)) packets)) (sym (heard_there seat)) (own_pipe (seen_at seat (held_by before)));
    belongs = record {
      sender = subst (λ (e : EventService). IfSome (sender_at (Some seat) e) (λ (sender : Sender). sender.name ≡ name)) (sym p.events) belongs.sender;
      tables = subst (λ (t : TableService). AllByRecursion (λ (table : Table). IsTrue (is_table_of name table.name)) (tables_at seat t.places)) (sym p.tables) belongs.tables;
    };
  }

  shared_stays : shared after ≡ shared before
  unfolding shared
  shared_stays = λ i. services_seen (p.events i) (p.tables i) (p.counts i)

  pub published_leaves : (state : AppState) (mids : List ℕ) → before.outgoing ≡ [] → option_map (λ (pipe : Pipe). pipe.subscriptions) (seen_at seat (held_by before)) ≡ Some mids →
      Leaves seat state before after (silent state mids packets (shared before))
  published_leaves state mids idle heard =
      let silent_pipes = (silence_leaves seat before state mids idle heard).pipes in
      record {
        becomes = refl;
        services = shared_stays;
        outgoing = p.outgoing ∙ idle;
        pipes = p.pipes ∙ ap (λ pipes. all_published_to pipes packets) (silent_pipes ∙ none_published (slice_set (seen before.bus) seat (Some (record { subscriptions = mids; waiting = waiting_in (seen_at seat (held_by before)) }))));
      }

  heard_alike : (place : Option Pipe) → option_map (λ (pipe : Pipe). pipe.subscriptions) (option_map (hearing packets) place) ≡ option_map (λ (pipe : Pipe). pipe.subscriptions) place
  heard_alike None = refl
  heard_alike (Some pipe) = refl

  pub published_settles : (old state : AppState) → own_name state ≡ own_name old → own_forms state ≡ own_forms old → subscriptions_of state ≡ subscriptions_of old →
      IsSettled old seat (held_by before) → IsSettled state seat (held_by after)
  published_settles old state named forms heard settled = record {
    sender = ap (λ (e : EventService). option_map (λ (sender : Sender). sender.name) (sender_at (Some seat) e)) p.events ∙ settled.sender ∙ ap Some (sym named);
    tables = ap (λ (t : TableService). map form_of (tables_at seat t.places)) p.tables ∙ settled.tables ∙ sym forms;
    pipe = ap (option_map (λ (pipe : Pipe). pipe.subscriptions)) (heard_there seat) ∙ heard_alike (seen_at seat (held_by before)) ∙ settled.pipe ∙ ap Some (sym heard);
  }
