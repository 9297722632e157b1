-- A command to the event services, by names.
use Rattle.std.proofs.Common.{◌≡◌, refl, ap, sym, ◌∙◌, subst, ℕ, zero, suc, ◌<◌, List, [], ◌∷◌, length, map, arith, Option, Some, None, Result, Ok, Err}
use Rattle.std.specs.Prelude.{option_map, slice_index_or}
use Rattle.lc_model.specs.Device.{Sink}
use Rattle.lc_model.specs.Name.{Name}
use Rattle.lc_model.specs.Packet.{function_code}
use Rattle.lc_model.specs.Refusal.{Refusal, ◌>>=◌, found}
use Rattle.lc_model.specs.Command.{event_command_in}
use Rattle.lc_model.specs.Events.Log.{LogItem}
use Rattle.lc_model.specs.Events.Request.{Request, event_services, command_done, command_refused}
use Rattle.lc_model.specs.Kept.Summary.{EventState}
use Rattle.lc_model.specs.Kept.Call.{ServicesNow, with_at}
use Rattle.lc_model.specs.Kept.Executive.{Pipe, Executive, Written, joined_now, told_by_host, answered_now, with_services, event_service_now}
use Rattle.lc_model.specs.Kept.Stations.{written_once}
use Rattle.lc_model.specs.Laws.Senders.{CommandsByName}
use Rattle.lc_model.specs.Laws.TablesByName.{TablesAreFound}
use Rattle.lc_model.specs.Services.Bus.{Bus, seen}
use Rattle.lc_model.specs.Services.Events.{counts_with, EventService, Sender, Origin, origin_named, sender_at, sender_named, with_events, commanded}
use Rattle.lc_model.specs.Services.Tables.{TableService, IsTableService, tables_at}
use Rattle.lc_model.specs.Services.Seen.{files_seen, slot_among, count_among}
use Rattle.app_host.specs.declared.services.Services.{Services}
use Rattle.app_host.specs.declared.error.WriteFault.{WriteFault}
use Rattle.app_host.specs.Shared.{on_board, shared}
use Rattle.app_host.specs.Telling.{name_of}
use Rattle.app_host.specs.Hosted.{Hosted, member_of}
use Rattle.app_host.specs.Whole.{AreKnown, IsWhole}
use Rattle.app_host.specs.Party.{nobody}
use Rattle.app_host.specs.Delivered.{executive_in}
use Rattle.app_host.specs.Writing.{Handles}
use Rattle.app_host.specs.Obeyed.{events_by}
use Rattle.app_host.specs.Told.{TellsAlone, ObeysEvents}
use Rattle.app_host.proofs.Flushed.{same_shared}
use Rattle.app_host.proofs.Frames.{fact_at_set, StaysAt, seated_still}
use Rattle.app_host.proofs.Filed.{told_behind}

-- ---- by names

shared_events : (s : Services) → (shared s).events ≡ sender_named s.events
unfolding shared
shared_events s = refl

abbrev Named : Type 0
Named = Name → Option EventState

-- a command over what is held under names
abbrev by_name : ServicesNow (List ℕ) → Named → Name × LogItem → Result (ServicesNow (List ℕ)) Refusal
by_name services named command =
    found (named command.0) 101 >>= (λ events. joined_now command.1 events >>= (λ after. Ok (record services { events = with_at command.0 (Some after) named })))

regrouped : (services : ServicesNow (List ℕ)) (named : Named) (name : Name) (item : LogItem) →
    by_name services named (name, item) ≡ (found (named name) 101 >>= (λ events. joined_now item events >>= (λ after. Ok (with_at name (Some after) named))) >>= (λ names. Ok (record services { events = names })))
regrouped services named name item = by_held (named name)
  where
    by_joined : (r : Result EventState Refusal) →
        (r >>= (λ after. Ok (record services { events = with_at name (Some after) named })))
        ≡ (r >>= (λ after. Ok (with_at name (Some after) named)) >>= (λ names. Ok (record services { events = names })))
    by_joined (Ok after) = refl
    by_joined (Err refusal) = refl

    by_held : (o : Option EventState) →
        (found o 101 >>= (λ events. joined_now item events >>= (λ after. Ok (record services { events = with_at name (Some after) named }))))
        ≡ (found o 101 >>= (λ events. joined_now item events >>= (λ after. Ok (with_at name (Some after) named))) >>= (λ names. Ok (record services { events = names })))
    by_held None = refl
    by_held (Some events) = by_joined (joined_now item events)

gathered : (services : ServicesNow (List ℕ)) (r : Result EventService Refusal) →
    (r >>= (λ after. Ok (sender_named after)) >>= (λ names. Ok (record services { events = names }))) ≡ (r >>= (λ after. Ok (record services { events = sender_named after })))
gathered services (Ok after) = refl
gathered services (Err refusal) = refl

one_command : CommandsByName → (s : Services) (command : Name × LogItem) →
    by_name (shared s) (shared s).events command ≡ (commanded command.0 command.1 s.events >>= (λ after. Ok (record (shared s) { events = sender_named after })))
one_command law s command =
    ap (λ (named : Named). by_name (shared s) named command) (shared_events s)
    ∙ regrouped (shared s) (sender_named s.events) command.0 command.1
    ∙ ap (λ r. r >>= (λ names. Ok (record (shared s) { events = names }))) (sym (law command.0 command.1 s.events))
    ∙ gathered (shared s) (commanded command.0 command.1 s.events)

all_commands : CommandsByName → (s : Services) (r : Result (Name × LogItem) Refusal) →
    (r >>= (λ command. by_name (shared s) (shared s).events command)) ≡ (events_by r s.events >>= (λ after. Ok (record (shared s) { events = sender_named after })))
all_commands law s (Ok command) = one_command law s command
all_commands law s (Err refusal) = refl

pub obeyed_so : CommandsByName → (packet : List ℕ) (s : Services) →
    event_service_now packet (shared s) ≡ (events_by (event_command_in packet) s.events >>= (λ after. Ok (record (shared s) { events = sender_named after })))
obeyed_so law packet s = all_commands law s (event_command_in packet)

-- ---- names and the count stay

pub record KeepsNames (before after : EventService) : Type 0 where
  pub sent : after.sent ≡ before.sent
  pub names : (seat : ℕ) → option_map name_of (sender_at (Some seat) after) ≡ option_map name_of (sender_at (Some seat) before)

inside : (places : List (Option Sender)) (k : ℕ) (x : Sender) → slice_index_or places k None ≡ Some x → k < length places
inside [] k x e = cc
inside (place ∷ places) zero x e = omega arith
inside (place ∷ places) (suc k) x e = let further = inside places k x e in omega (arith, further)

with_kept : (origin : Origin) (sender : Sender) (events : EventState) (service : EventService) → sender_at origin service ≡ Some sender → KeepsNames service (with_events origin sender events service)
with_kept None sender events service at = record { sent = refl; names = λ seat. refl }
with_kept (Some k) sender events service at = record {
  sent = refl;
  names = λ seat.
      fact_at_set (λ i (place : Option Sender). option_map name_of place ≡ option_map name_of (slice_index_or service.places i None)) service.places k seat
      (Some (record { name = sender.name; events = events })) None (inside service.places k sender at) (ap (option_map name_of) (sym at)) (λ i another. refl);
}

by_events : (origin : Origin) (sender : Sender) (service after : EventService) (r : Result EventState Refusal) → sender_at origin service ≡ Some sender →
    (r >>= (λ events. Ok (with_events origin sender events service))) ≡ Ok after → KeepsNames service after
by_events origin sender service after (Ok events) at is = let same : with_events origin sender events service ≡ after = cc in subst (KeepsNames service) same (with_kept origin sender events service at)
by_events origin sender service after (Err refusal) at is = cc

by_sender : (origin : Origin) (item : LogItem) (service after : EventService) (o : Option Sender) → sender_at origin service ≡ o →
    (found o 101 >>= (λ sender. joined_now item sender.events >>= (λ events. Ok (with_events origin sender events service)))) ≡ Ok after → KeepsNames service after
by_sender origin item service after None at is = cc
by_sender origin item service after (Some sender) at is = by_events origin sender service after (joined_now item sender.events) at is

by_origin : (item : LogItem) (service after : EventService) (o : Option Origin) →
    (found o 101 >>= (λ origin. found (sender_at origin service) 101 >>= (λ sender. joined_now item sender.events >>= (λ events. Ok (with_events origin sender events service))))) ≡ Ok after →
    KeepsNames service after
by_origin item service after None is = cc
by_origin item service after (Some origin) is = by_sender origin item service after (sender_at origin service) refl is

pub names_stay : (r : Result (Name × LogItem) Refusal) (service after : EventService) → Ok after ≡ events_by r service → KeepsNames service after
names_stay (Ok command) service after is = by_origin command.1 service after (origin_named command.0 service) (sym is)
names_stay (Err refusal) service after is = cc

-- ---- the host

shared_obeyed : (old mid : Services) → mid.tables ≡ old.tables → mid.counts ≡ old.counts → mid.events.sent ≡ old.events.sent → shared mid ≡ record (shared old) { events = sender_named mid.events }
unfolding shared
shared_obeyed old mid tables counts sent = λ i. record {
  files = files_seen (tables i).files;
  slots = slot_among (tables i).places;
  events = sender_named mid.events;
  counts = counts_with (sent i) (count_among (counts i));
}

-- the same host, but for the event services
pub record EventsAlone (old mid : Hosted) : Type 0 where
  pub stock : mid.stock ≡ old.stock
  pub seats : mid.seats ≡ old.seats
  pub is_closed : mid.is_closed ≡ old.is_closed
  pub bus : mid.services.bus ≡ old.services.bus
  pub tables : mid.services.tables ≡ old.services.tables
  pub counts : mid.services.counts ≡ old.services.counts
  pub moment : mid.services.moment ≡ old.services.moment
  pub outgoing : mid.services.outgoing ≡ old.services.outgoing

module _ (found_law : TablesAreFound) (law : CommandsByName) (old mid : Hosted) (packet : List ℕ) (whole : IsWhole old) (sound : IsTableService old.services.tables) (alone : EventsAlone old mid) where
  known_obeyed : AreKnown old → AreKnown mid
  known_obeyed known = λ seat. rw alone.seats (known seat)

  abbrev e : Executive (List ℕ)
  e = executive_in old

  abbrev this_step : Written (List ℕ)
  this_step = answered_now on_board old.services.moment event_services packet e (with_services e (event_service_now packet e.services))

  pub whole_obeyed : KeepsNames old.services.events mid.services.events → IsWhole mid
  whole_obeyed keeps = record {
    seated = rw alone.seats (seated_still found_law old.seats old.services mid.services sound (subst IsTableService (sym alone.tables) sound) stays whole.seated);
    spares = rw alone.stock whole.spares;
    idle = alone.outgoing ∙ whole.idle;
  }
    where
      stays : (seat : ℕ) → StaysAt seat old.services mid.services
      stays seat = record {
        sender = keeps.names seat;
        tables = ap (λ (t : TableService). tables_at seat t.places) alone.tables;
        subscriptions = ap (λ (b : Bus). option_map (λ (pipe : Pipe). pipe.subscriptions) (slice_index_or (seen b) seat None)) alone.bus;
      }

  -- it is obeyed
  module _ (is : Ok mid.services.events ≡ events_by (event_command_in packet) old.services.events) where
    pub keeps_names : KeepsNames old.services.events mid.services.events
    keeps_names = names_stay (event_command_in packet) old.services.events mid.services.events is

    abbrev later : Executive (List ℕ)
    later = record e { services = record e.services { events = sender_named mid.services.events } }

    executive_obeyed : executive_in mid ≡ later
    executive_obeyed = λ i. record {
      stock = map member_of (alone.stock i);
      seats = map (option_map member_of) (alone.seats i);
      pipes = seen (alone.bus i);
      services = shared_obeyed old.services mid.services alone.tables alone.counts keeps_names.sent i;
    }

    step_obeyed : this_step ≡ told_by_host old.services.moment (command_done event_services (function_code packet) ∷ []) later
    step_obeyed =
        ap (λ r. answered_now on_board old.services.moment event_services packet e (with_services e r))
        (obeyed_so law packet old.services ∙ ap (λ (r : Result EventService Refusal). r >>= (λ after. Ok (record (shared old.services) { events = sender_named after }))) (sym is))

    pub is_obeyed : (request : Request) → request ≡ command_done event_services (function_code packet) → (new : Hosted) (before now : Sink) (result : Result ℕ WriteFault) →
        TellsAlone request mid new before now result → ObeysEvents packet old new before now result
    is_obeyed request asked new before now result tells =
        subst (λ (w : Written (List ℕ)). Handles nobody (written_once w) w 0 old new before now result)
        (ap (λ r. told_by_host old.services.moment (r ∷ []) later) asked ∙ sym step_obeyed)
        (told_behind old mid new later executive_obeyed alone.stock alone.moment alone.is_closed known_obeyed request before now result tells)

  -- it is refused
  module _ (same : mid.services.events ≡ old.services.events) (refusal : Refusal) (is : Err refusal ≡ events_by (event_command_in packet) old.services.events) where
    executive_same : executive_in mid ≡ e
    executive_same = λ i. record {
      stock = map member_of (alone.stock i);
      seats = map (option_map member_of) (alone.seats i);
      pipes = seen (alone.bus i);
      services = same_shared old.services mid.services (record { bus = alone.bus; events = same; tables = alone.tables; counts = alone.counts }) i;
    }

    step_refused : this_step ≡ told_by_host old.services.moment (command_refused event_services refusal ∷ []) e
    step_refused =
        ap (λ r. answered_now on_board old.services.moment event_services packet e (with_services e r))
        (obeyed_so law packet old.services ∙ ap (λ (r : Result EventService Refusal). r >>= (λ after. Ok (record (shared old.services) { events = sender_named after }))) (sym is))

    pub is_not_obeyed : (request : Request) → request ≡ command_refused event_services refusal → (new : Hosted) (before now : Sink) (result : Result ℕ WriteFault) →
        TellsAlone request mid new before now result → ObeysEvents packet old new before now result
    is_not_obeyed request asked new before now result tells =
        subst (λ (w : Written (List ℕ)). Handles nobody (written_once w) w 0 old new before now result)
        (ap (λ r. told_by_host old.services.moment (r ∷ []) e) asked ∙ sym step_refused)
        (told_behind old mid new e executive_same alone.stock alone.moment alone.is_closed known_obeyed request before now result tells)
