-- What an application does at its seat keeps the rules of the interface, and leaves what the definitions say.
use Rattle.std.proofs.Common.{◌≡◌, ◌≢◌, inl, refl, ap, sym, ◌∙◌, subst, ℕ, zero, suc, ◌≤◌, ◌<◌, lit≤, List, [], ◌∷◌, ◌++◌, length, map, arith, Option, Some, None}
use Rattle.std.specs.Prelude.{IfSome, IsTrue, option_map, filter, slice_index_or, slice_set}
use Rattle.std.specs.List.{AllByRecursion, concat}
use Rattle.std.proofs.lemmas.List.{append-nil, get_or-set_same, get_or-set_other, set-get_or, map-set, length-map}
use Rattle.lc_model.specs.Name.{Name}
use Rattle.lc_model.specs.Events.Request.{Request}
use Rattle.lc_model.specs.Kept.Summary.{AppState, EventState}
use Rattle.lc_model.specs.Kept.Call.{Called, new_sender, with_at, registered, silent, told, sent_by}
use Rattle.lc_model.specs.Kept.Executive.{Pipe, hears, all_published_to}
use Rattle.lc_model.specs.Services.Bus.{Bus, Queue, seen, seen_pipe, pipe_at}
use Rattle.lc_model.specs.Services.Events.{counts_with, EventService, Sender, Origin, sender_at, sender_named}
use Rattle.lc_model.specs.Tables.Slot.{Slot}
use Rattle.lc_model.specs.Services.Tables.{Table, TableService, tables_at, tables_unregistered}
use Rattle.lc_model.specs.Services.Interface.{LeavesOthersAlone, PipesHear, MayBeStarted, IsStarted, MayPublish, IsOwnPipe, IsGiven, IsRetired, BelongsTo, seen_at, waiting_in, is_table_of}
use Rattle.lc_model.proofs.Facts.{some_same}
use Rattle.lc_model.specs.Kept.GoesWith.{own_name, subscriptions_of}
use Rattle.lc_model.specs.Services.Settled.{IsSettled, form_of, own_forms}
use Rattle.lc_model.specs.Services.Seen.{files_seen, slot_among, count_among}
use Rattle.app_host.specs.declared.services.Services.{Services}
use Rattle.app_host.specs.Shared.{held_by, shared}
use Rattle.app_host.specs.Telling.{Tells, name_of}
use Rattle.app_host.specs.Seating.{IsOpened, IsClosed}
use Rattle.app_host.specs.Calls.{Leaves, LeavesEmpty}

-- ---- pipes as they are seen

pub seen_of_place : (seat : ℕ) (bus : Bus) → slice_index_or (seen bus) seat None ≡ option_map seen_pipe (pipe_at seat bus)
seen_of_place seat [] = refl
seen_of_place zero (place ∷ bus) = refl
seen_of_place (suc seat) (place ∷ bus) = seen_of_place seat bus

pub seen_with : (seat : ℕ) (bus : Bus) (place : Option Queue) → seen (slice_set bus seat place) ≡ slice_set (seen bus) seat (option_map seen_pipe place)
seen_with seat bus place = map-set (option_map seen_pipe) bus seat place

seen_other : (seat other : ℕ) (bus : Bus) (place : Option Queue) → other ≢ seat → slice_index_or (seen (slice_set bus seat place)) other None ≡ slice_index_or (seen bus) other None
seen_other seat other bus place two =
    ap (λ places. slice_index_or places other None) (seen_with seat bus place) ∙ get_or-set_other (seen bus) seat other (option_map seen_pipe place) None two

seen_own : (seat : ℕ) (bus : Bus) (place : Option Queue) → seat < length bus → slice_index_or (seen (slice_set bus seat place)) seat None ≡ option_map seen_pipe place
seen_own seat bus place inside =
    ap (λ places. slice_index_or places seat None) (seen_with seat bus place)
    ∙ get_or-set_same (seen bus) seat (option_map seen_pipe place) None (rw (length-map bus (option_map seen_pipe)) inside)

-- nothing that was published is heard
abbrev pub hearing : List (List ℕ) → Pipe → Pipe
hearing published pipe = record pipe { waiting = pipe.waiting ++ filter (λ packet. hears packet pipe) published }

pub nothing_heard : (place : Option Pipe) → place ≡ option_map (hearing []) place
nothing_heard None = refl
nothing_heard (Some pipe) = ap Some (λ i. record pipe { waiting = sym (append-nil pipe.waiting) i })

pub none_published : (pipes : List (Option Pipe)) → all_published_to pipes [] ≡ pipes
unfolding all_published_to
none_published pipes = refl

-- a pipe that is put where it is
put_again : (seat : ℕ) (pipes : List (Option Pipe)) (mids : List ℕ) → option_map (λ (pipe : Pipe). pipe.subscriptions) (slice_index_or pipes seat None) ≡ Some mids →
    slice_set pipes seat (Some (record { subscriptions = mids; waiting = waiting_in (slice_index_or pipes seat None) })) ≡ pipes
put_again seat pipes mids heard = by_place (slice_index_or pipes seat None) refl heard
  where
    by_place : (place : Option Pipe) → slice_index_or pipes seat None ≡ place → option_map (λ (pipe : Pipe). pipe.subscriptions) place ≡ Some mids →
        slice_set pipes seat (Some (record { subscriptions = mids; waiting = waiting_in (slice_index_or pipes seat None) })) ≡ pipes
    by_place None e h = cc
    by_place (Some pipe) e h =
        let same : pipe.subscriptions ≡ mids = some_same pipe.subscriptions mids h in
        (λ i. slice_set pipes seat (Some (record { subscriptions = sym same i; waiting = waiting_in (e i) }))) ∙ ap (slice_set pipes seat) (sym e) ∙ set-get_or pipes seat None

-- ---- a start

module _ (seat : ℕ) (name : Name) (mids : List ℕ) (before after : Services) (o : IsOpened seat name mids before after) (may : MayBeStarted seat name (held_by before)) where
  new_pipe_seen : seat < length before.bus → seen_at seat (held_by after) ≡ Some (record { subscriptions = mids; waiting = [] })
  new_pipe_seen inside = ap (λ bus. slice_index_or (seen bus) seat None) o.bus
      ∙ seen_own seat before.bus (Some (record { subscriptions = mids; waiting = [] })) inside

  new_sender_there : seat < length before.events.places → sender_at (Some seat) after.events ≡ Some (record { name = name; events = new_sender })
  new_sender_there inside = ap (sender_at (Some seat)) o.events
      ∙ get_or-set_same before.events.places seat (Some (record { name = name; events = new_sender })) None inside

  opening_leaves_others : LeavesOthersAlone seat (held_by before) (held_by after)
  opening_leaves_others = record {
    host = ap (λ (e : EventService). e.host) o.events;
    senders = λ other two. ap (sender_at (Some other)) o.events
        ∙ get_or-set_other before.events.places seat other (Some (record { name = name; events = new_sender })) None two;
    tables = λ other two. ap (λ (t : TableService). tables_at other t.places) o.tables;
    files = ap (λ (t : TableService). t.files) o.tables;
    moment = o.moment;
  }

  opening_is_silent : PipesHear seat [] (held_by before) (held_by after)
  opening_is_silent other two = ap (λ bus. slice_index_or (seen bus) other None) o.bus
      ∙ seen_other seat other before.bus (Some (record { subscriptions = mids; waiting = [] })) two ∙ nothing_heard (seen_at other (held_by before))

  pub opened_is_started : IsStarted seat name (held_by before) (held_by after)
  opened_is_started =
      let pipe : seen_at seat (held_by after) ≡ Some (record { subscriptions = mids; waiting = [] }) = new_pipe_seen o.on_the_bus in
      let sender : sender_at (Some seat) after.events ≡ Some (record { name = name; events = new_sender }) = new_sender_there o.among_senders in
      record {
        call = record {
          others = opening_leaves_others;
          pipes = opening_is_silent;
          outgoing = let none : length after.outgoing ≡ 0 = ap length (o.outgoing ∙ may.idle) in omega (arith, none);
        };
        pipe = subst (λ (place : Option Pipe). IfSome place (λ (p : Pipe). p.waiting ≡ [])) (sym pipe) refl;
        has_pipe = λ none. let never : Some (record { subscriptions = mids; waiting = [] }) ≡ None = sym pipe ∙ none in cc;
        sender = λ none. let never : Some (record { name = name; events = new_sender }) ≡ None = sym sender ∙ none in cc;
        belongs = record {
          sender = subst (λ (place : Option Sender). IfSome place (λ (s : Sender). s.name ≡ name)) (sym sender) refl;
          tables = subst (AllByRecursion (λ (table : Table). IsTrue (is_table_of name table.name)))
              (sym (ap (λ (t : TableService). tables_at seat t.places) o.tables ∙ may.free.tables)) tt;
        };
      }

  -- what is at the seat of an object without tables
  pub opened_settles : (state : AppState) → own_name state ≡ name → own_forms state ≡ [] → subscriptions_of state ≡ mids → IsSettled state seat (held_by after)
  opened_settles state named none heard = record {
    sender = ap (option_map name_of) (new_sender_there o.among_senders) ∙ ap Some (sym named);
    tables = ap (λ (t : TableService). map form_of (tables_at seat t.places)) o.tables ∙ ap (map form_of) may.free.tables ∙ sym none;
    pipe = ap (option_map (λ (pipe : Pipe). pipe.subscriptions)) (new_pipe_seen o.on_the_bus) ∙ ap Some (sym heard);
  }

  -- a start that does no more, by what the definitions say of it
  pub opened_leaves : (state : AppState) (called : Called (List ℕ)) → state ≡ called.state → called.mids ≡ mids → called.services ≡ registered name (shared before) →
      called.outgoing ≡ [] → called.published ≡ [] → Leaves seat state before after called
  opened_leaves state called becomes heard services outgoing published = record {
    becomes = becomes;
    services = o.shared ∙ sym services;
    outgoing = o.outgoing ∙ may.idle ∙ sym (ap concat outgoing);
    pipes =
        let waits : waiting_in (seen_at seat (held_by before)) ≡ [] = ap waiting_in (seen_of_place seat before.bus ∙ ap (option_map seen_pipe) may.free.pipe) in
        let here = slice_set (seen before.bus) seat in
        ap seen o.bus ∙ seen_with seat before.bus (Some (record { subscriptions = mids; waiting = [] }))
        ∙ (λ i. here (Some (record { subscriptions = sym heard i; waiting = sym waits i })))
        ∙ sym (none_published (here (Some (record { subscriptions = called.mids; waiting = waiting_in (seen_at seat (held_by before)) }))))
        ∙ ap (all_published_to (here (Some (record { subscriptions = called.mids; waiting = waiting_in (seen_at seat (held_by before)) })))) (sym published);
  }

-- ---- a packet that is answered with events alone

own_pipe_stays : (place : Option Pipe) → IfSome place (IsOwnPipe place [])
own_pipe_stays None = tt
own_pipe_stays (Some pipe) = record { stayed = pipe.waiting; heard = []; waiting = sym (append-nil pipe.waiting); old_or_new = inl refl; heard_of = tt }

pub nothing_published : (packet : List ℕ) → MayPublish packet []
nothing_published packet = record { few = lit≤ tt; for_ticks = λ some. absurd (some refl); no_ticks = tt }

abbrev pub host_in : Option Sender → EventState
host_in None = new_sender
host_in (Some sender) = sender.events

named_alike : (name : Name) (old new : Option Sender) → option_map name_of new ≡ option_map name_of old → IfSome old (λ (s : Sender). s.name ≡ name) → IfSome new (λ (s : Sender). s.name ≡ name)
named_alike name old None e h = tt
named_alike name None (Some new) e h = cc
named_alike name (Some old) (Some new) e h = cc

module _ (seat : ℕ) (name : Name) (requests : List Request) (before after : Services) (t : Tells (Some seat) name requests before after) where
  pub told_is_given : (packet : List ℕ) → BelongsTo seat name (held_by before) → length after.outgoing ≤ 65536 → IsGiven seat name packet (held_by before) (held_by after)
  told_is_given packet belongs little = record {
    published = [];
    may = nothing_published packet;
    call = record {
      others = record {
        host = ap host_in (t.others None (λ same. cc));
        senders = λ other two. t.others (Some other) (λ same. two (some_same other seat same));
        tables = λ other two. ap (λ (service : TableService). tables_at other service.places) t.tables;
        files = ap (λ (service : TableService). service.files) t.tables;
        moment = t.moment;
      };
      pipes = λ other two. ap (λ bus. slice_index_or (seen bus) other None) t.bus ∙ nothing_heard (seen_at other (held_by before));
      outgoing = little;
    };
    own = subst (λ bus. IfSome (slice_index_or (seen bus) seat None) (IsOwnPipe (seen_at seat (held_by before)) [])) (sym t.bus) (own_pipe_stays (seen_at seat (held_by before)));
    belongs = record {
      sender = named_alike name (sender_at (Some seat) before.events) (sender_at (Some seat) after.events) t.own belongs.sender;
      tables = subst (AllByRecursion (λ (table : Table). IsTrue (is_table_of name table.name)))
          (sym (ap (λ (service : TableService). tables_at seat service.places) t.tables)) belongs.tables;
    };
  }

  -- by what the definitions say of it
  pub told_leaves : (state : AppState) (mids : List ℕ) → before.outgoing ≡ [] → option_map (λ (pipe : Pipe). pipe.subscriptions) (seen_at seat (held_by before)) ≡ Some mids →
      Leaves seat state before after (told before.moment name requests state mids (shared before))
  told_leaves state mids idle heard = record {
    becomes = refl;
    services = t.services;
    outgoing = t.outgoing ∙ ap (λ bytes. bytes ++ concat (sent_by before.moment name requests (shared before)).1) idle;
    pipes = ap seen t.bus ∙ sym (put_again seat (seen before.bus) mids heard)
        ∙ sym (none_published (slice_set (seen before.bus) seat (Some (record { subscriptions = mids; waiting = waiting_in (seen_at seat (held_by before)) }))));
  }

-- the same seat, after telling
module _ (seat : ℕ) (name : Name) (requests : List Request) (before after : Services) (t : Tells (Some seat) name requests before after) where
  pub told_settles : (old state : AppState) → own_name state ≡ own_name old → own_forms state ≡ own_forms old → subscriptions_of state ≡ subscriptions_of old →
      IsSettled old seat (held_by before) → IsSettled state seat (held_by after)
  told_settles old state named forms heard settled = record {
    sender = t.own ∙ settled.sender ∙ ap Some (sym named);
    tables = ap (λ (service : TableService). map form_of (tables_at seat service.places)) t.tables ∙ settled.tables ∙ sym forms;
    pipe = ap (λ bus. option_map (λ (pipe : Pipe). pipe.subscriptions) (slice_index_or (seen bus) seat None)) t.bus ∙ settled.pipe ∙ ap Some (sym heard);
  }

-- who tells, by the name that stands at the place
pub tells_by_name : (origin : Origin) (name : Name) (requests : Name → List Request) (before after : Services) → option_map name_of (sender_at origin before.events) ≡ Some name →
    IfSome (sender_at origin before.events) (λ (sender : Sender). Tells origin sender.name (requests sender.name) before after) → Tells origin name (requests name) before after
tells_by_name origin name requests before after named told = by_place (sender_at origin before.events) named told
  where
    by_place : (place : Option Sender) → option_map name_of place ≡ Some name → IfSome place (λ (sender : Sender). Tells origin sender.name (requests sender.name) before after) →
        Tells origin name (requests name) before after
    by_place None named told = cc
    by_place (Some sender) named told = subst (λ n. Tells origin n (requests n) before after) (some_same sender.name name named) told

-- ---- a packet that is not answered

pub silence_is_given : (seat : ℕ) (name : Name) (s : Services) (packet : List ℕ) → BelongsTo seat name (held_by s) → s.outgoing ≡ [] → IsGiven seat name packet (held_by s) (held_by s)
silence_is_given seat name s packet belongs idle = record {
  published = [];
  may = nothing_published packet;
  call = record {
    others = record { host = refl; senders = λ other two. refl; tables = λ other two. refl; files = refl; moment = refl };
    pipes = λ other two. nothing_heard (seen_at other (held_by s));
    outgoing = let none : length s.outgoing ≡ 0 = ap length idle in omega (arith, none);
  };
  own = own_pipe_stays (seen_at seat (held_by s));
  belongs = belongs;
}

pub silence_leaves : (seat : ℕ) (s : Services) (state : AppState) (mids : List ℕ) → s.outgoing ≡ [] →
    option_map (λ (pipe : Pipe). pipe.subscriptions) (seen_at seat (held_by s)) ≡ Some mids → Leaves seat state s s (silent state mids [] (shared s))
silence_leaves seat s state mids idle heard = record {
  becomes = refl;
  services = refl;
  outgoing = idle;
  pipes = sym (put_again seat (seen s.bus) mids heard)
      ∙ sym (none_published (slice_set (seen s.bus) seat (Some (record { subscriptions = mids; waiting = waiting_in (seen_at seat (held_by s)) }))));
}

-- ---- a retirement

emptied : {A : Type 0} (places : List A) (k : ℕ) (d : A) → slice_index_or (slice_set places k d) k d ≡ d
emptied [] k d = refl
emptied (x ∷ places) zero d = refl
emptied (x ∷ places) (suc k) d = emptied places k d

module _ (seat : ℕ) (name : Name) (before after : Services) (c : IsClosed seat before after) (idle : before.outgoing ≡ []) where
  pub closed_is_retired : IsRetired seat name (held_by before) (held_by after)
  closed_is_retired = record {
    call = record {
      others = record {
        host = ap (λ (e : EventService). e.host) c.events;
        senders = λ other two. ap (sender_at (Some other)) c.events ∙ get_or-set_other before.events.places seat other None None two;
        tables = λ other two. ap (λ (t : TableService). tables_at other t.places) c.tables ∙ get_or-set_other before.tables.places seat other [] [] two;
        files = ap (λ (t : TableService). t.files) c.tables;
        moment = c.moment;
      };
      pipes = λ other two. ap (λ bus. slice_index_or (seen bus) other None) c.bus ∙ seen_other seat other before.bus None two ∙ nothing_heard (seen_at other (held_by before));
      outgoing = let none : length after.outgoing ≡ 0 = ap length (c.outgoing ∙ idle) in omega (arith, none);
    };
    free = record {
      pipe = ap (pipe_at seat) c.bus ∙ emptied before.bus seat None;
      sender = ap (sender_at (Some seat)) c.events ∙ emptied before.events.places seat None;
      tables = ap (λ (t : TableService). tables_at seat t.places) c.tables ∙ emptied before.tables.places seat [];
    };
  }

  -- of a sender of this name, by what becomes of its tables
  pub closed_leaves : option_map name_of (sender_at (Some seat) before.events) ≡ Some name → (slots : Name → Option (Slot (List ℕ))) →
      slot_among (tables_unregistered seat before.tables).places ≡ slots →
      LeavesEmpty seat before after (record (shared before) { slots = slots; events = with_at name None (shared before).events })
  unfolding shared
  closed_leaves own slots gone = record {
    services = by_sender (sender_at (Some seat) before.events) own c.names;
    outgoing = c.outgoing ∙ idle;
    pipes = ap seen c.bus ∙ seen_with seat before.bus None;
  }
    where
      by_sender : (place : Option Sender) → option_map name_of place ≡ Some name →
          IfSome place (λ (sender : Sender). sender_named after.events ≡ with_at sender.name None (sender_named before.events)) →
          shared after ≡ record (shared before) { slots = slots; events = with_at name None (shared before).events }
      by_sender None own names = cc
      by_sender (Some sender) own names =
          (λ i. record {
            files = files_seen (c.tables i).files;
            slots = slot_among (c.tables i).places;
            events = names i;
            counts = counts_with (c.events i).sent (count_among (c.counts i));
          })
          ∙ (λ i. record (shared before) { slots = gone i; events = with_at (some_same sender.name name own i) None (sender_named before.events) })

-- a seat without tables has none to give back
pub no_tables_go : (seat : ℕ) (s : Services) → tables_at seat s.tables.places ≡ [] → slot_among (tables_unregistered seat s.tables).places ≡ (shared s).slots
unfolding shared
no_tables_go seat s none = ap slot_among (ap (slice_set s.tables.places seat) (sym none) ∙ set-get_or s.tables.places seat [])
