-- The application takes a seat, as the definitions say.
use Rattle.std.proofs.Common.{◌≡◌, ◌≢◌, arith, refl, ap, sym, ◌∙◌, subst, ℕ, zero, suc, ◌+◌, ◌≤◌, ◌<◌, Bool, true, false, List, [], ◌∷◌, ◌++◌, length, map, if◌then◌else◌, Option, Some, None}
use Rattle.std.specs.Prelude.{IfSome, IsSomeAnd, IsTrue, codes, is_some, option_map, slice_index_or, slice_set}
use Rattle.std.specs.Option.{option_map_or, option_or}
use Rattle.std.specs.List.{AllByRecursion, concat}
use Rattle.std.proofs.lemmas.List.{get_or-set_same, get_or-set_other, set-set}
use Rattle.std.proofs.lemmas.Slice.Eq.{bytes_eq-Decides}
use Rattle.lc_model.specs.declared.kind.Kind.TheVariants.{Wdt, Adt}
use Rattle.lc_model.specs.declared.field.Term.{Term}
use Rattle.lc_model.specs.declared.rule.EventKind.TheVariants.{Information}
use Rattle.lc_model.specs.Packet.{lc_command_mid, lc_housekeeping_request_mid, sample_mid}
use Rattle.lc_model.specs.Name.{Name, is_named, lc_name}
use Rattle.lc_model.specs.Tables.File.{table_name}
use Rattle.lc_model.specs.Tables.Slot.{Slot}
use Rattle.lc_model.specs.Tables.Interpretation.{Pair}
use Rattle.lc_model.specs.Events.Request.{Request, Event, lc_started}
use Rattle.lc_model.specs.LimitChecker.Steps.{paired, started_with, default_image, lc_start}
use Rattle.lc_model.specs.Kept.Summary.{LcState, LcNow, LcOwn, lc_own}
use Rattle.lc_model.specs.Kept.Next.{by_counts}
use Rattle.lc_model.specs.Kept.Effort.{no_effort}
use Rattle.lc_model.specs.Kept.Call.{with_at, with_tables, with_mids, registered, new_sender, silent, lc_subscriptions, lc_told, sent_by, next_start}
use Rattle.lc_model.specs.Kept.Executive.{Pipe, all_published_to}
use Rattle.lc_model.specs.Kept.GoesWith.{subscriptions_of}
use Rattle.lc_model.specs.Services.Bus.{Bus, Queue, seen, seen_pipe, pipe_at, with_pipe}
use Rattle.lc_model.specs.Services.Events.{EventService, Sender, sender_at}
use Rattle.lc_model.specs.Services.Interface.{MayBeStarted, IsStarted, LeavesOthersAlone, is_table_of, seen_at, waiting_in}
use Rattle.lc_model.specs.Services.Seen.{files_seen, slot_in, slot_among, services_seen}
use Rattle.lc_model.specs.Services.Settled.{IsSettled, form_of, own_forms}
use Rattle.lc_model.specs.Services.Tables.{Table, TableService, Places, IsTableService, tables_at}
use Rattle.lc_model.proofs.Facts.{some_same}
use Rattle.lc_model.proofs.Services.TableNames as names
use Rattle.app_host.specs.declared.services.Services.{Services}
use Rattle.app_host.specs.Shared.{on_board, held_by, shared}
use Rattle.app_host.specs.Telling.{Tells, name_of}
use Rattle.app_host.specs.Seating.{IsOpened}
use Rattle.app_host.specs.Statements.{OpeningStarts, OpeningLeaves, TellingIsByName}
use Rattle.app_host.specs.Calls.{Leaves}
use Rattle.app_host.proofs.Rules.{seen_of_place, host_in}
use Rattle.lc_model.proofs.Services.Subscriptions.{no_more}
use Rattle.limit_checker.specs.Starting.{new_wdt, new_adt, with_both, start_pair, own_started, tables_started, started_wdt, started_adt, started_tables}
use Rattle.limit_checker.proofs.TablesBegun.{AreOthers, no_number, others_among}

-- ---- two tables under their names

none_in : (name : Name) (tables : List Table) → AreOthers name tables → slot_in tables name ≡ None
none_in name tables others = names.no_number name 0 tables (no_number name 0 tables others)

-- what is under a name, with two tables more of these names
abbrev beside : Table → Table → Name → Option (Slot (List ℕ)) → Option (Slot (List ℕ))
beside a b name other = if is_named name a.name then Some a.slot else if is_named name b.name then Some b.slot else other

module _ (a b : Table) where
  behind : (name : Name) (tables : List Table) (other : Option (Slot (List ℕ))) → AreOthers a.name tables → AreOthers b.name tables →
      option_or (slot_in tables name) (beside a b name other) ≡ beside a b name (option_or (slot_in tables name) other)
  behind name tables other of_a of_b = by_first (is_named name a.name) refl
    where
      by_second : (second : Bool) → is_named name b.name ≡ second →
          option_or (slot_in tables name) (if second then Some b.slot else other) ≡ (if second then Some b.slot else option_or (slot_in tables name) other)
      by_second true e = ap (λ o. option_or o (Some b.slot)) (ap (slot_in tables) ((bytes_eq-Decides name b.name).0 e) ∙ none_in b.name tables of_b)
      by_second false e = refl

      by_first : (first : Bool) → is_named name a.name ≡ first →
          option_or (slot_in tables name) (if first then Some a.slot else if is_named name b.name then Some b.slot else other)
          ≡ (if first then Some a.slot else if is_named name b.name then Some b.slot else option_or (slot_in tables name) other)
      by_first true e = ap (λ o. option_or o (Some a.slot)) (ap (slot_in tables) ((bytes_eq-Decides name a.name).0 e) ∙ none_in a.name tables of_a)
      by_first false e = by_second (is_named name b.name) refl

  in_front : (name : Name) (other : Option (Slot (List ℕ))) → option_or (slot_in (a ∷ b ∷ []) name) other ≡ beside a b name other
  in_front name other = by_test (is_named name a.name) (is_named name b.name)
    where
      by_test : (first second : Bool) → option_or (if first then Some a.slot else if second then Some b.slot else None) other ≡ (if first then Some a.slot else if second then Some b.slot else other)
      by_test true second = refl
      by_test false true = refl
      by_test false false = refl

  under_names : (name : Name) (seat : ℕ) (places : Places) → seat < length places → tables_at seat places ≡ [] → AllByRecursion (AreOthers a.name) places → AllByRecursion (AreOthers b.name) places →
      slot_among (slice_set places seat (a ∷ b ∷ [])) name ≡ beside a b name (slot_among places name)
  under_names name seat [] below free of_a of_b = absurd (omega (arith, below))
  under_names name zero (tables ∷ places) below free of_a of_b =
      in_front name (slot_among places name) ∙ ap (λ (t : List Table). beside a b name (option_or (slot_in t name) (slot_among places name))) (sym free)
  under_names name (suc seat) (tables ∷ places) below free of_a of_b =
      ap (option_or (slot_in tables name)) (under_names name seat places (omega (arith, below)) free of_a.1 of_b.1)
      ∙ behind name tables (slot_among places name) of_a.0 of_b.0

-- ---- what is in force

abbrev begun_by : Option (Pair (List ℕ)) → LcNow (List ℕ)
begun_by pair = (started_with by_counts on_board pair).0

abbrev event_of : Option (Pair (List ℕ)) → List Request
event_of pair = (started_with by_counts on_board pair).1

-- a pair that is started with belongs together
matches_so : (wdt adt : Option (List ℕ)) (pair : Pair (List ℕ)) → paired on_board wdt adt ≡ Some pair → paired on_board (Some pair.wdt) (Some pair.adt) ≡ Some pair
matches_so None adt pair e = cc
matches_so (Some wdt) None pair e = cc
matches_so (Some wdt) (Some adt) pair e = by_test (on_board.matches (record { wdt = wdt; adt = adt })) refl e
  where
    by_test : (b : Bool) → on_board.matches (record { wdt = wdt; adt = adt }) ≡ b → (if b then Some (record { wdt = wdt; adt = adt }) else None) ≡ Some pair → paired on_board (Some pair.wdt) (Some pair.adt) ≡ Some pair
    by_test true is e =
        let same : record { wdt = wdt; adt = adt } ≡ pair = some_same (record { wdt = wdt; adt = adt }) pair e in
        subst (λ (p : Pair (List ℕ)). paired on_board (Some p.wdt) (Some p.adt) ≡ Some p) same
        (ap (λ b. if b then Some (record { wdt = wdt; adt = adt }) else None) is)
    by_test false is e = cc

-- the object has the pair as the definitions' Limit Checker has it
own_so : (pair : Option (Pair (List ℕ))) → ((p : Pair (List ℕ)) → pair ≡ Some p → paired on_board (Some p.wdt) (Some p.adt) ≡ Some p) →
    own_started pair ≡ lc_own on_board no_effort (begun_by pair)
own_so None matches = refl
own_so (Some pair) matches =
    let force : paired on_board (Some pair.wdt) (Some pair.adt) ≡ Some pair = matches pair refl in
    λ i. record (own_started (Some pair)) {
      terms = ap (λ (o : Option (Pair (List ℕ))). option_map_or on_board.terms o []) (sym force) i;
      rules = ap (λ (o : Option (Pair (List ℕ))). option_map_or on_board.rules o []) (sym force) i;
    }

slots_so : (pair : Option (Pair (List ℕ))) (name : Name) (other : Option (Slot (List ℕ))) →
    beside (started_wdt pair) (started_adt pair) name other
    ≡ (if is_named name (table_name Wdt) then Some (begun_by pair).wdt else if is_named name (table_name Adt) then Some (begun_by pair).adt else other)
slots_so None name other = refl
slots_so (Some pair) name other = refl

wdt_named : (pair : Option (Pair (List ℕ))) → (started_wdt pair).name ≡ table_name Wdt
wdt_named None = refl
wdt_named (Some pair) = refl

adt_named : (pair : Option (Pair (List ℕ))) → (started_adt pair).name ≡ table_name Adt
adt_named None = refl
adt_named (Some pair) = refl

forms_so : (pair : Option (Pair (List ℕ))) (own : LcOwn) → map form_of (started_tables pair) ≡ own_forms (LcState own)
forms_so None own = refl
forms_so (Some pair) own = refl

all_its_own : (pair : Option (Pair (List ℕ))) → AllByRecursion (λ (table : Table). IsTrue (is_table_of lc_name table.name)) (started_tables pair)
all_its_own None = (refl, (refl, tt))
all_its_own (Some pair) = (refl, (refl, tt))

-- ---- all services

-- before the event: the seat has its pipe, its sender and its tables
record HasSeat (seat : ℕ) (before after : Services) : Type 0 where
  pub opened : IsOpened seat lc_name (subscriptions_of (LcState (own_started (start_pair before.tables)))) before (record after { tables = before.tables })
  pub tables : after.tables ≡ record before.tables { places = slice_set before.tables.places seat (started_tables (start_pair before.tables)) }

module _ (seat : ℕ) (before between after : Services) (may : MayBeStarted seat lc_name (held_by before)) (few : seat < length before.tables.places) (has : HasSeat seat before between) where
  abbrev pair : Option (Pair (List ℕ))
  pair = start_pair before.tables

  abbrev own : LcOwn
  own = own_started pair

  abbrev opened : Services
  opened = record between { tables = before.tables }

  -- the tables that are there
  tables_there : tables_at seat between.tables.places ≡ started_tables pair
  tables_there = ap (λ (t : TableService). tables_at seat t.places) has.tables ∙ get_or-set_same before.tables.places seat (started_tables pair) [] few

  slots_at : (name : Name) → slot_among between.tables.places name
      ≡ (if is_named name (table_name Wdt) then Some (begun_by pair).wdt else if is_named name (table_name Adt) then Some (begun_by pair).adt else slot_among before.tables.places name)
  slots_at name =
      ap (λ (t : TableService). slot_among t.places name) has.tables
      ∙ under_names (started_wdt pair) (started_adt pair) name seat before.tables.places few may.free.tables
      (rw (wdt_named pair) (others_among (table_name Wdt) refl before.tables.places may.unused.tables)) (rw (adt_named pair) (others_among (table_name Adt) refl before.tables.places may.unused.tables))
      ∙ slots_so pair name (slot_among before.tables.places name)

  services_between : shared between ≡ with_tables (begun_by pair) (registered lc_name (shared before))
  unfolding shared
  services_between = (λ i. record (shared between) { files = files_seen (has.tables i).files; slots = λ name. slots_at name i })
      ∙ (λ i. record (has.opened.shared i) { slots = with_at (table_name Wdt) (Some (begun_by pair).wdt) (with_at (table_name Adt) (Some (begun_by pair).adt) (shared before).slots) })

  -- what opening alone gives
  abbrev start : OpeningStarts → IsStarted seat lc_name (held_by before) (held_by opened)
  start law = law seat lc_name (subscriptions_of (LcState own)) before opened has.opened may

  abbrev leaves : OpeningLeaves → Leaves seat (LcState own) before opened (silent (LcState own) (subscriptions_of (LcState own)) [] (registered lc_name (shared before)))
  leaves law = law seat lc_name (subscriptions_of (LcState own)) before opened has.opened may (LcState own) (silent (LcState own) (subscriptions_of (LcState own)) [] (registered lc_name (shared before))) refl refl refl refl refl

  module _ (told : Tells (Some seat) lc_name (event_of pair) between after) (little : length after.outgoing ≤ 65536) where
    tables_after : tables_at seat after.tables.places ≡ started_tables pair
    tables_after = ap (λ (t : TableService). tables_at seat t.places) told.tables ∙ tables_there

    others_alone : OpeningStarts → LeavesOthersAlone seat (held_by before) (held_by after)
    others_alone law = record {
      host = ap host_in (told.others None (λ same. cc)) ∙ (start law).call.others.host;
      senders = λ other two. told.others (Some other) (λ same. two (some_same other seat same)) ∙ (start law).call.others.senders other two;
      tables = λ other two. ap (λ (t : TableService). tables_at other t.places) (told.tables ∙ has.tables) ∙ get_or-set_other before.tables.places seat other (started_tables pair) [] two;
      files = ap (λ (t : TableService). t.files) (told.tables ∙ has.tables);
      moment = told.moment ∙ (start law).call.others.moment;
    }

    still_named : (old new : Option Sender) → option_map name_of new ≡ option_map name_of old → IfSome old (λ (s : Sender). s.name ≡ lc_name) → IfSome new (λ (s : Sender). s.name ≡ lc_name)
    still_named old None e h = tt
    still_named None (Some new) e h = cc
    still_named (Some old) (Some new) e h = cc

    still_there : (old new : Option Sender) → option_map name_of new ≡ option_map name_of old → old ≢ None → new ≢ None
    still_there None new e some none = some refl
    still_there (Some old) None e some none = let never : None ≡ Some (name_of old) = e in cc
    still_there (Some old) (Some new) e some none = cc

    is_started : OpeningStarts → IsStarted seat lc_name (held_by before) (held_by after)
    is_started law = record {
      call = record {
        others = others_alone law;
        pipes = λ other two. ap (λ (b : Bus). slice_index_or (seen b) other None) told.bus ∙ (start law).call.pipes other two;
        outgoing = little;
      };
      pipe = subst (λ (b : Bus). IfSome (slice_index_or (seen b) seat None) (λ (pipe : Pipe). pipe.waiting ≡ [])) (sym told.bus) (start law).pipe;
      has_pipe = λ none. (start law).has_pipe (ap (λ (b : Bus). slice_index_or (seen b) seat None) (sym told.bus) ∙ none);
      sender = still_there (sender_at (Some seat) between.events) (sender_at (Some seat) after.events) told.own (start law).sender;
      belongs = record {
        sender = still_named (sender_at (Some seat) between.events) (sender_at (Some seat) after.events) told.own (start law).belongs.sender;
        tables = subst (AllByRecursion (λ (table : Table). IsTrue (is_table_of lc_name table.name))) (sym tables_after) (all_its_own pair);
      };
    }

    -- the object, and what it is subscribed to
    belongs_so : (p : Pair (List ℕ)) → pair ≡ Some p → paired on_board (Some p.wdt) (Some p.adt) ≡ Some p
    belongs_so p e = matches_so (default_image on_board Wdt (files_seen before.tables.files)) (default_image on_board Adt (files_seen before.tables.files)) p e

    own_is : own ≡ lc_own on_board no_effort (begun_by pair)
    own_is = own_so pair belongs_so

    files_here : (shared before).files ≡ files_seen before.tables.files
    unfolding shared
    files_here = refl

    mids_are : subscriptions_of (LcState own) ≡ lc_subscriptions on_board (begun_by pair)
    mids_are = ap (λ (o : LcOwn). subscriptions_of (LcState o)) own_is

    left_so : OpeningLeaves → Leaves seat (LcState own) before after (lc_told on_board before.moment no_effort (started_with by_counts on_board pair) (registered lc_name (shared before)))
    left_so law = record {
      becomes = ap LcState own_is;
      services = told.services ∙ (λ i. (sent_by (has.opened.moment i) lc_name (event_of pair) (services_between i)).0);
      outgoing = told.outgoing ∙ (λ i. (has.opened.outgoing ∙ may.idle) i ++ concat (sent_by (has.opened.moment i) lc_name (event_of pair) (services_between i)).1);
      pipes = ap seen told.bus ∙ (leaves law).pipes
          ∙ ap (λ mids. all_published_to (slice_set (seen before.bus) seat (Some (record { subscriptions = mids; waiting = waiting_in (seen_at seat (held_by before)) }))) []) mids_are;
    }

    is_left : OpeningLeaves → (old : LcOwn) → IfSome (next_start on_board before.moment (LcState old) (shared before)) (Leaves seat (LcState own) before after)
    is_left law old = subst (λ files. Leaves seat (LcState own) before after (lc_told on_board before.moment no_effort (lc_start by_counts on_board files) (registered lc_name (shared before)))) (sym files_here) (left_so law)

    abbrev pipe_of : Queue
    pipe_of = record { subscriptions = subscriptions_of (LcState own); waiting = [] }

    abbrev sender_of : Sender
    sender_of = record { name = lc_name; events = new_sender }

    is_settled : IsSettled (LcState own) seat (held_by after)
    is_settled = record {
      sender = told.own ∙ ap (option_map name_of) (ap (sender_at (Some seat)) has.opened.events ∙ get_or-set_same before.events.places seat (Some sender_of) None has.opened.among_senders);
      tables = ap (map form_of) tables_after ∙ forms_so pair own;
      pipe = ap (λ (b : Bus). option_map (λ (pipe : Pipe). pipe.subscriptions) (slice_index_or (seen b) seat None)) (told.bus ∙ has.opened.bus)
          ∙ ap (option_map (λ (pipe : Pipe). pipe.subscriptions)) (seen_of_place seat (with_pipe seat before.bus pipe_of) ∙ ap (option_map seen_pipe) (get_or-set_same before.bus seat (Some pipe_of) None has.opened.on_the_bus));
    }

-- all that a start asks for
pub record Taken (seat : ℕ) (old own : LcOwn) (before after : Services) : Type 0 where
  pub rules : IsStarted seat lc_name (held_by before) (held_by after)
  pub exact : IfSome (next_start on_board before.moment (LcState old) (shared before)) (Leaves seat (LcState own) before after)
  pub settled : IsSettled (LcState own) seat (held_by after)

-- ---- step by step

event_so : (pair : Option (Pair (List ℕ))) → event_of pair ≡ lc_started (if is_some pair then codes "with tables" else codes "without tables") ∷ []
event_so None = refl
event_so (Some pair) = refl

module _ (seat : ℕ) (before opened : Services) (may : MayBeStarted seat lc_name (held_by before)) (sound : IsTableService before.tables) (o : IsOpened seat lc_name (with_mids [] []) before opened) where
  few : seat < length before.tables.places
  few = let exists = may.seat_exists in let eight = sound.seats in omega (arith, eight, exists)

  abbrev first_pipe : Queue
  first_pipe = record { subscriptions = with_mids [] []; waiting = [] }

  pipe_there : pipe_at seat opened.bus ≡ Some first_pipe
  pipe_there = ap (pipe_at seat) o.bus ∙ get_or-set_same before.bus seat (Some first_pipe) None o.on_the_bus

  pub room_for : (n : ℕ) → n ≤ 176 → IsSomeAnd (pipe_at seat opened.bus) (λ (queue : Queue). length queue.subscriptions + 3 + n ≤ 256)
  room_for n most = subst (λ (place : Option Queue). IsSomeAnd place (λ (queue : Queue). length queue.subscriptions + 3 + n ≤ 256)) (sym pipe_there)
      (let none : length (with_mids [] []) ≡ 0 = ap length (no_more []) in omega (arith, none, most))

  module _ (registered : TableService) (registers : registered ≡ with_both seat opened.tables) where
    pub both_there : tables_at seat registered.places ≡ new_wdt ∷ new_adt ∷ []
    both_there = ap (λ (t : TableService). tables_at seat t.places) (registers ∙ ap (with_both seat) o.tables)
        ∙ get_or-set_same before.tables.places seat (new_wdt ∷ new_adt ∷ []) [] few

    pair_same : start_pair registered ≡ start_pair before.tables
    pair_same = ap start_pair (registers ∙ ap (with_both seat) o.tables)

    module _ (begun : TableService) (begins : begun ≡ tables_started seat (start_pair registered) registered) (engine : LcOwn) (is : engine ≡ own_started (start_pair registered)) where
      engine_is : engine ≡ own_started (start_pair before.tables)
      engine_is = is ∙ ap own_started pair_same

      tables_are : begun ≡ record before.tables { places = slice_set before.tables.places seat (started_tables (start_pair before.tables)) }
      tables_are = begins ∙ (λ i. tables_started seat (pair_same i) ((registers ∙ ap (with_both seat) o.tables) i))
          ∙ ap (λ (places : Places). record before.tables { places = places }) (set-set before.tables.places seat (new_wdt ∷ new_adt ∷ []) (started_tables (start_pair before.tables)))

      module _ (terms : List Term) (watched : terms ≡ engine.terms) (bus : Bus)
          (hears : IfSome (pipe_at seat opened.bus) (λ (queue : Queue). bus ≡ with_pipe seat opened.bus
          (record queue { subscriptions = with_mids (lc_command_mid ∷ lc_housekeeping_request_mid ∷ sample_mid ∷ map (λ (t : Term). t.mid) terms) queue.subscriptions }))) where
        abbrev all_mids : List Term → List ℕ
        all_mids terms = lc_command_mid ∷ lc_housekeeping_request_mid ∷ sample_mid ∷ map (λ (t : Term). t.mid) terms

        abbrev pipe_with : List ℕ → Queue
        pipe_with mids = record { subscriptions = mids; waiting = [] }

        bus_is : bus ≡ with_pipe seat before.bus (pipe_with (subscriptions_of (LcState (own_started (start_pair before.tables)))))
        bus_is =
            subst (λ (place : Option Queue). IfSome place (λ (queue : Queue). bus ≡ with_pipe seat opened.bus (record queue { subscriptions = with_mids (all_mids terms) queue.subscriptions }))) pipe_there hears
            ∙ ap (λ (b : Bus). with_pipe seat b (pipe_with (with_mids (all_mids terms) (with_mids [] [])))) o.bus
            ∙ set-set before.bus seat (Some first_pipe) (Some (pipe_with (with_mids (all_mids terms) (with_mids [] []))))
            ∙ (λ i. with_pipe seat before.bus (pipe_with (with_mids (all_mids ((watched ∙ ap (λ (own : LcOwn). own.terms) engine_is) i)) (no_more [] i))))

        abbrev between : Services
        between = record opened { bus = bus; tables = begun }

        shared_is : shared (record between { tables = before.tables }) ≡ shared opened
        unfolding shared
        shared_is = λ i. services_seen opened.events (sym o.tables i) opened.counts

        has_seat : HasSeat seat before between
        has_seat = record {
          opened = record {
            bus = bus_is;
            events = o.events;
            shared = shared_is ∙ o.shared;
            tables = refl;
            moment = o.moment;
            outgoing = o.outgoing;
            on_the_bus = o.on_the_bus;
            among_senders = o.among_senders;
          };
          tables = tables_are;
        }

        module _ (by_name : TellingIsByName) (after : Services) (has_tables : Bool) (text : List ℕ) (answers : has_tables ≡ is_some (start_pair registered))
            (says : Event lc_name 1 Information text ≡ lc_started (if has_tables then codes "with tables" else codes "without tables"))
            (tells : IfSome (sender_at (Some seat) opened.events) (λ (sender : Sender). Tells (Some seat) sender.name (Event sender.name 1 Information text ∷ []) between after)) where
          told_so : Tells (Some seat) lc_name (event_of (start_pair before.tables)) between after
          told_so =
              subst (λ (requests : List Request). Tells (Some seat) lc_name requests between after)
              (ap (λ (event : Request). event ∷ []) (says ∙ ap (λ b. lc_started (if b then codes "with tables" else codes "without tables")) (answers ∙ ap is_some pair_same)) ∙ sym (event_so (start_pair before.tables)))
              (by_name (Some seat) lc_name (λ name. Event name 1 Information text ∷ []) between after
              (ap (λ (e : EventService). option_map name_of (sender_at (Some seat) e)) o.events
              ∙ ap (option_map name_of) (get_or-set_same before.events.places seat (Some (record { name = lc_name; events = new_sender })) None o.among_senders))
              tells)

          little_so : length after.outgoing ≤ length between.outgoing + 168 → length after.outgoing ≤ 65536
          little_so size = let none : length opened.outgoing ≡ 0 = ap length (o.outgoing ∙ may.idle) in omega (arith, size, none)

          pub taken : OpeningStarts → OpeningLeaves → length after.outgoing ≤ length between.outgoing + 168 → (old : LcOwn) → Taken seat old engine before after
          taken starts leaves size old = subst (λ own. Taken seat old own before after) (sym engine_is) (record {
            rules = is_started seat before between after may few has_seat told_so (little_so size) starts;
            exact = is_left seat before between after may few has_seat told_so (little_so size) leaves old;
            settled = is_settled seat before between after may few has_seat told_so (little_so size);
          })
