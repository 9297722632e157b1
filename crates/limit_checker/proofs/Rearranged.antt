-- A packet that changes the application's tables, its pipe's subscriptions and its engine, and then tells of it, is answered by the
-- rules of the interface and as the definitions say.
use Rattle.std.proofs.Common.{◌≡◌, ◌≢◌, inl, refl, ap, sym, ◌∙◌, subst, ℕ, ◌≤◌, ◌<◌, zero, suc, lit≤, List, [], ◌∷◌, ◌++◌, length, map, arith, Option, Some, None}
use Rattle.std.specs.Prelude.{IfSome, IsTrue, option_map, slice_index_or, slice_set}
use Rattle.std.specs.List.{AllByRecursion, concat}
use Rattle.std.proofs.lemmas.List.{append-nil, get_or-set_same, get_or-set_other, length-map}
use Rattle.lc_model.specs.declared.field.Term.{Term}
use Rattle.lc_model.specs.Name.{Name, lc_name}
use Rattle.lc_model.specs.Packet.{lc_command_mid, lc_housekeeping_request_mid, sample_mid}
use Rattle.lc_model.specs.Events.Request.{Request}
use Rattle.lc_model.specs.Kept.Summary.{LcNow, LcOwn, LcState, lc_own}
use Rattle.lc_model.specs.Kept.Call.{Called, with_mids, with_tables, lc_with, lc_told, sent_by, effort_after, next_lc_packet}
use Rattle.lc_model.specs.Kept.Executive.{Pipe}
use Rattle.lc_model.specs.Kept.GoesWith.{subscriptions_of}
use Rattle.lc_model.specs.Services.Bus.{Queue, Publication, seen, seen_pipe, pipe_at, with_pipe}
use Rattle.lc_model.specs.Services.Events.{Sender, Origin, sender_at}
use Rattle.lc_model.specs.Services.Interface.{MayBeGiven, IsOwnPipe, IsGiven, seen_at, waiting_in, is_table_of}
use Rattle.lc_model.specs.Services.Settled.{IsSettled, form_of, wdt_form, adt_form}
use Rattle.lc_model.specs.Services.Tables.{Table, TableService, tables_at}
use Rattle.lc_model.proofs.Facts.{some_same}
use Rattle.app_host.specs.declared.services.Services.{Services}
use Rattle.app_host.specs.Shared.{on_board, held_by, shared}
use Rattle.app_host.specs.Telling.{Tells, name_of}
use Rattle.app_host.specs.Calls.{IsAtHome, Leaves}
use Rattle.app_host.proofs.Rules.{seen_of_place, seen_with, nothing_heard, none_published, nothing_published, host_in}
use Rattle.limit_checker.specs.Application.{Answers}
use Rattle.limit_checker.proofs.TwoTables.{HasTwo, two_tables, first_named, second_named}

-- ---- small facts

-- a pipe with these subscriptions
pub record HasQueue (seat : ℕ) (s : Services) (mids : List ℕ) : Type 0 where
  pub queue : Queue
  pub there : pipe_at seat s.bus ≡ Some queue
  pub heard : queue.subscriptions ≡ mids
  pub inside : seat < length s.bus

inside_of : (places : List (Option Queue)) (k : ℕ) (queue : Queue) → slice_index_or places k None ≡ Some queue → k < length places
inside_of [] k queue e = cc
inside_of (place ∷ places) zero queue e = omega arith
inside_of (place ∷ places) (suc k) queue e = let further = inside_of places k queue e in omega (arith, further)

pub queue_there : (seat : ℕ) (s : Services) (mids : List ℕ) → option_map (λ (pipe : Pipe). pipe.subscriptions) (seen_at seat (held_by s)) ≡ Some mids → HasQueue seat s mids
queue_there seat s mids heard = by_place (pipe_at seat s.bus) refl (ap (option_map (λ (pipe : Pipe). pipe.subscriptions)) (sym (seen_of_place seat s.bus)) ∙ heard)
  where
    by_place : (place : Option Queue) → pipe_at seat s.bus ≡ place → option_map (λ (pipe : Pipe). pipe.subscriptions) (option_map seen_pipe place) ≡ Some mids → HasQueue seat s mids
    by_place None e h = cc
    by_place (Some queue) e h = record { queue = queue; there = e; heard = some_same queue.subscriptions mids h; inside = inside_of s.bus seat queue e }

named_so : (name : Name) (place : Option Sender) → option_map name_of place ≡ Some name → IfSome place (λ (s : Sender). s.name ≡ name)
named_so name None e = tt
named_so name (Some sender) e = some_same sender.name name e

of_its_name : (seat : ℕ) (service : TableService) → map form_of (tables_at seat service.places) ≡ wdt_form ∷ adt_form ∷ [] →
    AllByRecursion (λ (table : Table). IsTrue (is_table_of lc_name table.name)) (tables_at seat service.places)
of_its_name seat service forms =
    let two : HasTwo seat service = two_tables seat service forms in
    let first : IsTrue (is_table_of lc_name two.first.name) = subst (λ name. IsTrue (is_table_of lc_name name)) (sym (first_named seat service two)) refl in
    let second : IsTrue (is_table_of lc_name two.second.name) = subst (λ name. IsTrue (is_table_of lc_name name)) (sym (second_named seat service two)) refl in
    subst (AllByRecursion (λ (table : Table). IsTrue (is_table_of lc_name table.name))) (sym two.there) (first, (second, tt))

-- ---- one call

-- what changed before anything was told
pub record Rearranges (seat : ℕ) (new : LcOwn) (now : LcNow (List ℕ)) (before between : Services) : Type 0 where
  pub services : shared between ≡ with_tables now (shared before)
  pub rest : between ≡ record before { tables = between.tables; bus = between.bus }
  pub bus : IfSome (pipe_at seat before.bus) (λ (queue : Queue). between.bus ≡ with_pipe seat before.bus (record queue { subscriptions = subscriptions_of (LcState new) }))
  pub others : (other : ℕ) → other ≢ seat → tables_at other between.tables.places ≡ tables_at other before.tables.places
  pub files : between.tables.files ≡ before.tables.files
  pub forms : map form_of (tables_at seat between.tables.places) ≡ wdt_form ∷ adt_form ∷ []

module _ (seat : ℕ) (own new : LcOwn) (packet : List ℕ) (now : LcNow (List ℕ)) (requests : List Request) (before between after : Services)
    (home : IsAtHome (LcState own) lc_name seat before) (given : MayBeGiven seat lc_name packet (held_by before))
    (is : new ≡ lc_own on_board (effort_after packet own) now) (step : next_lc_packet on_board packet own (lc_with own (shared before)) ≡ (now, requests))
    (rearranges : Rearranges seat new now before between) (tells : Tells (Some seat) lc_name requests between after) (little : length after.outgoing ≤ 65536) where
  own_queue : HasQueue seat before (subscriptions_of (LcState own))
  own_queue = queue_there seat before (subscriptions_of (LcState own)) home.settled.pipe

  abbrev waits : List (List ℕ)
  waits = waiting_in (seen_at seat (held_by before))

  abbrev new_pipe : Pipe
  new_pipe = record { subscriptions = subscriptions_of (LcState new); waiting = waits }

  waits_are : waits ≡ map (λ (publication : Publication). publication.bytes) own_queue.queue.waiting
  waits_are = ap waiting_in (seen_of_place seat before.bus ∙ ap (option_map seen_pipe) own_queue.there)

  pipes_are : seen after.bus ≡ slice_set (seen before.bus) seat (Some new_pipe)
  pipes_are =
      ap seen (tells.bus
      ∙ subst (λ (place : Option Queue). IfSome place (λ (queue : Queue). between.bus ≡ with_pipe seat before.bus (record queue { subscriptions = subscriptions_of (LcState new) }))) own_queue.there rearranges.bus)
      ∙ seen_with seat before.bus (Some (record own_queue.queue { subscriptions = subscriptions_of (LcState new) }))
      ∙ (λ i. slice_set (seen before.bus) seat (Some (record { subscriptions = subscriptions_of (LcState new); waiting = sym waits_are i })))

  own_pipe : seen_at seat (held_by after) ≡ Some new_pipe
  own_pipe = ap (λ pipes. slice_index_or pipes seat None) pipes_are
      ∙ get_or-set_same (seen before.bus) seat (Some new_pipe) None (rw (length-map before.bus (option_map seen_pipe)) own_queue.inside)

  other_pipe : (other : ℕ) → other ≢ seat → seen_at other (held_by after) ≡ seen_at other (held_by before)
  other_pipe other another = ap (λ pipes. slice_index_or pipes other None) pipes_are ∙ get_or-set_other (seen before.bus) seat other (Some new_pipe) None another

  events_are : (origin : Origin) → sender_at origin between.events ≡ sender_at origin before.events
  events_are origin = ap (λ (s : Services). sender_at origin s.events) rearranges.rest

  sender_is : option_map name_of (sender_at (Some seat) after.events) ≡ Some lc_name
  sender_is = tells.own ∙ ap (option_map name_of) (events_are (Some seat)) ∙ home.settled.sender

  tables_are : (other : ℕ) → tables_at other after.tables.places ≡ tables_at other between.tables.places
  tables_are other = ap (λ (service : TableService). tables_at other service.places) tells.tables

  forms_are : map form_of (tables_at seat after.tables.places) ≡ wdt_form ∷ adt_form ∷ []
  forms_are = ap (map form_of) (tables_are seat) ∙ rearranges.forms

  own_pipe_new : IfSome (seen_at seat (held_by after)) (IsOwnPipe (seen_at seat (held_by before)) [])
  own_pipe_new =
      let changed : IsOwnPipe (seen_at seat (held_by before)) [] new_pipe = record { stayed = waits; heard = []; waiting = sym (append-nil waits); old_or_new = inl refl; heard_of = tt } in
      subst (λ (place : Option Pipe). IfSome place (IsOwnPipe (seen_at seat (held_by before)) [])) (sym own_pipe) changed

  is_given : IsGiven seat lc_name packet (held_by before) (held_by after)
  is_given = record {
    published = [];
    may = nothing_published packet;
    call = record {
      others = record {
        host = ap host_in (tells.others None (λ same. cc) ∙ events_are None);
        senders = λ other two. tells.others (Some other) (λ same. two (some_same other seat same)) ∙ events_are (Some other);
        tables = λ other two. tables_are other ∙ rearranges.others other two;
        files = ap (λ (service : TableService). service.files) tells.tables ∙ rearranges.files;
        moment = tells.moment ∙ ap (λ (s : Services). s.moment) rearranges.rest;
      };
      pipes = λ other two. other_pipe other two ∙ nothing_heard (seen_at other (held_by before));
      outgoing = little;
    };
    own = own_pipe_new;
    belongs = record { sender = named_so lc_name (sender_at (Some seat) after.events) sender_is; tables = of_its_name seat after.tables forms_are };
  }

  is_settled : IsSettled (LcState new) seat (held_by after)
  is_settled = record { sender = sender_is; tables = forms_are; pipe = ap (option_map (λ (pipe : Pipe). pipe.subscriptions)) own_pipe }

  abbrev call : Called (List ℕ)
  call = lc_told on_board before.moment (effort_after packet own) (now, requests) (shared before)

  mids_are : subscriptions_of (LcState new) ≡ call.mids
  mids_are = ap (λ (terms : List Term). with_mids (lc_command_mid ∷ lc_housekeeping_request_mid ∷ sample_mid ∷ map (λ (t : Term). t.mid) terms) []) (ap (λ (o : LcOwn). o.terms) is)

  -- what is sent of these services is sent of those
  sent_is : sent_by between.moment lc_name requests (shared between) ≡ sent_by before.moment lc_name requests (with_tables now (shared before))
  sent_is = λ i. sent_by (rearranges.rest i).moment lc_name requests (rearranges.services i)

  leaves : Leaves seat (LcState new) before after call
  leaves = record {
    becomes = ap LcState is;
    services = tells.services ∙ ap (λ sent. sent.0) sent_is;
    outgoing = tells.outgoing
        ∙ ap (λ bytes. bytes ++ concat (sent_by between.moment lc_name requests (shared between)).1) (ap (λ (s : Services). s.outgoing) rearranges.rest ∙ given.idle)
        ∙ ap (λ sent. concat sent.1) sent_is;
    pipes = pipes_are
        ∙ (λ i. slice_set (seen before.bus) seat (Some (record { subscriptions = mids_are i; waiting = waits })))
        ∙ sym (none_published (slice_set (seen before.bus) seat (Some (record { subscriptions = call.mids; waiting = waits }))));
  }

  pub rearranged : Answers (Some seat) own new packet before after
  rearranged = record {
    rules = is_given;
    exact = subst (λ s. Leaves seat (LcState new) before after (lc_told on_board before.moment (effort_after packet own) s (shared before))) (sym step) leaves;
    settled = is_settled;
  }
