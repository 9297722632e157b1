-- A command to the table services, by names.
use Rattle.std.proofs.Common.{length, ◌≡◌, refl, ap, sym, ◌∙◌, subst, ℕ, List, [], ◌∷◌, map, Result, Ok, Err}
use Rattle.std.specs.Prelude.{IfOk, option_map}
use Rattle.std.specs.List.{AllByRecursion}
use Rattle.std.specs.List.{concat}
use Rattle.lc_model.specs.Device.{Sink}
use Rattle.lc_model.specs.Packet.{function_code}
use Rattle.lc_model.specs.Refusal.{Refusal, ◌>>=◌}
use Rattle.lc_model.specs.Command.{TableCommand, Load, Manage, table_command_in}
use Rattle.lc_model.specs.Events.Request.{Request, table_services, command_done, command_refused}
use Rattle.lc_model.specs.Kept.Call.{ServicesNow}
use Rattle.lc_model.specs.Kept.Executive.{Executive, Written, told_by_host, answered_now, with_services, managed_now, table_service_now}
use Rattle.lc_model.specs.Kept.Stations.{written_once}
use Rattle.lc_model.specs.Laws.TablesByName.{TablesAreFound, ChangingTables}
use Rattle.lc_model.specs.Services.Bus.{seen}
use Rattle.lc_model.specs.Services.Tables.{Table, TableService, IsTableService, table_commanded}
use Rattle.lc_model.specs.Services.Settled.{form_of}
use Rattle.lc_model.specs.Services.Seen.{slot_among}
use Rattle.host_refinement.specs.Commands.{HasKnownForm, MovesByName, LoadsByName, CommandsKeepForms}
use Rattle.app_host.specs.declared.services.Services.{Services}
use Rattle.app_host.specs.declared.error.WriteFault.{WriteFault}
use Rattle.app_host.specs.Shared.{on_board, shared}
use Rattle.app_host.specs.Hosted.{Hosted, member_of}
use Rattle.app_host.specs.Whole.{AreKnown, IsWhole}
use Rattle.app_host.specs.Party.{Holders, nobody, AreKnownHolders}
use Rattle.app_host.specs.Delivered.{executive_in}
use Rattle.app_host.specs.Writing.{IsDone, IsCut, Handles}
use Rattle.app_host.specs.ObeyedTables.{tables_by}
use Rattle.app_host.specs.Told.{TellsAlone, ObeysTables}
use Rattle.app_host.proofs.Flushed.{same_shared, same_seated}
use Rattle.app_host.proofs.Filed.{TablesAlone, told_behind}
use Rattle.app_host.proofs.Commanded.{ChangesOne, command_changes, shared_commanded}
use Rattle.app_host.proofs.SeatsCommanded.{ChangesImages, seated_commanded}
use Rattle.app_host.proofs.KnownTables.{known_tables}

-- ---- by names

abbrev AreKnownTables : TableService → Type 0
AreKnownTables service = AllByRecursion (λ (tables : List Table). AllByRecursion HasKnownForm tables) service.places

-- what a command leaves of what is held under names
abbrev left_by : Services → Result TableService Refusal → Result (ServicesNow (List ℕ)) Refusal
left_by s r = r >>= (λ (after : TableService). Ok (record (shared s) { slots = slot_among after.places }))

module _ (moves : MovesByName) (loads : LoadsByName) (s : Services) (sound : IsTableService s.tables) (known : AreKnownTables s.tables) where
  one_command : (command : TableCommand) → managed_now on_board command (shared s) ≡ left_by s (table_commanded command s.tables)
  unfolding shared on_board
  one_command (Load file) = loads file s.tables (shared s) sound known refl refl
  one_command (Manage move name) = moves move name s.tables (shared s) sound refl

  all_commands : (r : Result TableCommand Refusal) → (r >>= (λ command. managed_now on_board command (shared s))) ≡ left_by s (tables_by r s.tables)
  all_commands (Ok command) = one_command command
  all_commands (Err refusal) = refl

  pub obeyed_so : (packet : List ℕ) → table_service_now on_board packet (shared s) ≡ left_by s (tables_by (table_command_in packet) s.tables)
  obeyed_so packet = all_commands (table_command_in packet)

-- ---- what a command keeps

pub record Keeps (before after : TableService) : Type 0 where
  pub files : after.files ≡ before.files
  pub forms : map (map form_of) after.places ≡ map (map form_of) before.places
  pub change : ChangesOne before.places after.places

pub kept_by : CommandsKeepForms → (r : Result TableCommand Refusal) (before after : TableService) → Ok after ≡ tables_by r before → Keeps before after
kept_by law (Ok command) before after is =
    let forms = subst (λ r. IfOk r (λ (after : TableService). (map (map form_of) after.places ≡ map (map form_of) before.places) × (after.files ≡ before.files))) (sym is) (law command before) in
    record { files = forms.1; forms = forms.0; change = command_changes command before after is }
kept_by law (Err refusal) before after is = cc

-- ---- a step that is known under a premise

-- where this step is that one if all objects that have tables are known
exactly : (old new : Hosted) (this that : Written (List ℕ)) → (AreKnownHolders old → this ≡ that) → (before now : Sink) (result : Result ℕ WriteFault) →
    Handles nobody (written_once this) this 0 old new before now result → Handles Holders (written_once that) that 0 old new before now result
exactly old new this that same before now (Ok total) all = record {
  whole = all.whole;
  quiet = all.quiet;
  stock = all.stock;
  is_closed = all.is_closed;
  calls = all.calls;
  fine = all.fine;
  not_retried = all.not_retried;
  known = λ known holders. all.known known (tt, tt);
  exact = λ known. subst (λ (w : Written (List ℕ)). IsDone (written_once w) w 0 new before.gained now.gained) (same known) (all.exact (tt, tt));
  count = λ known. all.count (tt, tt) ∙ ap (λ (w : Written (List ℕ)). length (concat w.1)) (same known);
}
exactly old new this that same before now (Err fault) part = record {
  whole = part.whole;
  stock = part.stock;
  is_closed = part.is_closed;
  calls = part.calls;
  failed = part.failed;
  not_retried = part.not_retried;
  known = λ known holders. part.known known (tt, tt);
  exact = λ known. subst (λ (w : Written (List ℕ)). IsCut (written_once w) w fault.sent new before.gained now.gained) (same known) (part.exact (tt, tt));
}

-- ---- the host

module _ (old mid : Hosted) (whole : IsWhole old) (alone : TablesAlone old mid) where
  known_obeyed : AreKnown old → AreKnown mid
  known_obeyed known = λ seat. rw alone.seats (known seat)

  pub whole_obeyed : TablesAreFound → ChangingTables → IsTableService old.services.tables → Keeps old.services.tables mid.services.tables → IsWhole mid
  whole_obeyed found changing sound keeps = record {
    seated = rw alone.seats (seated_commanded found changing old.services mid.services sound images old.seats whole.seated);
    spares = rw alone.stock whole.spares;
    idle = alone.outgoing ∙ whole.idle;
  }
    where
      images : ChangesImages old.services mid.services
      images = record { bus = alone.bus; events = alone.events; counts = alone.counts; files = keeps.files; forms = keeps.forms; change = keeps.change }

  pub whole_refused : TablesAreFound → IsTableService old.services.tables → mid.services.tables ≡ old.services.tables → IsWhole mid
  whole_refused found sound same = record {
    seated = rw alone.seats (same_seated found old.seats old.services mid.services sound (record { bus = alone.bus; events = alone.events; tables = same; counts = alone.counts }) whole.seated);
    spares = rw alone.stock whole.spares;
    idle = alone.outgoing ∙ whole.idle;
  }

  abbrev e : Executive (List ℕ)
  e = executive_in old

  module _ (moves : MovesByName) (loads : LoadsByName) (sound : IsTableService old.services.tables) (packet : List ℕ) where
    abbrev this_step : Written (List ℕ)
    this_step = answered_now on_board old.services.moment table_services packet e (with_services e (table_service_now on_board packet e.services))

    abbrev answer : Result TableService Refusal
    answer = tables_by (table_command_in packet) old.services.tables

    step_so : AreKnownHolders old → this_step ≡ answered_now on_board old.services.moment table_services packet e (with_services e (left_by old.services answer))
    step_so known = ap (λ r. answered_now on_board old.services.moment table_services packet e (with_services e r)) (obeyed_so moves loads old.services sound (known_tables old whole.seated known) packet)

    -- it is obeyed
    module _ (is : Ok mid.services.tables ≡ answer) (keeps : Keeps old.services.tables mid.services.tables) where
      abbrev later : Executive (List ℕ)
      later = record e { services = record e.services { slots = slot_among mid.services.tables.places } }

      executive_obeyed : executive_in mid ≡ later
      executive_obeyed = λ i. record {
        stock = map member_of (alone.stock i);
        seats = map (option_map member_of) (alone.seats i);
        pipes = seen (alone.bus i);
        services = shared_commanded old.services mid.services alone.events keeps.files alone.counts i;
      }

      pub is_obeyed : (request : Request) → request ≡ command_done table_services (function_code packet) → (new : Hosted) (before now : Sink) (result : Result ℕ WriteFault) →
          TellsAlone request mid new before now result → ObeysTables packet old new before now result
      is_obeyed request asked new before now result tells =
          exactly old new (told_by_host old.services.moment (request ∷ []) later) this_step
          (λ known. ap (λ r. told_by_host old.services.moment (r ∷ []) later) asked
          ∙ ap (λ r. answered_now on_board old.services.moment table_services packet e (with_services e (left_by old.services r))) is ∙ sym (step_so known)) before now result
          (told_behind old mid new later executive_obeyed alone.stock alone.moment alone.is_closed known_obeyed request before now result tells)

    -- it is refused
    module _ (same : mid.services.tables ≡ old.services.tables) (refusal : Refusal) (is : Err refusal ≡ answer) where
      executive_same : executive_in mid ≡ e
      executive_same = λ i. record {
        stock = map member_of (alone.stock i);
        seats = map (option_map member_of) (alone.seats i);
        pipes = seen (alone.bus i);
        services = same_shared old.services mid.services (record { bus = alone.bus; events = alone.events; tables = same; counts = alone.counts }) i;
      }

      pub is_not_obeyed : (request : Request) → request ≡ command_refused table_services refusal → (new : Hosted) (before now : Sink) (result : Result ℕ WriteFault) →
          TellsAlone request mid new before now result → ObeysTables packet old new before now result
      is_not_obeyed request asked new before now result tells =
          exactly old new (told_by_host old.services.moment (request ∷ []) e) this_step
          (λ known. ap (λ r. told_by_host old.services.moment (r ∷ []) e) asked
          ∙ ap (λ r. answered_now on_board old.services.moment table_services packet e (with_services e (left_by old.services r))) is ∙ sym (step_so known)) before now result
          (told_behind old mid new e executive_same alone.stock alone.moment alone.is_closed known_obeyed request before now result tells)
