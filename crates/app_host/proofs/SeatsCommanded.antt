-- All seats keep what is theirs where a table of one has other images.
use Rattle.std.proofs.Common.{◌≡◌, refl, ap, sym, ◌∙◌, subst, ℕ, zero, suc, List, [], ◌∷◌, map, Option, Some, None}
use Rattle.std.specs.Prelude.{IfSome, IsTrue, option_map, slice_index_or}
use Rattle.std.specs.List.{AllByRecursion}
use Rattle.lc_model.specs.Name.{Name}
use Rattle.lc_model.specs.Kept.Summary.{AppState, LcState, SchState, CounterState, Other}
use Rattle.lc_model.specs.Kept.Executive.{Pipe}
use Rattle.lc_model.specs.Laws.TablesByName.{TablesAreFound, ChangingTables}
use Rattle.lc_model.specs.Services.Bus.{Bus, seen, pipe_at}
use Rattle.lc_model.specs.Services.Events.{EventService, Sender, sender_at}
use Rattle.lc_model.specs.Services.Settled.{Form, form_of, Settled, IsSettled}
use Rattle.lc_model.specs.Services.Tables.{Table, Places, IsTableService, tables_at}
use Rattle.lc_model.specs.Services.Interface.{BelongsTo, IsFreeSeat, is_table_of}
use Rattle.lc_model.proofs.Facts.{map_none}
use Rattle.app_host.specs.declared.services.Services.{Services}
use Rattle.app_host.specs.Shared.{held_by}
use Rattle.app_host.specs.Calls.{IsAtHome}
use Rattle.app_host.specs.Hosted.{Object, object_at}
use Rattle.app_host.specs.Whole.{IsRunning, AreSeated}
use Rattle.app_host.proofs.Commanded.{ChangesOne, goes_commanded}

-- ---- forms at a seat

pub forms_at : (places : Places) (seat : ℕ) → slice_index_or (map (map form_of) places) seat [] ≡ map form_of (tables_at seat places)
forms_at [] seat = refl
forms_at (tables ∷ places) zero = refl
forms_at (tables ∷ places) (suc seat) = forms_at places seat

forms_stay_at : (before after : Places) (seat : ℕ) → map (map form_of) after ≡ map (map form_of) before → map form_of (tables_at seat after) ≡ map form_of (tables_at seat before)
forms_stay_at before after seat same = sym (forms_at after seat) ∙ ap (λ forms. slice_index_or forms seat []) same ∙ forms_at before seat

-- what holds of the forms
all_by_form : (P : Form → Type 0) (before after : List Table) → map form_of after ≡ map form_of before →
    AllByRecursion (λ (table : Table). P (form_of table)) before → AllByRecursion (λ (table : Table). P (form_of table)) after
all_by_form P before [] same all = tt
all_by_form P [] (b ∷ after) same all = cc
all_by_form P (a ∷ before) (b ∷ after) same all =
    let first : form_of b ≡ form_of a = cc in
    let others : map form_of after ≡ map form_of before = cc in
    (subst P (sym first) all.0, all_by_form P before after others all.1)

-- ---- the services, but for images of tables

-- of the tables only images changed, and of the other services nothing
pub record ChangesImages (before after : Services) : Type 0 where
  pub bus : after.bus ≡ before.bus
  pub events : after.events ≡ before.events
  pub counts : after.counts ≡ before.counts
  pub files : after.tables.files ≡ before.tables.files
  pub forms : map (map form_of) after.tables.places ≡ map (map form_of) before.tables.places
  pub change : ChangesOne before.tables.places after.tables.places

module _ (tables_are_found : TablesAreFound) (changing_tables : ChangingTables) (before after : Services) (was : IsTableService before.tables) (images : ChangesImages before after) where
  abbrev same_forms : (seat : ℕ) → map form_of (tables_at seat after.tables.places) ≡ map form_of (tables_at seat before.tables.places)
  same_forms seat = forms_stay_at before.tables.places after.tables.places seat images.forms

  belongs_commanded : (seat : ℕ) (name : Name) → BelongsTo seat name (held_by before) → BelongsTo seat name (held_by after)
  belongs_commanded seat name belongs = record {
    sender = subst (λ (x : EventService). IfSome (sender_at (Some seat) x) (λ (sender : Sender). sender.name ≡ name)) (sym images.events) belongs.sender;
    tables = all_by_form (λ (form : Form). IsTrue (is_table_of name form.name)) (tables_at seat before.tables.places) (tables_at seat after.tables.places) (same_forms seat) belongs.tables;
  }

  is_settled_commanded : (state : AppState) (seat : ℕ) → IsSettled state seat (held_by before) → IsSettled state seat (held_by after)
  is_settled_commanded state seat settled = record {
    sender = ap (λ (x : EventService). option_map (λ (sender : Sender). sender.name) (sender_at (Some seat) x)) images.events ∙ settled.sender;
    tables = same_forms seat ∙ settled.tables;
    pipe = ap (λ (b : Bus). option_map (λ (pipe : Pipe). pipe.subscriptions) (slice_index_or (seen b) seat None)) images.bus ∙ settled.pipe;
  }

  settled_commanded : (state : AppState) (seat : ℕ) → Settled state seat (held_by before) → Settled state seat (held_by after)
  settled_commanded (LcState own) seat settled = is_settled_commanded (LcState own) seat settled
  settled_commanded (SchState schedule slot) seat settled = is_settled_commanded (SchState schedule slot) seat settled
  settled_commanded (CounterState count) seat settled = is_settled_commanded (CounterState count) seat settled
  settled_commanded Other seat settled = tt

  home_commanded : (state : AppState) (name : Name) (seat : ℕ) → IsAtHome state name seat before → IsAtHome state name seat after
  home_commanded state name seat home = record {
    belongs = belongs_commanded seat name home.belongs;
    settled = settled_commanded state seat home.settled;
    goes = goes_commanded tables_are_found changing_tables before after was images.events images.files images.counts images.change state home.goes;
  }

  free_commanded : (seat : ℕ) → IsFreeSeat seat (held_by before) → IsFreeSeat seat (held_by after)
  free_commanded seat free = record {
    pipe = ap (pipe_at seat) images.bus ∙ free.pipe;
    sender = ap (sender_at (Some seat)) images.events ∙ free.sender;
    tables = map_none form_of (tables_at seat after.tables.places) (same_forms seat ∙ ap (map form_of) free.tables);
  }

  running_commanded : (seat : ℕ) (o : Option Object) → IfSome o (IsRunning before seat) → IfSome o (IsRunning after seat)
  running_commanded seat None running = tt
  running_commanded seat (Some o) running = record {
    holds = running.holds;
    named = running.named;
    home = home_commanded o.state o.called seat running.home;
  }

  pub seated_commanded : (seats : List (Option Object)) → AreSeated seats before → AreSeated seats after
  seated_commanded seats seated = record {
    eight = seated.eight;
    running = λ seat. running_commanded seat (object_at seat seats) (seated.running seat);
    free = λ seat none. free_commanded seat (seated.free seat none);
    own = seated.own;
  }
