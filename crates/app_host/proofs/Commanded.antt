-- A command to a table changes one table's images, and what goes with the services still does.
use Rattle.std.proofs.Common.{◌≡◌, refl, ap, sym, ◌∙◌, subst, ℕ, List, length, Some, Result, Ok, Err}
use Rattle.std.specs.Prelude.{IfOk}
use Rattle.std.specs.Option.{option_map_or}
use Rattle.lc_model.specs.declared.kind.Kind.{Kind}
use Rattle.lc_model.specs.Name.{Name, value_under, name_in}
use Rattle.lc_model.specs.Refusal.{Refusal, ◌>>=◌, found, provided}
use Rattle.lc_model.specs.Tables.File.{opened}
use Rattle.lc_model.specs.Tables.Slot.{Slot, Move, loaded, moved}
use Rattle.lc_model.specs.Command.{TableCommand, Load, Manage}
use Rattle.lc_model.specs.Kept.Summary.{AppState}
use Rattle.lc_model.specs.Kept.Call.{with_at}
use Rattle.lc_model.specs.Kept.GoesWith.{GoesWith, IsJudged}
use Rattle.lc_model.specs.Laws.TablesByName.{TablesAreFound, ChangingTables}
use Rattle.lc_model.specs.Services.Events.{counts_with, sender_named}
use Rattle.lc_model.specs.Services.Seen.{files_seen, slot_among, count_among}
use Rattle.lc_model.specs.Services.Tables.{Table, TableService, Places, Handle, IsTableService, table_at, handle_named, fits_table, with_slot, with_places, file_refusal, moved_among, image_loaded_among, loaded_among, table_commanded}
use Rattle.lc_model.proofs.LimitChecker.Slots.{loaded_judged, moved_judged, loaded_active, moved_active, placed}
use Rattle.lc_model.proofs.Services.TableServiceLaws.{then_ok, found_ok}
use Rattle.app_host.specs.declared.services.Services.{Services}
use Rattle.app_host.specs.Shared.{on_board, shared}

-- ---- one slot

-- a slot after a command to its table: what is in use stays, and what was judged still is
pub record FollowsSlot (before after : Slot (List ℕ)) : Type 0 where
  pub active : after.active ≡ before.active
  pub judged : (kind : Kind) → IsJudged on_board kind before → IsJudged on_board kind after

-- one table has other images, and that is all
pub record ChangesOne (before after : Places) : Type 0 where
  pub handle : Handle
  pub table : Table
  pub slot : Slot (List ℕ)
  pub there : table_at handle before ≡ Some table
  pub follows : FollowsSlot table.slot slot
  pub is : after ≡ with_slot handle table before slot

module _ (places : Places) where
  changed : (handle : Handle) (table : Table) (r : Result (Slot (List ℕ)) Refusal) → table_at handle places ≡ Some table → IfOk r (FollowsSlot table.slot) →
      IfOk (r >>= (λ slot. Ok (with_slot handle table places slot))) (ChangesOne places)
  changed handle table (Ok slot) there follows = record { handle = handle; table = table; slot = slot; there = there; follows = follows; is = refl }
  changed handle table (Err refusal) there follows = tt

  follows_so : (before : Slot (List ℕ)) (r : Result (Slot (List ℕ)) Refusal) → IfOk r (λ (after : Slot (List ℕ)). after.active ≡ before.active) →
      ((kind : Kind) → IsJudged on_board kind before → IfOk r (λ (after : Slot (List ℕ)). IsJudged on_board kind after)) → IfOk r (FollowsSlot before)
  follows_so before (Ok after) active judged = record { active = active; judged = judged }
  follows_so before (Err refusal) active judged = tt

  moves_change : (move : Move) (name : Name) → IfOk (moved_among move name places) (ChangesOne places)
  moves_change move name =
      then_ok (ChangesOne places) (found (handle_named name places) 113) _ (λ handle h.
      found_ok (ChangesOne places) (table_at handle places) 113 _ (λ table there.
      changed handle table (moved move table.slot) there
      (follows_so table.slot (moved move table.slot) (moved_active move table.slot) (λ kind is. moved_judged on_board kind move table.slot is))))

  loads_change : (image : List ℕ) (name : Name) → IfOk (image_loaded_among image name places) (ChangesOne places)
  loads_change image name =
      then_ok (ChangesOne places) (found (handle_named name places) 113) _ (λ handle h.
      found_ok (ChangesOne places) (table_at handle places) 113 _ (λ table there.
      then_ok (ChangesOne places) (provided (fits_table table (length image)) 114 image) _ (λ fitting f.
      changed handle table (loaded fitting table.slot) there
      (follows_so table.slot (loaded fitting table.slot) (loaded_active fitting table.slot) (λ kind is. loaded_judged on_board kind fitting table.slot is)))))

placed_so : (service : TableService) (r : Result Places Refusal) → IfOk r (ChangesOne service.places) →
    IfOk (with_places service r) (λ (after : TableService). ChangesOne service.places after.places)
placed_so service (Ok places) changes = changes
placed_so service (Err refusal) changes = tt

commands_change : (command : TableCommand) (service : TableService) → IfOk (table_commanded command service) (λ (after : TableService). ChangesOne service.places after.places)
commands_change (Manage move name) service = placed_so service (moved_among move name service.places) (moves_change service.places move name)
commands_change (Load name) service =
    found_ok (λ (after : TableService). ChangesOne service.places after.places) (value_under name service.files) 111 _ (λ bytes b.
    placed_so service (loaded_among bytes service.places)
    (then_ok (ChangesOne service.places) (file_refusal (opened bytes)) _ (λ file f. loads_change service.places file.image (name_in file.name_field))))

pub command_changes : (command : TableCommand) (before after : TableService) → Ok after ≡ table_commanded command before → ChangesOne before.places after.places
command_changes command before after is =
    subst (λ r. IfOk r (λ (after : TableService). ChangesOne before.places after.places)) (sym is) (commands_change command before)

-- ---- what goes with the services, where one slot follows another

-- ---- under names

shared_slots : (s : Services) → (shared s).slots ≡ slot_among s.tables.places
unfolding shared
shared_slots s = refl

pub shared_commanded : (before after : Services) → after.events ≡ before.events → after.tables.files ≡ before.tables.files → after.counts ≡ before.counts →
    shared after ≡ record (shared before) { slots = slot_among after.tables.places }
unfolding shared
shared_commanded before after events files counts = λ i. record {
  files = files_seen (files i);
  slots = slot_among after.tables.places;
  events = sender_named (events i);
  counts = counts_with (events i).sent (count_among (counts i));
}

module _ (tables_are_found : TablesAreFound) (changing_tables : ChangingTables) (before after : Services) (was : IsTableService before.tables) where
  slots_changed : (change : ChangesOne before.tables.places after.tables.places) →
      slot_among after.tables.places ≡ with_at change.table.name (Some change.slot) (shared before).slots
  slots_changed change =
      ap slot_among (change.is ∙ sym (ap (λ o. option_map_or (λ (table : Table). with_slot change.handle table before.tables.places change.slot) o before.tables.places) change.there))
      ∙ changing_tables (λ old. change.slot) change.handle change.table before.tables was change.there
      ∙ ap (with_at change.table.name (Some change.slot)) (sym (shared_slots before))

  pub goes_commanded : after.events ≡ before.events → after.tables.files ≡ before.tables.files → after.counts ≡ before.counts → ChangesOne before.tables.places after.tables.places →
      (state : AppState) → GoesWith on_board state (shared before) → GoesWith on_board state (shared after)
  goes_commanded events files counts change state goes =
      subst (GoesWith on_board state) (sym (shared_commanded before after events files counts ∙ ap (λ slots. record (shared before) { slots = slots }) (slots_changed change)))
      (placed on_board state (shared before) change.table.name change.table.slot change.slot
      (ap (λ slots. slots change.table.name) (shared_slots before) ∙ tables_are_found change.handle change.table before.tables was change.there) change.follows.active change.follows.judged goes)
