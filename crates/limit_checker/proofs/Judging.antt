-- A table's images change where they are judged, and stay where nobody asked.
use Rattle.std.proofs.Common.{◌≡◌, refl, ap, sym, ◌∙◌, ℕ, zero, suc, List, [], ◌∷◌, Option, Some, None, if◌then◌else◌}
use Rattle.std.specs.Prelude.{option_map, slice_get, slice_set}
use Rattle.std.specs.Option.{option_map_or}
use Rattle.std.proofs.lemmas.List.{set-get_or}
use Rattle.lc_model.specs.declared.kind.Kind.{Kind}
use Rattle.lc_model.specs.Tables.Image.{ImageFault, fault_of}
use Rattle.lc_model.specs.Tables.InForce.{layouts}
use Rattle.lc_model.specs.Tables.Slot.{Slot, Waiting, Asked, is_at, no_images, waiting_at}
use Rattle.lc_model.specs.LimitChecker.Steps.{told_verdict}
use Rattle.lc_model.specs.Services.Tables.{Table, TableService, Handle, tables_at, table_at, slot_at, with_slot, slot_changed}
use Rattle.tbl_service.specs.declared.slot.Stage.{Stage}
use Rattle.tbl_service.specs.declared.slot.Stage.TheVariants as stage
use Rattle.tbl_service.specs.Images.{waiting_seen}
use Rattle.app_host.specs.Shared.{on_board}
use Rattle.limit_checker.specs.Housekeeping.{fault_on_board, validation}

-- ---- one slot

-- changes that do the same to it
pub changed_alike : (f g : Slot (List ℕ) → Slot (List ℕ)) (handle : Handle) (service : TableService) → f (slot_at handle service) ≡ g (slot_at handle service) →
    slot_changed f handle service ≡ slot_changed g handle service
changed_alike f g handle service e = ap (λ places. record service { places = places }) (by_place (table_at handle service.places) e)
  where
    by_place : (place : Option Table) → f (option_map_or (λ (table : Table). table.slot) place no_images) ≡ g (option_map_or (λ (table : Table). table.slot) place no_images) →
        option_map_or (λ (table : Table). with_slot handle table service.places (f table.slot)) place service.places
        ≡ option_map_or (λ (table : Table). with_slot handle table service.places (g table.slot)) place service.places
    by_place None e = refl
    by_place (Some table) e = ap (with_slot handle table service.places) e

put_again : {A : Type 0} (xs : List A) (k : ℕ) (x : A) → slice_get xs k ≡ Some x → slice_set xs k x ≡ xs
put_again [] k x e = refl
put_again (y ∷ xs) zero x e = cc
put_again (y ∷ xs) (suc k) x e = ap (λ rest. y ∷ rest) (put_again xs k x e)

-- no change
pub not_changed : (handle : Handle) (service : TableService) → slot_changed (λ slot. slot) handle service ≡ service
not_changed handle service = ap (λ places. record service { places = places }) (by_place (table_at handle service.places) refl)
  where
    by_place : (place : Option Table) → table_at handle service.places ≡ place →
        option_map_or (λ (table : Table). with_slot handle table service.places table.slot) place service.places ≡ service.places
    by_place None e = refl
    by_place (Some table) e =
        ap (slice_set service.places handle.seat) (put_again (tables_at handle.seat service.places) handle.number table e)
        ∙ set-get_or service.places handle.seat []

-- a change that leaves it
pub stays : (change : Slot (List ℕ) → Slot (List ℕ)) (handle : Handle) (service : TableService) → change (slot_at handle service) ≡ slot_at handle service →
    service ≡ slot_changed change handle service
stays change handle service e = sym (changed_alike change (λ slot. slot) handle service e ∙ not_changed handle service)

-- ---- verdicts

-- the image that is asked about was found so
pub found_so : (kind : Kind) (slot : Slot (List ℕ)) (at : Stage) (image : List ℕ) (fault : Option ImageFault) → Some (waiting_seen at image) ≡ slot.waiting → at ≡ stage.Asked →
    fault ≡ fault_of layouts kind image → Some fault ≡ option_map (fault_on_board kind) (waiting_at Asked slot)
unfolding on_board
found_so kind slot at image fault waits asked is =
    ap Some is
    ∙ ap (λ (o : Option (Waiting (List ℕ))). option_map (fault_on_board kind) (option_map_or (λ (waiting : Waiting (List ℕ)). if is_at Asked waiting.stage then Some waiting.image else None) o None))
    (ap (λ s. Some (waiting_seen s image)) (sym asked) ∙ waits)

-- nobody asks
pub unasked : (kind : Kind) (slot : Slot (List ℕ)) → None ≡ option_map (fault_on_board kind) (waiting_at Asked slot) → validation kind slot ≡ slot
unasked kind slot none = by_image (waiting_at Asked slot) none
  where
    by_image : (o : Option (List ℕ)) → None ≡ option_map (fault_on_board kind) o →
        (option_map_or (λ image. told_verdict on_board kind (on_board.fault_of kind image) slot) o (slot, [])).0 ≡ slot
    by_image None none = refl
    by_image (Some image) none = cc
