-- Slots of tables: what is in use stays, what was found sound stays so, and what goes with the services still does.
use Rattle.std.proofs.Common.{◌≡◌, refl, ap, ap₂, ◌∙◌, sym, subst, Bool, true, false, [], length, Option, Some, None, is_none, is_some, unwrap_or, if◌then◌else◌, Result, Ok, Err, IfSome, IfOk, IsTrue}
use Rattle.std.specs.Option.{option_map_or}
use Rattle.std.proofs.lemmas.Slice.Eq.{bytes_eq-Decides}
use Rattle.lc_model.specs.declared.kind.Kind.{Kind}
use Rattle.lc_model.specs.declared.kind.Kind.TheVariants.{Wdt, Adt}
use Rattle.lc_model.specs.Name.{Name, is_named}
use Rattle.lc_model.specs.Refusal.{Refusal, ◌>>=◌, found, provided, update_pending, nothing_loaded}
use Rattle.lc_model.specs.Tables.Image.{ImageFault}
use Rattle.lc_model.specs.Tables.File.{table_name}
use Rattle.lc_model.specs.Tables.Slot.{Slot, Waiting, Stage, Loaded, Asked, Valid, Activated, Move, Validate, Activate, Abort, no_images, waiting_at, with_waiting, restaged, stage_after, loaded, moved, taken}
use Rattle.lc_model.specs.Tables.Interpretation.{Interpretation}
use Rattle.lc_model.specs.LimitChecker.Steps.{paired, told_verdict, validated}
use Rattle.lc_model.specs.Kept.Summary.{AppState, LcState, SchState, CounterState, Other}
use Rattle.lc_model.specs.Kept.Call.{with_at, ServicesNow}
use Rattle.lc_model.specs.Kept.GoesWith.{IsFoundSound, IsJudged, GoesWith}

-- ---- what is in use

module _ {Image : Type 0} where
  -- what is in use stays by a load and by a move of what waits
  pub loaded_active : (image : Image) (slot : Slot Image) → IfOk (loaded image slot) (λ (after : Slot Image). after.active ≡ slot.active)
  loaded_active image slot = by_test (is_none (waiting_at Activated slot))
    where
      by_test : (test : Bool) → IfOk (provided test update_pending (with_waiting Loaded image slot)) (λ (after : Slot Image). after.active ≡ slot.active)
      by_test true = refl
      by_test false = tt

  pub moved_active : (move : Move) (slot : Slot Image) → IfOk (moved move slot) (λ (after : Slot Image). after.active ≡ slot.active)
  moved_active move slot = by_waiting slot.waiting
    where
      by_stage : (waiting : Waiting Image) (r : Result (Option Stage) Refusal) →
          IfOk (r >>= (λ stage. Ok (restaged stage waiting.image slot))) (λ (after : Slot Image). after.active ≡ slot.active)
      by_stage waiting (Err refusal) = tt
      by_stage waiting (Ok None) = refl
      by_stage waiting (Ok (Some stage)) = refl

      by_waiting : (o : Option (Waiting Image)) →
          IfOk (found o nothing_loaded >>= (λ (waiting : Waiting Image). stage_after move waiting.stage >>= (λ stage. Ok (restaged stage waiting.image slot))))
          (λ (after : Slot Image). after.active ≡ slot.active)
      by_waiting None = tt
      by_waiting (Some waiting) = by_stage waiting (stage_after move waiting.stage)

module _ {Image : Type 0} (images : Interpretation Image) where
  -- ---- what was found sound

  abbrev Sound : Kind → Image → Type 0
  Sound kind image = images.fault_of kind image ≡ None

  abbrev Found : Kind → Waiting Image → Type 0
  Found kind waiting = IsFoundSound images kind waiting.stage waiting.image

  abbrev slot_with : Option Image → Stage → Image → Slot Image
  slot_with active stage image = record { active = active; waiting = Some (record { stage = stage; image = image }) }

  pub taken_judged : (kind : Kind) (slot : Slot Image) → IsJudged images kind slot → IsJudged images kind (taken slot)
  taken_judged kind slot h = by_waiting slot.active slot.waiting h.active h.waiting
    where
      by_stage : (active : Option Image) (stage : Stage) (image : Image) → IfSome active (Sound kind) → IsFoundSound images kind stage image →
          IsJudged images kind (taken (slot_with active stage image))
      by_stage active Loaded image a w = record { active = a; waiting = w }
      by_stage active Asked image a w = record { active = a; waiting = w }
      by_stage active Valid image a w = record { active = a; waiting = w }
      by_stage active Activated image a w = record { active = w; waiting = tt }

      by_waiting : (active : Option Image) (o : Option (Waiting Image)) → IfSome active (Sound kind) → IfSome o (Found kind) →
          IsJudged images kind (taken (record { active = active; waiting = o }))
      by_waiting active None a w = record { active = a; waiting = tt }
      by_waiting active (Some waiting) a w = by_stage active waiting.stage waiting.image a w

  pub validated_judged : (kind : Kind) (slot : Slot Image) → IsJudged images kind slot → IsJudged images kind (validated images kind slot).0
  validated_judged kind slot h = by_waiting slot.active slot.waiting h.active h.waiting
    where
      by_fault : (active : Option Image) (image : Image) (fault : Option ImageFault) → images.fault_of kind image ≡ fault → IfSome active (Sound kind) →
          IsJudged images kind (told_verdict images kind fault (slot_with active Asked image)).0
      by_fault active image None e a = record { active = a; waiting = e }
      by_fault active image (Some fault) e a = record { active = a; waiting = tt }

      by_stage : (active : Option Image) (stage : Stage) (image : Image) → IfSome active (Sound kind) → IsFoundSound images kind stage image →
          IsJudged images kind (validated images kind (slot_with active stage image)).0
      by_stage active Loaded image a w = record { active = a; waiting = w }
      by_stage active Asked image a w = by_fault active image (images.fault_of kind image) refl a
      by_stage active Valid image a w = record { active = a; waiting = w }
      by_stage active Activated image a w = record { active = a; waiting = w }

      by_waiting : (active : Option Image) (o : Option (Waiting Image)) → IfSome active (Sound kind) → IfSome o (Found kind) →
          IsJudged images kind (validated images kind (record { active = active; waiting = o })).0
      by_waiting active None a w = record { active = a; waiting = tt }
      by_waiting active (Some waiting) a w = by_stage active waiting.stage waiting.image a w

  pub loaded_judged : (kind : Kind) (image : Image) (slot : Slot Image) → IsJudged images kind slot → IfOk (loaded image slot) (λ (after : Slot Image). IsJudged images kind after)
  loaded_judged kind image slot h = by_test (is_none (waiting_at Activated slot))
    where
      by_test : (test : Bool) → IfOk (provided test update_pending (with_waiting Loaded image slot)) (λ (after : Slot Image). IsJudged images kind after)
      by_test true = record { active = h.active; waiting = tt }
      by_test false = tt

  pub moved_judged : (kind : Kind) (move : Move) (slot : Slot Image) → IsJudged images kind slot → IfOk (moved move slot) (λ (after : Slot Image). IsJudged images kind after)
  moved_judged kind move slot h = by_waiting slot.active slot.waiting h.active h.waiting
    where
      by_stage : (active : Option Image) (stage : Stage) (image : Image) (move : Move) → IfSome active (Sound kind) → IsFoundSound images kind stage image →
          IfOk (moved move (slot_with active stage image)) (λ (after : Slot Image). IsJudged images kind after)
      by_stage active stage image Abort a w = record { active = a; waiting = tt }
      by_stage active Loaded image Validate a w = record { active = a; waiting = tt }
      by_stage active Asked image Validate a w = record { active = a; waiting = tt }
      by_stage active Valid image Validate a w = record { active = a; waiting = tt }
      by_stage active Activated image Validate a w = tt
      by_stage active Loaded image Activate a w = tt
      by_stage active Asked image Activate a w = tt
      by_stage active Valid image Activate a w = record { active = a; waiting = w }
      by_stage active Activated image Activate a w = tt

      by_waiting : (active : Option Image) (o : Option (Waiting Image)) → IfSome active (Sound kind) → IfSome o (Found kind) →
          IfOk (moved move (record { active = active; waiting = o })) (λ (after : Slot Image). IsJudged images kind after)
      by_waiting active None a w = tt
      by_waiting active (Some waiting) a w = by_stage active waiting.stage waiting.image move a w

  -- ---- what goes with the services

  -- one slot more or less, by its name
  record SlotStays (kind : Kind) (before after : Option (Slot Image)) : Type 0 where
    there : IsTrue (is_some before) → IsTrue (is_some after)
    active : (unwrap_or after no_images).active ≡ (unwrap_or before no_images).active
    judged : IsJudged images kind (unwrap_or before no_images) → IsJudged images kind (unwrap_or after no_images)

  slot_stays : (kind : Kind) (services : ServicesNow Image) (name : Name) (slot after : Slot Image) → services.slots name ≡ Some slot → after.active ≡ slot.active →
      ((kind : Kind) → IsJudged images kind slot → IsJudged images kind after) →
      SlotStays kind (services.slots (table_name kind)) (with_at name (Some after) services.slots (table_name kind))
  slot_stays kind services name slot after there active judged = by_test (is_named (table_name kind) name) refl
    where
      by_test : (test : Bool) → is_named (table_name kind) name ≡ test →
          SlotStays kind (services.slots (table_name kind)) (if test then Some after else services.slots (table_name kind))
      by_test true e =
          let known : services.slots (table_name kind) ≡ Some slot = ap services.slots ((bytes_eq-Decides (table_name kind) name).0 e) ∙ there in
          subst (λ before. SlotStays kind before (Some after)) (sym known) (record { there = λ h. refl; active = active; judged = judged kind })
      by_test false e = record { there = λ h. h; active = refl; judged = λ h. h }

  pub placed : (state : AppState) (services : ServicesNow Image) (name : Name) (slot after : Slot Image) → services.slots name ≡ Some slot → after.active ≡ slot.active →
      ((kind : Kind) → IsJudged images kind slot → IsJudged images kind after) → GoesWith images state services →
      GoesWith images state (record services { slots = with_at name (Some after) services.slots })
  placed (LcState own) services name slot after there active judged g =
      let wdt = slot_stays Wdt services name slot after there active judged in
      let adt = slot_stays Adt services name slot after there active judged in
      let force = ap₂ (paired images) (sym wdt.active) (sym adt.active) in
      record {
        wdt = wdt.there g.wdt;
        adt = adt.there g.adt;
        terms = g.terms ∙ ap (λ o. option_map_or images.terms o []) force;
        rules = g.rules ∙ ap (λ o. option_map_or images.rules o []) force;
        in_step = record {
          results = g.in_step.results ∙ ap (λ o. length (option_map_or images.terms o [])) force;
          points = g.in_step.points ∙ ap (λ o. length (option_map_or images.rules o [])) force;
          wdt = wdt.judged g.in_step.wdt;
          adt = adt.judged g.in_step.adt;
        };
        sender = g.sender;
      }
  placed (SchState schedule at) services name slot after there active judged g = record { schedule_fits = g.schedule_fits; inside = g.inside; sender = g.sender }
  placed (CounterState count) services name slot after there active judged g = g
  placed Other services name slot after there active judged g = tt
