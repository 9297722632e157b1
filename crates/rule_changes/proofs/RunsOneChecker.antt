-- One Limit Checker: what the steps do to its rules, and which sequences they request.
use Rattle.std.proofs.Common.{◌≡◌, ℕ, Bool, true, false, ◌||◌, List, [], ◌∷◌, ◌++◌, refl, ap, ap₂, sym, ◌∙◌, Option, Some, None, is_some, Result, Ok, Err, if◌then◌else◌, IsTrue}
use Rattle.std.specs.Option.{option_map_or, option_or}
use Rattle.lc_model.specs.declared.kind.Kind.{Kind}
use Rattle.lc_model.specs.declared.field.Term.{Term}
use Rattle.lc_model.specs.declared.mode.LcMode.{LcMode}
use Rattle.lc_model.specs.declared.command.SampleRequest.{SampleRequest}
use Rattle.lc_model.specs.Refusal.{Refusal, ◌>>=◌}
use Rattle.lc_model.specs.Rule.{Actionpoint}
use Rattle.lc_model.specs.Tables.Image.{ImageFault}
use Rattle.lc_model.specs.Tables.Slot.{Slot, Activated, Asked, Valid, Loaded, in_use, waiting_at, candidate, judged, taken}
use Rattle.lc_model.specs.Tables.Interpretation.{Pair, Interpretation}
use Rattle.lc_model.specs.Events.Request.{Request, lc_command_done}
use Rattle.lc_model.specs.LimitChecker.Watch.{History, Aging}
use Rattle.lc_model.specs.LimitChecker.Past.{Past}
use Rattle.lc_model.specs.LimitChecker.Steps.{Point, LcStep, by_lists, paired, told_verdict, validated, pair_to_adopt, unless_refused, sampled_over}
use Rattle.lc_model.specs.Host.World.{Lc}
use Rattle.lc_model.proofs.Host.SameCore.{numbers_in}
use Rattle.rule_changes.proofs.RunsSeats.{Seat, rules_of, points_of, fresh_seats, fresh_rules, seats_sampled, as_sampled, unless}
use Rattle.rule_changes.proofs.RunsComparison.{numbers-append}

-- a reading of images without what they contain
abbrev pub shape : {Image : Type 0} → Interpretation Image → Interpretation Image
shape images = record { has_size = images.has_size; fault_of = images.fault_of; matches = images.matches; terms = λ pair. []; rules = λ pair. [] }

-- ---- one Limit Checker

-- the rules of two active images
abbrev pub rules_in : {Image : Type 0} → Interpretation Image → Option Image → Option Image → List Actionpoint
rules_in images wdt adt = option_map_or images.rules (paired images wdt adt) []

module _ {Image : Type 0} (images : Interpretation Image) where
  pub silent : (xs ys : List Request) → numbers_in xs ≡ [] → numbers_in ys ≡ [] → numbers_in (xs ++ ys) ≡ []
  silent xs ys e e' = numbers-append xs ys ∙ ap₂ (λ ns ms. ns ++ ms) e e'

  judged_active : (valid : Bool) (slot : Slot Image) → (judged valid slot).active ≡ slot.active
  judged_active valid slot = by_image (waiting_at Asked slot)
    where
      by_image : (o : Option Image) → (option_map_or (λ image. record slot { waiting = Some (record { stage = if valid then Valid else Loaded; image = image }) }) o slot).active ≡ slot.active
      by_image None = refl
      by_image (Some image) = refl

  pub validated_active : (kind : Kind) (slot : Slot Image) → (validated images kind slot).0.active ≡ slot.active
  validated_active kind slot = by_image (waiting_at Asked slot)
    where
      by_fault : (o : Option ImageFault) → (told_verdict images kind o slot).0.active ≡ slot.active
      by_fault None = judged_active true slot
      by_fault (Some fault) = judged_active false slot

      by_image : (o : Option Image) → (option_map_or (λ image. told_verdict images kind (images.fault_of kind image) slot) o (slot, [])).0.active ≡ slot.active
      by_image None = refl
      by_image (Some image) = by_fault (images.fault_of kind image)

  pub validated_silent : (kind : Kind) (slot : Slot Image) → numbers_in (validated images kind slot).1 ≡ []
  validated_silent kind slot = by_image (waiting_at Asked slot)
    where
      by_fault : (o : Option ImageFault) → numbers_in (told_verdict images kind o slot).1 ≡ []
      by_fault None = refl
      by_fault (Some fault) = refl

      by_image : (o : Option Image) → numbers_in (option_map_or (λ image. told_verdict images kind (images.fault_of kind image) slot) o (slot, [])).1 ≡ []
      by_image None = refl
      by_image (Some image) = by_fault (images.fault_of kind image)

  taken_active : (slot : Slot Image) → (taken slot).active ≡ candidate slot
  taken_active slot = by_image (waiting_at Activated slot)
    where
      by_image : (o : Option Image) → (option_map_or in_use o slot).active ≡ option_or o slot.active
      by_image None = refl
      by_image (Some image) = refl

  is_pair : (test : Bool) (o : Option (Pair Image)) (p : Pair Image) → (if test then o else None) ≡ Some p → o ≡ Some p
  is_pair true o p e = e
  is_pair false o p e = cc

  -- the rules of a pair that is adopted
  pub adopted_rules : (wdt adt : Slot Image) (p : Pair Image) → pair_to_adopt images wdt adt ≡ Some p →
      rules_of (fresh_seats (images.rules p)) ≡ rules_in images (taken wdt).active (taken adt).active
  adopted_rules wdt adt p e =
      fresh_rules (images.rules p)
      ∙ sym (ap (λ o. option_map_or images.rules o []) (is_pair (is_some (waiting_at Activated wdt) || is_some (waiting_at Activated adt)) (paired images (candidate wdt) (candidate adt)) p e))
      ∙ sym (ap₂ (rules_in images) (taken_active wdt) (taken_active adt))

  -- the rules of a pair that is in use
  pub used_rules : (p : Pair Image) → IsTrue (images.matches p) → rules_of (fresh_seats (images.rules p)) ≡ rules_in images (Some p.wdt) (Some p.adt)
  used_rules p matching = fresh_rules (images.rules p) ∙ sym (ap (λ test. option_map_or images.rules (if test then Some p else None) []) matching)

  abbrev pub lc_of : LcMode → Slot Image → Slot Image → History → List (Point Past) → Lc Image
  lc_of m wdt adt watch points = record { mode = m; wdt = wdt; adt = adt; watch = watch; points = points }

  -- a command that sets states
  abbrev pub set : Lc Image → Result (List (Point Past)) Refusal → ℕ → LcStep Image History Past
  set lc r code = unless_refused lc (r >>= (λ points. Ok (record lc { points = points })) >>= (λ now. Ok (now, lc_command_done code ∷ [])))

  pub set_points : (lc : Lc Image) (r : Result (List (Point Past)) Refusal) (code : ℕ) → (set lc r code).0 ≡ record lc { points = unless lc.points r }
  set_points lc (Ok points) code = refl
  set_points lc (Err refusal) code = refl

  pub set_silent : (lc : Lc Image) (r : Result (List (Point Past)) Refusal) (code : ℕ) → numbers_in (set lc r code).1 ≡ []
  set_silent lc (Ok points) code = refl
  set_silent lc (Err refusal) code = refl

  -- a sample of rules with their points
  pub sampled_lc : (request : SampleRequest) (terms : List Term) (m : LcMode) (wdt adt : Slot Image) (watch : History) (seats : List Seat) (rules : List Actionpoint) → rules_of seats ≡ rules →
      sampled_over by_lists terms rules request (lc_of m wdt adt watch (points_of seats))
      ≡ (lc_of m wdt adt (if request.ages then Aging ∷ watch else watch) (points_of (seats_sampled request m watch 0 seats).0), (seats_sampled request m watch 0 seats).1)
  sampled_lc request terms m wdt adt watch seats rules same =
      ap (λ rules. sampled_over by_lists terms rules request (lc_of m wdt adt watch (points_of seats))) (sym same)
      ∙ ap (λ (after : List (Point Past) × List Request). (lc_of m wdt adt (if request.ages then Aging ∷ watch else watch) after.0, after.1)) (as_sampled request terms m watch 0 seats)
