-- Each object on a seat of an executive that keeps to a world goes with its services.
use Rattle.std.proofs.Common.{◌≡◌, ℕ, suc, ◌≤◌, Bool, true, false, List, [], ◌∷◌, map, length, refl, ap, sym, ◌∙◌, subst, arith, mod-lt, Option, Some, None, IfSome, IsTrue, IsFalse, true≢false, if◌then◌else◌}
use Rattle.std.specs.Option.{option_map_or}
use Rattle.std.specs.List.{AllByRecursion}
use Rattle.std.proofs.lemmas.List.{length-map}
use Rattle.lc_model.specs.declared.kind.Kind.{Kind}
use Rattle.lc_model.specs.declared.kind.Kind.TheVariants.{Wdt, Adt}
use Rattle.lc_model.specs.Rule.{Actionpoint}
use Rattle.lc_model.specs.Tables.Slot.{Slot, Waiting, Stage, Loaded, Asked, Valid, Activated}
use Rattle.lc_model.specs.Tables.Interpretation.{Interpretation}
use Rattle.lc_model.specs.LimitChecker.Past.{Past}
use Rattle.lc_model.specs.LimitChecker.Steps.{Point, in_force}
use Rattle.lc_model.specs.Host.Schedule.{Schedule, IsSchedule}
use Rattle.lc_model.specs.Host.World.{World}
use Rattle.lc_model.specs.Kept.Effort.{Effort}
use Rattle.lc_model.specs.Kept.Summary.{tallied, watch_result, AppState}
use Rattle.lc_model.specs.Kept.Call.{ServicesNow}
use Rattle.lc_model.specs.Kept.Executive.{Member}
use Rattle.lc_model.specs.Kept.GoesWith.{IsFoundSound, IsJudged, GoesWith}
use Rattle.lc_model.specs.Laws.Correspondence.{BothOrNone, IsFound, WaitingAlike, SlotAlike}
use Rattle.host_refinement.specs.Keeping.{App, LimitChecker, Scheduler, Counter, holds, times, seat_with, standing_of, runs_in, numbers_of, state_in}
use Rattle.host_refinement.specs.Statements.{IsOne, IsWhole, SeatsGoWith}
use Rattle.host_refinement.proofs.Steps.{by_lc, by_sch, by_counter}
use Rattle.host_refinement.proofs.Places.{holds_own}

-- ---- who has a seat runs

no_more_behind : (test : Bool) (n : ℕ) → (if test then suc n else n) ≡ 0 → n ≡ 0
no_more_behind true n e = absurd (omega (arith, e))
no_more_behind false n e = e

all_seats : (P : AppState → Type 0) (runs : App → Bool) (states : App → AppState) (order : List (Option App)) →
    ((app : App) → IsFalse (runs app) → times app order ≡ 0) → ((app : App) → IsTrue (runs app) → P (states app)) →
    AllByRecursion (λ seat. IfSome seat (λ (member : Member). P member.state)) (map (seat_with states) order)
unfolding times
all_seats P runs states [] none each = tt
all_seats P runs states (None ∷ order) none each =
    (tt, all_seats P runs states order (λ app idle. no_more_behind (holds app None) (times app order) (none app idle)) each)
all_seats P runs states (Some app ∷ order) none each = (
  by_test (runs app) refl,
  all_seats P runs states order (λ other idle. no_more_behind (holds other (Some app)) (times other order) (none other idle)) each,
)
  where
    by_test : (test : Bool) → runs app ≡ test → P (states app)
    by_test true e = each app e
    by_test false e =
        let one : suc (times app order) ≡ 0 = sym (ap (λ b. if b then suc (times app order) else times app order) (holds_own app)) ∙ none app e in
        absurd (omega (arith, one))

-- ---- the numbers of a world

as_many : (rules : List Actionpoint) (points : List (Point Past)) → length points ≡ length rules → length (tallied rules points) ≡ length rules
as_many [] points many = refl
as_many (rule ∷ rules) [] many = absurd (omega (arith, many))
as_many (rule ∷ rules) (point ∷ points) many = ap suc (as_many rules points (omega (arith, many)))

module _ {Image : Type 0} (images : Interpretation Image) (IsFine : Image → Type 0) (schedule : Schedule) where
  judged_of : (kind : Kind) (slot : Slot Image) → SlotAlike (IsOne images IsFine) images images kind slot slot → IsJudged images kind slot
  judged_of kind slot h = record { active = by_active slot.active h.active; waiting = by_waiting slot.waiting h.waiting }
    where
      by_active : (o : Option Image) → BothOrNone (λ x y. IsOne images IsFine x y × (images.fault_of kind x ≡ None)) o o → IfSome o (λ image. images.fault_of kind image ≡ None)
      by_active None h = tt
      by_active (Some image) h = h.1

      by_stage : (stage : Stage) (image : Image) → IsFound (IsOne images IsFine) images images kind stage image → IsFoundSound images kind stage image
      by_stage Loaded image h = tt
      by_stage Asked image h = tt
      by_stage Valid image h = h
      by_stage Activated image h = h

      by_waiting : (o : Option (Waiting Image)) → BothOrNone (WaitingAlike (IsOne images IsFine) images images kind) o o → IfSome o (λ (waiting : Waiting Image). IsFoundSound images kind waiting.stage waiting.image)
      by_waiting None h = tt
      by_waiting (Some waiting) h = by_stage waiting.stage waiting.image h.sound

  abbrev Goes : App → World Image → Type 0
  Goes app w = (effort : Effort) → IsSchedule schedule → IsWhole images IsFine w → IsTrue (runs_in (standing_of w) app) → GoesWith images (state_in images schedule (numbers_of images schedule effort w) app) (numbers_of images schedule effort w).services

  goes : (app : App) (w : World Image) → Goes app w
  goes LimitChecker = by_lc (Goes LimitChecker) (λ w spares effort fits whole runs. absurd (true≢false (sym runs)))
      (λ w spares r effort fits whole runs. record {
        wdt = refl;
        adt = refl;
        terms = refl;
        rules = refl;
        in_step = record {
          results = length-map (option_map_or images.terms (in_force images r.state) []) (watch_result r.state.watch);
          points = as_many (option_map_or images.rules (in_force images r.state) []) r.state.points whole.settled;
          wdt = judged_of Wdt r.state.wdt whole.images_fit.lc.wdt;
          adt = judged_of Adt r.state.adt whole.images_fit.lc.adt;
        };
        sender = refl;
      })
  goes Scheduler = by_sch (Goes Scheduler) (λ w spares effort fits whole runs. absurd (true≢false (sym runs)))
      (λ w spares r effort fits whole runs. record { schedule_fits = fits; inside = (let some : 1 ≤ length schedule = fits.some in mod-lt r.state (omega (arith, some))); sender = refl })
  goes Counter = by_counter (Goes Counter) (λ w spares effort fits whole runs. absurd (true≢false (sym runs))) (λ w spares r effort fits whole runs. refl)

  pub seats_go_with : SeatsGoWith images IsFine schedule
  seats_go_with w e fits k whole =
      let seats : AllByRecursion (λ seat. IfSome seat (λ (member : Member). GoesWith images member.state (numbers_of images schedule k.effort w).services)) (map (seat_with (state_in images schedule (numbers_of images schedule k.effort w))) k.order) =
      all_seats (λ state. GoesWith images state (numbers_of images schedule k.effort w).services) (runs_in (standing_of w)) (state_in images schedule (numbers_of images schedule k.effort w)) k.order
      (λ app idle. k.seated.placed app ∙ ap (λ b. if b then 1 else 0) idle) (λ app runs. goes app w k.effort fits whole runs) in
      subst (λ (services : ServicesNow Image). AllByRecursion (λ seat. IfSome seat (λ (member : Member). GoesWith images member.state services)) e.seats) (sym k.services)
      (subst (AllByRecursion (λ seat. IfSome seat (λ (member : Member). GoesWith images member.state (numbers_of images schedule k.effort w).services))) (sym k.seats) seats)
