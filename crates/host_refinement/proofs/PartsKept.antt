-- What keeps to a world has each of its parts.
use Rattle.std.proofs.Common.{◌≡◌, ℕ, zero, suc, ◌+◌, Bool, true, false, List, [], ◌∷◌, map, length, count_by, cond, arith, refl, ap, sym, ◌∙◌, subst, Option, Some, None, option_map, if◌then◌else◌, IsTrue}
use Rattle.std.specs.Prelude.{IfSome}
use Rattle.std.proofs.lemmas.List.Sums.{sum_by-cons}
use Rattle.std.specs.List.{AllByRecursion}
use Rattle.lc_model.specs.Tables.Interpretation.{Interpretation}
use Rattle.lc_model.specs.Host.Schedule.{Schedule}
use Rattle.lc_model.specs.Host.World.{World}
use Rattle.lc_model.specs.Kept.Summary.{AppState}
use Rattle.lc_model.specs.Kept.Executive.{Member, Pipe, Executive, is_called, is_seated}
use Rattle.host_refinement.specs.Keeping.{App, LimitChecker, Scheduler, Counter, name_of, holds, times, no_packets, Queues, seat_with, pipe_with, standing_of, numbers_of, state_in, subscriptions_in, KeepsTo}
use Rattle.host_refinement.specs.Parts.{HoldsFiles, HoldsTables, HoldsFilters, HoldsCounts, RunsOnOneSeat, IsInState, HasStates, HasSpares, PipesAreEmpty, IsKept}
use Rattle.host_refinement.specs.Statements.{EachRecordKeeps}

-- a seat is an application's by the name of the object on it
named_seat : (states : App → AppState) (app : App) (seat : Option App) → is_seated (name_of app) (seat_with states seat) ≡ holds app seat
named_seat states LimitChecker None = refl
named_seat states Scheduler None = refl
named_seat states Counter None = refl
named_seat states LimitChecker (Some LimitChecker) = refl
named_seat states LimitChecker (Some Scheduler) = refl
named_seat states LimitChecker (Some Counter) = refl
named_seat states Scheduler (Some LimitChecker) = refl
named_seat states Scheduler (Some Scheduler) = refl
named_seat states Scheduler (Some Counter) = refl
named_seat states Counter (Some LimitChecker) = refl
named_seat states Counter (Some Scheduler) = refl
named_seat states Counter (Some Counter) = refl

counted : (states : App → AppState) (app : App) (order : List (Option App)) → count_by (is_seated (name_of app)) (map (seat_with states) order) ≡ times app order
unfolding times
counted states app [] = refl
counted states app (seat ∷ order) =
    sum_by-cons (λ (other : Option Member). cond (is_seated (name_of app) other) 1 0) (seat_with states seat) (map (seat_with states) order)
    ∙ ap (λ b. (if b then 1 else 0) + count_by (is_seated (name_of app)) (map (seat_with states) order)) (named_seat states app seat)
    ∙ ap (λ n. (if holds app seat then 1 else 0) + n) (counted states app order)
    ∙ one_more (holds app seat)
  where
    one_more : (b : Bool) → (if b then 1 else 0) + times app order ≡ (if b then suc (times app order) else times app order)
    one_more true = omega arith
    one_more false = omega arith

module _ {Image : Type 0} (images : Interpretation Image) (schedule : Schedule) (w : World Image) (e : Executive Image) (keeps : KeepsTo images schedule w e) where
  pub files : HoldsFiles images schedule w e
  files = ap (λ s. s.files) keeps.services

  pub tables : HoldsTables images schedule w e
  tables name = ap (λ s. s.slots name) keeps.services

  pub filters : HoldsFilters images schedule w e
  filters name = ap (λ s. s.events name) keeps.services

  pub counts : HoldsCounts images schedule w e
  counts mid = ap (λ s. s.counts mid) keeps.services

  pub seats : RunsOnOneSeat images schedule w e
  seats app =
      ap (count_by (is_seated (name_of app))) keeps.seats
      ∙ counted (state_in images schedule (numbers_of images schedule keeps.effort w)) app keeps.order
      ∙ keeps.seated.placed app

  pub spares : HasSpares images schedule w e
  spares app = sym (keeps.seated.spares app)

  in_state : (app : App) → IsInState images schedule w keeps.effort (record { called = name_of app; state = state_in images schedule (numbers_of images schedule keeps.effort w) app })
  in_state LimitChecker LimitChecker called = refl
  in_state LimitChecker Scheduler called = absurd (cc called)
  in_state LimitChecker Counter called = absurd (cc called)
  in_state Scheduler LimitChecker called = absurd (cc called)
  in_state Scheduler Scheduler called = refl
  in_state Scheduler Counter called = absurd (cc called)
  in_state Counter LimitChecker called = absurd (cc called)
  in_state Counter Scheduler called = absurd (cc called)
  in_state Counter Counter called = refl

  all_in_states : (order : List (Option App)) →
      AllByRecursion (λ seat. IfSome seat (IsInState images schedule w keeps.effort)) (map (seat_with (state_in images schedule (numbers_of images schedule keeps.effort w))) order)
  all_in_states [] = tt
  all_in_states (None ∷ order) = (tt, all_in_states order)
  all_in_states (Some app ∷ order) = (in_state app, all_in_states order)

  pub states : HasStates images schedule w e
  states = record {
    effort = keeps.effort;
    states = subst (AllByRecursion (λ seat. IfSome seat (IsInState images schedule w keeps.effort))) (sym keeps.seats) (all_in_states keeps.order);
  }

  all_empty : (subscriptions : App → List ℕ) (order : List (Option App)) → AllByRecursion (λ pipe. IfSome pipe (λ (p : Pipe). p.waiting ≡ [])) (map (pipe_with subscriptions no_packets) order)
  all_empty subscriptions [] = tt
  all_empty subscriptions (None ∷ order) = (tt, all_empty subscriptions order)
  all_empty subscriptions (Some app ∷ order) = (refl, all_empty subscriptions order)

  pub pipes : PipesAreEmpty images schedule w e
  pipes = subst (AllByRecursion (λ pipe. IfSome pipe (λ (p : Pipe). p.waiting ≡ []))) (sym keeps.pipes) (all_empty (subscriptions_in images schedule (numbers_of images schedule keeps.effort w)) keeps.order)

-- what all that keeps to a world has, each record keeps
pub kept : {Image : Type 0} (images : Interpretation Image) (IsFine : Image → Type 0) (schedule : Schedule) (Part : World Image → Executive Image → Type 0) →
    EachRecordKeeps images IsFine schedule → ((w : World Image) (e : Executive Image) → KeepsTo images schedule w e → Part w e) → IsKept images schedule IsFine Part
kept images IsFine schedule Part keeps part moment w e input short before whole fine =
    let now = keeps moment w e input short before whole fine in part _ _ now.keeps
