-- The parts of the relation between host and world (`KeepsTo`), one by one. This project's own.
use Rattle.std.specs.Prelude.{◌≡◌, ℕ, [], count_by, if◌then◌else◌, IfSome, IsTrue, option_map}
use Rattle.std.specs.List.{AllByRecursion}
use Rattle.lc_model.specs.declared.record.Moment.{Moment}
use Rattle.lc_model.specs.Name.{Name}
use Rattle.lc_model.specs.Tables.Interpretation.{Interpretation}
use Rattle.lc_model.specs.Host.Schedule.{Schedule}
use Rattle.lc_model.specs.Host.World.{World}
use Rattle.lc_model.specs.Host.React.{Input}
use Rattle.lc_model.specs.Host.Run.{handled}
use Rattle.lc_model.specs.Kept.Effort.{Effort}
use Rattle.lc_model.specs.Kept.Summary.{lc_now, counts_of}
use Rattle.lc_model.specs.Kept.Executive.{Member, Pipe, Executive, is_called, is_seated, step_by}
use Rattle.host_refinement.specs.Keeping.{App, name_of, standing_of, state_of, runs_in, spares_in, events_of, slots_in, numbers_of, state_in, KeepsTo}
use Rattle.host_refinement.specs.Statements.{IsShort, IsWhole, IsFineInput}

module _ {Image : Type 0} (images : Interpretation Image) (schedule : Schedule) where
  -- The stored files are the world's.
  abbrev pub HoldsFiles : World Image → Executive Image → Type 0
  HoldsFiles w e = e.services.files ≡ w.files

  -- The slots are those of the running Limit Checker.
  abbrev pub HoldsTables : World Image → Executive Image → Type 0
  HoldsTables w e = (name : Name) → e.services.slots name ≡ slots_in images schedule (option_map (lc_now images) (state_of w.lc)) name

  -- The senders are the world's, each with the types and filters that its log gives.
  abbrev pub HoldsFilters : World Image → Executive Image → Type 0
  HoldsFilters w e = (name : Name) → e.services.events name ≡ events_of w name

  -- The sequence counts are those of the packets that the world has sent.
  abbrev pub HoldsCounts : World Image → Executive Image → Type 0
  HoldsCounts w e = (mid : ℕ) → e.services.counts mid ≡ counts_of w.sent mid

  -- Each application that runs in the world has exactly one seat, any other none.
  abbrev pub RunsOnOneSeat : World Image → Executive Image → Type 0
  RunsOnOneSeat w e = (app : App) → count_by (is_seated (name_of app)) e.seats ≡ (if runs_in (standing_of w) app then 1 else 0)

  -- The object has the state that the world gives for its name, with this effort.
  abbrev pub IsInState : World Image → Effort → Member → Type 0
  IsInState w effort member = (app : App) → IsTrue (is_called (name_of app) member) → member.state ≡ state_in images schedule (numbers_of images schedule effort w) app

  -- Each object on a seat has the state that the world gives, with some effort.
  pub record HasStates (w : World Image) (e : Executive Image) : Type 0 where
    pub effort : Effort
    pub states : AllByRecursion (λ seat. IfSome seat (IsInState w effort)) e.seats

  -- The stock has as many objects of each name as the world has spares.
  abbrev pub HasSpares : World Image → Executive Image → Type 0
  HasSpares w e = (app : App) → count_by (is_called (name_of app)) e.stock ≡ spares_in (standing_of w) app

  -- No packet waits.
  abbrev pub PipesAreEmpty : World Image → Executive Image → Type 0
  PipesAreEmpty w e = AllByRecursion (λ pipe. IfSome pipe (λ (p : Pipe). p.waiting ≡ [])) e.pipes

  -- Law: the part holds after each record, if the whole relation held before it.
  abbrev pub IsKept : (Image → Type 0) → (World Image → Executive Image → Type 0) → Type 0
  IsKept IsFine Part = (moment : Moment) (w : World Image) (e : Executive Image) (input : Input Image) →
      IsShort schedule → KeepsTo images schedule w e → IsWhole images IsFine w → IsFineInput images IsFine input →
      Part (handled images schedule moment input w).0 (step_by images moment e input).0
