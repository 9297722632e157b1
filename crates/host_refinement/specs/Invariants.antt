-- Laws: what every step keeps of files, subscriptions and names.
use Rattle.std.specs.Prelude.{◌≡◌, ℕ, List, slice_index_or, Option, None, IsTrue, IfSome}
use Rattle.lc_model.specs.declared.record.Moment.{Moment}
use Rattle.lc_model.specs.Name.{Name}
use Rattle.lc_model.specs.Tables.Interpretation.{Interpretation}
use Rattle.lc_model.specs.Host.Schedule.{Schedule}
use Rattle.lc_model.specs.Host.World.{World, IsFileMap}
use Rattle.lc_model.specs.Host.React.{Input}
use Rattle.lc_model.specs.Host.Run.{handled}
use Rattle.lc_model.specs.Kept.Summary.{AppState}
use Rattle.lc_model.specs.Kept.Call.{ServicesNow, Called, next_start, next_on_packet}
use Rattle.lc_model.specs.Kept.Executive.{Member, Executive, is_seated, step_by}
use Rattle.lc_model.specs.Kept.GoesWith.{subscriptions_of}

-- No two seats have objects of the same name.
abbrev pub HaveOwnNames : List (Option Member) → Type 0
HaveOwnNames seats = (name : Name) (j k : ℕ) → IsTrue (is_seated name (slice_index_or seats j None)) → IsTrue (is_seated name (slice_index_or seats k None)) → j ≡ k

module _ {Image : Type 0} (images : Interpretation Image) where
  -- Law: there are at most eight files, each name once, after any input.
  abbrev pub FilesStayAMap : Type 0
  FilesStayAMap = (schedule : Schedule) (moment : Moment) (input : Input Image) (w : World Image) → IsFileMap w.files →
      IsFileMap (handled images schedule moment input w).0.files

  -- After each call the object's pipe has the subscriptions that its state gives.
  pub record SubscriptionsAreTheStates (state : AppState) (services : ServicesNow Image) (moment : Moment) : Type 0 where
    pub start : IfSome (next_start images moment state services) (λ (called : Called Image). called.mids ≡ subscriptions_of called.state)
    pub packet : (packet : List ℕ) → IfSome (next_on_packet images moment state packet services) (λ (called : Called Image). called.mids ≡ subscriptions_of called.state)

  -- Law: after each call of any object its pipe has the subscriptions that its state gives.
  abbrev pub PipesFollowStates : Type 0
  PipesFollowStates = (state : AppState) (services : ServicesNow Image) (moment : Moment) → SubscriptionsAreTheStates state services moment

  -- Law: after each step no two seats have objects of the same name, whatever the objects are.
  abbrev pub NamesStayOwn : Type 0
  NamesStayOwn = (moment : Moment) (e : Executive Image) (input : Input Image) → HaveOwnNames e.seats → HaveOwnNames (step_by images moment e input).0.seats
