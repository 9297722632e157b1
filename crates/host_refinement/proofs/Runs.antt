-- Whole runs: how it begins, and one record after the other.
use Rattle.std.proofs.Common.{◌≡◌, ◌+◌, Bool, true, false, cond, List, [], ◌∷◌, ◌++◌, map, count_by, refl, ap, ap₂, sym, ◌∙◌, Some, None, option_map, if◌then◌else◌}
use Rattle.std.proofs.lemmas.List.Sums.{sum_by-cons}
use Rattle.lc_model.specs.declared.record.Moment.{Moment}
use Rattle.lc_model.specs.Name.{Name, is_named, host_name, lc_name, sch_name, counter_name}
use Rattle.lc_model.specs.Tables.Interpretation.{Interpretation, FileMeanings}
use Rattle.lc_model.specs.Host.Schedule.{Schedule}
use Rattle.lc_model.specs.Host.Stream.{StreamEntry}
use Rattle.lc_model.specs.Host.World.{World, first_world}
use Rattle.lc_model.specs.Host.React.{Input}
use Rattle.lc_model.specs.Host.Run.{handled, input_of, sent_from}
use Rattle.lc_model.specs.Kept.Effort.{no_effort}
use Rattle.lc_model.specs.Kept.Summary.{event_state}
use Rattle.lc_model.specs.Kept.Call.{new_sender}
use Rattle.lc_model.specs.Kept.Executive.{Member, Executive, is_called, step_by, written_from}
use Rattle.lc_model.specs.Laws.Correspondence.{Agrees}
use Rattle.host_refinement.specs.Keeping.{App, LimitChecker, Scheduler, Counter, name_of, times, standing_of, runs_in, spares_in, KeepsTo}
use Rattle.host_refinement.specs.Statements.{IsOne, PairsAreSensible, IsWhole, IsShort, IsFineInput, AreFineInputs, BeginsSo}
use Rattle.host_refinement.proofs.Records.{Together, record_kept}

-- as many objects of a name as names
counted : (name : Name) (stock : List Member) → count_by (is_named name) (map (λ (m : Member). m.called) stock) ≡ count_by (is_called name) stock
counted name [] = refl
counted name (m ∷ stock) =
    sum_by-cons (λ other. cond (is_named name other) 1 0) m.called (map (λ (m : Member). m.called) stock)
    ∙ ap (λ n. cond (is_called name m) 1 0 + n) (counted name stock) ∙ sym (sum_by-cons (λ other. cond (is_called name other) 1 0) m stock)

no_times : (app : App) → times app (None ∷ None ∷ None ∷ None ∷ None ∷ None ∷ None ∷ None ∷ []) ≡ 0
unfolding times
no_times LimitChecker = refl
no_times Scheduler = refl
no_times Counter = refl

module _ {Image : Type 0} (images : Interpretation Image) (IsFine : Image → Type 0) (schedule : Schedule) where
  pub begins_so : BeginsSo images IsFine schedule
  begins_so stock profile = (
    record {
      order = None ∷ None ∷ None ∷ None ∷ None ∷ None ∷ None ∷ None ∷ [];
      effort = no_effort;
      seated = record { eight = refl; placed = placed; profile = profile; spares = spares };
      seats = refl;
      pipes = refl;
      services = λ i. record { files = []; slots = λ name. None; events = λ name. host_alone (is_named name host_name) (is_named name lc_name) (is_named name sch_name) (is_named name counter_name) i; counts = λ mid. 0 };
    },
    record {
      images_fit = record { files = tt; host = refl; lc = tt; lc_spares = refl; sch = refl; counter = refl; sent = refl };
      settled = tt;
    },
  )
    where
      placed : (app : App) → times app (None ∷ None ∷ None ∷ None ∷ None ∷ None ∷ None ∷ None ∷ []) ≡ (if runs_in (standing_of (let w : World Image = first_world (map (λ (m : Member). m.called) stock) in w)) app then 1 else 0)
      placed LimitChecker = no_times LimitChecker
      placed Scheduler = no_times Scheduler
      placed Counter = no_times Counter

      spares : (app : App) → spares_in (standing_of (let w : World Image = first_world (map (λ (m : Member). m.called) stock) in w)) app ≡ count_by (is_called (name_of app)) stock
      spares LimitChecker = counted lc_name stock
      spares Scheduler = counted sch_name stock
      spares Counter = counted counter_name stock

      host_alone : (a b c d : Bool) → (if a then Some new_sender else None) ≡ option_map event_state (if a then Some [] else if b then None else if c then None else if d then None else None)
      host_alone true b c d = refl
      host_alone false true c d = refl
      host_alone false false true d = refl
      host_alone false false false true = refl
      host_alone false false false false = refl

  module _ (agree : Agrees (IsOne images IsFine) images images) (pairs : PairsAreSensible images IsFine)
      (stays : (moment : Moment) (w : World Image) (input : Input Image) → IsWhole images IsFine w → IsFineInput images IsFine input → IsWhole images IsFine (handled images schedule moment input w).0) where
    -- host and world send the same packets over all records
    pub runs_alike : (meanings : FileMeanings Image) (entries : List StreamEntry) (w : World Image) (e : Executive Image) → IsShort schedule → KeepsTo images schedule w e → IsWhole images IsFine w →
        AreFineInputs images IsFine schedule meanings entries → written_from images e meanings entries ≡ sent_from images schedule w meanings entries
    unfolding written_from
    runs_alike meanings [] w e short k whole fine = refl
    runs_alike meanings (entry ∷ entries) w e short k whole fine =
        let input : Input Image = input_of meanings entry.contents in
        let now : Together images IsFine schedule agree pairs (step_by images entry.moment e input) (handled images schedule entry.moment input w) =
        record_kept images IsFine schedule agree pairs entry.moment w e input short k whole in
        ap₂ (λ a b. a ++ b) now.packets
        (runs_alike meanings entries (handled images schedule entry.moment input w).0 (step_by images entry.moment e input).0 short now.keeps (stays entry.moment w input whole fine.0) fine.1)
