-- A run with a Limit Checker, a scheduler, a counter and an application of another kind in stock.
use Rattle.std.specs.Prelude.{◌≡◌, ℕ, List, [], ◌∷◌, ◌++◌}
use Rattle.lc_model.specs.Host.Outcome.{Devices, Ending}
use Rattle.lc_model.specs.Host.Promise.{Mission}
use Rattle.lc_model.specs.Host.Schedule.{Schedule}
use Rattle.lc_model.specs.Kept.Summary.{Other}
use Rattle.lc_model.specs.Name.{lc_name, sch_name, counter_name}
use Rattle.app_host.specs.Hosted.{Object, Hosted}
use Rattle.flight_core.specs.Run.{AreThese, IsOfProfile}
use Rattle.flight_core.specs.Steps.{AnswersForItsReason}
use Rattle.flight_profile.specs.Stock.{names_of}

-- an application of another kind came to these, and nothing is known of its state
pub record HasStranger (known all : List Object) : Type 0 where
  pub stranger : Object
  pub are : all ≡ known ++ stranger ∷ []
  pub other : stranger.state ≡ Other

-- three are of this profile, and the fourth is of another kind
pub record AreMixed (schedule : Schedule) (stock : List Object) : Type 0 where
  pub known : List Object
  pub of_profile : IsOfProfile schedule known
  pub names : names_of known ≡ lc_name ∷ sch_name ∷ counter_name ∷ []
  pub fourth : HasStranger known stock

-- the run was a run of these texts, record by record, from a host that began with these four; `IsClosed` holds of the host that is left
pub record RunsMixed (IsClosed : Hosted → Type 0) (sources : List (List ℕ)) (schedule : Schedule) (d : Devices) (ending : Ending) : Type 0 where
  pub stock : List Object
  pub mixed : AreMixed schedule stock
  pub mission : Mission
  pub texts : mission.sources ≡ sources
  pub answers : AnswersForItsReason (AreThese stock) IsClosed mission d ending
