-- What a run promises with two Limit Checkers, a scheduler and a counter in stock.
use Rattle.std.specs.Prelude.{ℕ, List, [], ◌∷◌, map}
use Rattle.lc_model.specs.Name.{Name, lc_name, sch_name, counter_name}
use Rattle.lc_model.specs.Tables.InForce.{edition}
use Rattle.lc_model.specs.Host.Outcome.{Devices, Ending}
use Rattle.lc_model.specs.Host.Promise.{Mission, WritesWhatIsCalledFor}
use Rattle.lc_model.specs.Host.Schedule.{Schedule}
use Rattle.app_host.specs.Hosted.{Object}
use Rattle.flight_core.specs.Failures.{TellsFailures}
use Rattle.flight_core.specs.Fitting.{RefusesUnfitAlone}

-- the names of some objects
abbrev pub names_of : List Object → List Name
names_of stock = map (λ (o : Object). o.called) stock

-- two Limit Checkers, a scheduler and a counter
abbrev pub names : List Name
names = lc_name ∷ lc_name ∷ sch_name ∷ counter_name ∷ []

-- these texts with this schedule, and that stock
abbrev pub mission : List (List ℕ) → Schedule → Mission
mission sources schedule = record { edition = edition; sources = sources; schedule = schedule; stock = names; most_reads = 4_294_967_296 }

-- three of the promises of `run`, of that mission
pub record KeepsItsPromises (sources : List (List ℕ)) (schedule : Schedule) (d : Devices) (ending : Ending) : Type 0 where
  pub by_texts : WritesWhatIsCalledFor (mission sources schedule) d ending
  pub failures : TellsFailures (mission sources schedule).most_reads d ending
  pub refuses : RefusesUnfitAlone sources d ending
