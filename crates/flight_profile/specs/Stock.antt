-- The stock of a run, and the mission with it.
use Rattle.std.specs.Prelude.{◌≡◌, ℕ, List, [], ◌∷◌, map}
use Rattle.std.specs.List.{AllByRecursion}
use Rattle.std.specs.Borrow.{Bor}
use Rattle.lc_model.specs.Name.{Name, lc_name, sch_name, counter_name}
use Rattle.lc_model.specs.Host.Schedule.{Schedule}
use Rattle.lc_model.specs.Host.Promise.{Mission}
use Rattle.lc_model.specs.Kept.Executive.{Member}
use Rattle.lc_model.specs.Tables.HalvesAndBytes.{as_bytes}
use Rattle.lc_model.specs.Tables.InForce.{edition, layouts}
use Rattle.host_refinement.specs.Keeping.{IsSpare}
use Rattle.app_host.specs.Hosted.{Object}
use Rattle.flight_core.specs.Compiled.{sources_of}

-- The names of these objects.
abbrev pub names_of : List Object → List Name
names_of stock = map (λ (o : Object). o.called) stock

-- Four Limit Checkers, two schedulers and two counters.
abbrev pub own_names : List Name
own_names = lc_name ∷ lc_name ∷ lc_name ∷ lc_name ∷ sch_name ∷ sch_name ∷ counter_name ∷ counter_name ∷ []

-- Four Limit Checkers, two schedulers with this schedule and two counters, each under its name.
abbrev pub AreOwn : Schedule → List Member → Type 0
AreOwn schedule members = AllByRecursion (IsSpare (as_bytes layouts) schedule) members × (map (λ (member : Member). member.called) members ≡ own_names)

-- The most reads of a run: 2 ^ 32.
abbrev pub most_reads : ℕ
most_reads = 4_294_967_296

-- The mission of this stock, these texts and this schedule.
abbrev pub own_mission : List (Bor (List ℕ)) → Schedule → Mission
own_mission texts schedule = record {
  edition = edition;
  sources = sources_of texts;
  schedule = schedule;
  stock = own_names;
  most_reads = most_reads;
}
