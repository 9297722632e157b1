-- Those so far, and those among the rest, are all that aren't met.
use Rattle.std.proofs.Common.{◌≡◌, ◌++◌, drop}
use Rattle.scenario_trial.specs.Judged.{unmet_of}
use Rattle.scenario_trial.proofs.verdict.unmet_of.Given as goal

abbrev pub invariant-loop-one : goal.invariant-loop-one
invariant-loop-one l = l.unmet.items ++ unmet_of l.came (drop l.one-index l.judged) ≡ unmet_of l.came l.judged
