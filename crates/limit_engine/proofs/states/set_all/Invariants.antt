use Rattle.std.proofs.Common.{◌≡◌, ◌++◌, take, drop}
use Rattle.lc_model.specs.LimitChecker.Steps.{all_set}
use Rattle.limit_engine.proofs.states.set_all.Given as goal

abbrev pub invariant-loop-point : goal.invariant-loop-point
invariant-loop-point l =
    take l.point-index l.points ++ all_set l.state (drop l.point-index l.points) ≡ all_set l.state l.initial.points
