use Rattle.std.proofs.Common.{◌≡◌, ◌++◌, take, drop, map}
use Rattle.run_account.specs.Repeats.{lane_in}
use Rattle.run_account.proofs.repeats.Repeats.count_lanes.Given as goal

abbrev pub invariant-loop-lane : goal.invariant-loop-lane
invariant-loop-lane l = take l.lane-index l.lanes ++ map (lane_in l.self l.results) (drop l.lane-index l.lanes) ≡ map (lane_in l.self l.results) l.initial.lanes
