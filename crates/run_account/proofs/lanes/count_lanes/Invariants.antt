use Rattle.std.proofs.Common.{◌≡◌, ◌++◌, take, drop, length, map, option_map}
use Rattle.run_account.specs.Lanes.{lane_with}
use Rattle.run_account.specs.Samples.{requests_of}
use Rattle.run_account.proofs.lanes.count_lanes.Given as goal

abbrev pub invariant-loop-lane : goal.invariant-loop-lane
invariant-loop-lane l =
    take l.lane-index l.lanes ++ map (lane_with (length l.schedule) l.clock (requests_of l.requests) (option_map (λ engine. engine.now) l.engine)) (drop l.lane-index l.lanes)
    ≡ map (lane_with (length l.schedule) l.clock (requests_of l.requests) (option_map (λ engine. engine.now) l.engine)) l.initial.lanes
