-- The time in which a rule was not sampled though the schedule asks for it. This project's own.
use Rattle.std.specs.Prelude.{ℕ, ◌*◌, ◌-◌, ◌||◌, Bool, false, List, [], ◌∷◌, is_some, length, map, nat_lt, Option, if◌then◌else◌}
use Rattle.lc_model.specs.declared.command.SampleRequest.{SampleRequest}
use Rattle.lc_model.specs.Host.Schedule.{Schedule}
use Rattle.lc_model.specs.Kept.Summary.{LcOwn}
use Rattle.run_account.specs.Clock.{add, capped, second}
use Rattle.run_account.specs.Samples.{are_taking, entry_requests, result_of}
use Rattle.run_account.specs.declared.clock.RunClock.{RunClock}
use Rattle.run_account.specs.declared.lanes.Lane.{Lane}

-- two cycles of a schedule with this number of slots, where a tick lasts so long: a gap between samples that lasts longer is late
abbrev pub two_cycles : (slots tick : ℕ) → ℕ
two_cycles slots tick = capped (tick * (2 * slots))

-- a gap counts if it is late
abbrev pub over : (allowed gap : ℕ) → ℕ
over allowed gap = if nat_lt allowed gap then gap else 0

-- the time in late gaps, the one after the last sample among them
abbrev pub unsampled_at : RunClock → Lane → ℕ
unsampled_at clock lane = add lane.unsampled (over lane.allowed (clock.passed - lane.last))

-- a lane after a sample at this time, after which a gap that lasts longer than `allowed` is late
abbrev pub lane_after : (allowed : ℕ) → RunClock → Lane → Lane
lane_after allowed clock lane = record lane { last = clock.passed; allowed = allowed; unsampled = unsampled_at clock lane }

-- a lane after a sample at this time
abbrev pub lane_at : (slots : ℕ) → RunClock → Lane → Lane
lane_at slots clock lane = lane_after (two_cycles slots clock.tick) clock lane

-- a slot of the schedule samples the rule with this number
abbrev pub is_scheduled : Schedule → ℕ → Bool
is_scheduled [] rule = false
is_scheduled (slot ∷ slots) rule = are_taking (entry_requests slot) rule || is_scheduled slots rule

-- a rule's lane before the first record: a tick is a second until two have come
abbrev pub new_lane : Schedule → Lane → Lane
new_lane all lane = record lane { is_scheduled = is_scheduled all lane.rule; last = 0; allowed = two_cycles (length all) second; unsampled = 0 }

-- the numbers of the rules of these lanes
abbrev pub rules_of : List Lane → List ℕ
rules_of lanes = map (λ (lane : Lane). lane.rule) lanes

-- a lane after a record, if these requests led to a sample of its rule
abbrev pub lane_with : (slots : ℕ) → RunClock → List SampleRequest → Option LcOwn → Lane → Lane
lane_with slots clock requests checker lane = if is_some (result_of requests checker lane.rule) then lane_at slots clock lane else lane
