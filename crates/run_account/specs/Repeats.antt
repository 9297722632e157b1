-- Samples in a row that led to the same results are noted together, and counted later. This project's own.
use Rattle.std.specs.Prelude.{◌≡◌, ◌⊎◌, ℕ, zero, suc, ◌-◌, ◌<◌, ◌&&◌, not, nat_lt, Bool, true, List, map, slice_get, is_some, Option, Some, None, if◌then◌else◌}
use Rattle.lc_model.specs.declared.command.SampleRequest.{SampleRequest}
use Rattle.lc_model.specs.declared.mode.ApResult.{ApResult}
use Rattle.lc_model.specs.Kept.Summary.{LcOwn}
use Rattle.std.specs.List.{AllByRecursion}
use Rattle.std.specs.Option.{option_flatten}
use Rattle.flight_core.specs.Records.{most_counted}
use Rattle.run_account.specs.Clock.{capped}
use Rattle.run_account.specs.Counts.{row_with}
use Rattle.run_account.specs.Lanes.{over}
use Rattle.run_account.specs.Samples.{result_of}
use Rattle.run_account.specs.declared.clock.RunClock.{RunClock}
use Rattle.run_account.specs.declared.counts.RuleRow.{RuleRow}
use Rattle.run_account.specs.declared.lanes.Lane.{Lane}
use Rattle.run_account.specs.declared.repeats.Repeats.{Repeats}

-- the result of a rule in a list of results; none if the list ends before it
abbrev pub found_at : List (Option ApResult) → ℕ → Option ApResult
found_at results rule = option_flatten (slice_get results rule)

-- the list has the result of each rule that these requests led to, and of no other
abbrev pub AreAllResults : List SampleRequest → Option LcOwn → List (Option ApResult) → Type 0
AreAllResults requests checker results = (rule : ℕ) → found_at results rule ≡ result_of requests checker rule

-- a rule's row and a lane after samples that were noted: none, or some with these results, the last of them at this time
abbrev pub row_by : ℕ → Option ℕ → List (Option ApResult) → RuleRow → RuleRow
row_by zero force results row = row
row_by (suc n) force results row = row_with (suc n) force (found_at results row.rule) row

abbrev pub lane_by : ℕ → (last allowed : ℕ) → List (Option ApResult) → Lane → Lane
lane_by zero last allowed results lane = lane
lane_by (suc n) last allowed results lane =
    if is_some (found_at results lane.rule) then record lane { last = last; allowed = allowed; unsampled = capped lane.unsampled } else lane

-- the same after the samples that these repeats note
abbrev pub row_in : Repeats → List (Option ApResult) → RuleRow → RuleRow
row_in repeats results row = row_by repeats.count repeats.force results row

abbrev pub lane_in : Repeats → List (Option ApResult) → Lane → Lane
lane_in repeats results lane = lane_by repeats.count repeats.last repeats.allowed results lane

-- no sample is noted
abbrev pub none_noted : Repeats
none_noted = record { count = 0; force = None; last = 0; allowed = 0 }

-- whether the rule of a lane has no result, or its sample at this time is not late
abbrev pub is_in_time : List (Option ApResult) → RunClock → Lane → Bool
is_in_time results clock lane = not (is_some (found_at results lane.rule) && nat_lt lane.allowed (clock.passed - lane.last))

-- at this time no sample of a lane's rule is late, if the rule has a result
abbrev pub IsOnTime : List (Option ApResult) → RunClock → Lane → Type 0
IsOnTime results clock lane = is_some (found_at results lane.rule) ≡ true → over lane.allowed (clock.passed - lane.last) ≡ 0

-- A sample repeats those before it, which were noted or counted: it has the same results, under tables of the same text, and none is late.
pub record IsRepeat (repeats : Repeats) (results : List (Option ApResult)) (lanes : List Lane) (requests : List SampleRequest) (checker : Option LcOwn) (force : Option ℕ) (clock : RunClock) : Type 0 where
  pub room : repeats.count < most_counted
  pub same : AreAllResults requests checker results
  pub text : (repeats.count ≡ 0) ⊎ (repeats.force ≡ force)
  pub on_time : AllByRecursion (IsOnTime results clock) (map (lane_in repeats results) lanes)
