-- What is expected of a run, and whether that came. This project's own.
use Rattle.std.specs.Prelude.{ℕ, ◌&&◌, ◌==◌, Bool, true, false, not, List, filter, nat_le, Option, Some, None}
use Rattle.std.specs.List.{list_any}
use Rattle.lc_model.specs.Codes.{result_code, state_code}
use Rattle.lc_model.specs.declared.mode.ApMode.{ApMode}
use Rattle.lc_model.specs.declared.mode.ApResult.{ApResult}
use Rattle.scenario_trial.specs.declared.expectation.Arrival.{Arrival}
use Rattle.scenario_trial.specs.declared.expectation.Span.{Span}
use Rattle.scenario_trial.specs.declared.expectation.ArrivalKind.{ArrivalKind}
use Rattle.scenario_trial.specs.declared.expectation.ArrivalKind.TheVariants.{Sequence, Event, HostEvent}
use Rattle.scenario_trial.specs.declared.expectation.What.{What}
use Rattle.run_stepper.specs.declared.standing.RuleStanding.{RuleStanding}
use Rattle.run_stepper.specs.declared.standing.RuleStanding.TheVariants.{Stands}
use Rattle.scenario_trial.specs.declared.verdict.Judged.{Judged}
use Rattle.scenario_trial.specs.Expected.{Absent, Comes, Expected, LastResult, State, expected_of}

-- the number that is asked for, or any where none is
abbrev pub is_number : Option ℕ → ℕ → Bool
is_number (Some asked) number = asked == number
is_number None number = true

-- the number of a kind: a request, an event of the Limit Checker, or one of the host
abbrev pub kind_number : ArrivalKind → ℕ
kind_number Sequence = 0
kind_number Event = 1
kind_number HostEvent = 2

-- whether it is this that came
abbrev pub is_what : What → Arrival → Bool
is_what what came = kind_number what.kind == kind_number came.kind && is_number what.number came.number

-- one of these seconds
abbrev pub is_within : Span → ℕ → Bool
is_within span second = nat_le span.first second && nat_le second span.last

-- some of this came within these seconds
abbrev pub has_come : What → Span → List Arrival → Bool
has_come what span came = list_any (λ one. is_what what one && is_within span one.second) came

-- ---- whether an expectation is met, by what came and what was found of its rule

-- the rule is in this state
abbrev pub is_in_state : ApMode → RuleStanding → Bool
is_in_state state (Stands there last) = state_code there == state_code state
is_in_state state found = false

-- its last result is this one
abbrev pub has_result : Option ApResult → RuleStanding → Bool
has_result last (Stands state there) = result_code there == result_code last
has_result last found = false

abbrev pub is_met : List Arrival → RuleStanding → Expected → Bool
is_met came found (Comes coming) = has_come coming.what coming.span came
is_met came found (Absent coming) = not (has_come coming.what coming.span came)
is_met came found (State rule state) = is_in_state state found
is_met came found (LastResult rule last) = has_result last found

abbrev pub is_unmet : List Arrival → Judged → Bool
is_unmet came judged = not (is_met came judged.found (expected_of judged.placed.expectation))

-- those that aren't met, in order
abbrev pub unmet_of : List Arrival → List Judged → List Judged
unmet_of came judged = filter (is_unmet came) judged
