-- What the lines of a script find at which a run is probed. This project's own.
use Rattle.std.specs.Prelude.{◌≡◌, ℕ, ◌+◌, ◌-◌, ◌<◌, ◌≤◌, Bool, true, List, [], ◌∷◌, length, nat_lt, slice_index, Option, Some, None, ⊤, if◌then◌else◌}
use Rattle.app_host.specs.Delivered.{executive_in}
use Rattle.flight_core.specs.Feeding.{Feeding}
use Rattle.flight_profile.specs.Force.{text_in_force}
use Rattle.scenarios.specs.Declarations.{Declarations}
use Rattle.scenarios.specs.declared.force.ForceChange.{ForceChange}
use Rattle.run_stepper.specs.Trace.{engine_in, size_in_front}
use Rattle.scenario_trial.specs.declared.expectation_lines.Placed.{Placed}
use Rattle.scenario_trial.specs.declared.probe.Finding.{Finding}
use Rattle.scenario_trial.specs.declared.verdict.Judged.{Judged}
use Rattle.scenario_trial.specs.Arrivals.{rule_in, standing_named}
use Rattle.scenario_trial.specs.Expected.{expected_of}
use Rattle.scenario_trial.specs.ProbedLine.{ProbedLine}

-- ---- findings

-- the text in force on a host, and how the rule stands that a line names
abbrev pub finding_of : Declarations → Feeding → ProbedLine → Finding
finding_of declared now line =
    let force : Option ℕ = text_in_force now.files (executive_in now.host) in
    record { force = force; standing = standing_named declared force (engine_in (executive_in now.host).seats) line.rule }

-- a place is before this one, if there is one
abbrev pub is_before : Option ℕ → ℕ → Bool
is_before None place = true
is_before (Some end) place = nat_lt place end

-- the first of these lines, if it is before this place
abbrev pub next_before : Option ℕ → List ProbedLine → Option ProbedLine
next_before end [] = None
next_before end (line ∷ lines) = if is_before end line.place then Some line else None

-- what the lines find that come before this place
abbrev pub findings_before : (ProbedLine → Finding) → Option ℕ → List ProbedLine → List Finding
findings_before find end [] = []
findings_before find end (line ∷ lines) = if is_before end line.place then find line ∷ findings_before find end lines else []

-- where the record ends that is in front of the rest of a stream after this place, if anything is left
abbrev pub end_in_front : ℕ → List ℕ → Option ℕ
end_in_front place [] = None
end_in_front place (byte ∷ rest) = Some (place + size_in_front (byte ∷ rest))

-- ---- the order of lines

-- the places of these lines ascend from this one
abbrev pub AreFrom : ℕ → List ProbedLine → Type 0
AreFrom place [] = ⊤
AreFrom place (line ∷ lines) = (place ≤ line.place) × AreFrom line.place lines

-- the lines begin in a stream at these places, where `starts` are those of all lines; they ascend from this one
abbrev pub AreAhead : ℕ → List ℕ → List ProbedLine → Type 0
AreAhead place starts [] = ⊤
AreAhead place starts (line ∷ lines) =
    (line.n - 1 < length starts) × (line.place ≡ slice_index starts (line.n - 1)) × (place ≤ line.place) × AreAhead line.place starts lines

-- ---- the lines of expectations

-- an expectation is of one of the lines that begin at these places
abbrev pub IsOfLine : List ℕ → Placed → Type 0
IsOfLine starts placed = (0 < placed.n) × (placed.n - 1 < length starts)

-- its line
abbrev pub expected_line : List ℕ → Placed → ProbedLine
expected_line starts placed = record { n = placed.n; place = slice_index starts (placed.n - 1); rule = rule_in (expected_of placed.expectation) }

-- the expectations, each with what its line found
abbrev pub judged_by : List Placed → List Finding → List Judged
judged_by (placed ∷ others) (finding ∷ findings) = record { placed = placed; force = finding.force; found = finding.standing } ∷ judged_by others findings
judged_by expectations findings = []

-- ---- the lines that set the state of a rule

-- a line that names no rule
abbrev pub state_line : List ℕ → ℕ → ProbedLine
state_line starts n = record { n = n; place = slice_index starts (n - 1); rule = None }

-- the text in force at each line, by what it found
abbrev pub changes_by : List ProbedLine → List Finding → List ForceChange
changes_by (line ∷ lines) (finding ∷ findings) = record { line = line.n; text = finding.force } ∷ changes_by lines findings
changes_by lines findings = []
