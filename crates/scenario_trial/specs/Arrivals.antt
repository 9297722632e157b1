-- What of the packets that came may be expected, and how the rules of expectations stand. This project's own.
use Rattle.std.specs.Prelude.{◌≡◌, ℕ, ◌-◌, Bool, true, false, List, codes, bytes_eq, filter_map, find, is_none, length, map, take, Option, Some, None, Ok, if◌then◌else◌}
use Rattle.std.specs.List.{AllByRecursion}
use Rattle.lc_model.specs.Host.Schedule.{Schedule}
use Rattle.lc_model.specs.Host.ScheduleText.{lines_of}
use Rattle.lc_model.specs.Kept.Executive.{Executive}
use Rattle.lc_model.specs.Kept.Summary.{LcOwn}
use Rattle.packet_listing.specs.Told.{Told, Request, Event, Housekeeping, told_in}
use Rattle.scenarios.specs.Declarations.{Declarations}
use Rattle.scenarios.specs.Rules.{rule_numbered}
use Rattle.stream_script.specs.ByLines.{line_start}
use Rattle.stream_script.specs.Script.{script_in}
use Rattle.run_stepper.specs.declared.standing.RuleStanding.{RuleStanding}
use Rattle.run_stepper.specs.declared.standing.RuleStanding.TheVariants.{NoRule}
use Rattle.run_stepper.specs.declared.ending.Ending.{Ending}
use Rattle.run_stepper.specs.declared.ending.Ending.TheVariants.{Whole}
use Rattle.flight_profile.specs.Force.{IsInForce}
use Rattle.run_stepper.specs.Trace.{Arrived, Traced, arrived_from, engine_in, standing_in}
use Rattle.run_stepper.specs.Places.{StandsBehind}
use Rattle.scenario_trial.specs.declared.expectation.Arrival.{Arrival}
use Rattle.scenario_trial.specs.declared.expectation.ArrivalKind.{ArrivalKind}
use Rattle.scenario_trial.specs.declared.expectation.ArrivalKind.TheVariants as kind
use Rattle.scenario_trial.specs.declared.expectation_lines.Placed.{Placed}
use Rattle.scenario_trial.specs.declared.trial.Tried.{Tried}
use Rattle.scenario_trial.specs.declared.verdict.Judged.{Judged}
use Rattle.scenario_trial.specs.Expected.{Absent, Comes, Expected, LastResult, State, expected_of}
use Rattle.scenario_trial.specs.Judged.{unmet_of}
use Rattle.scenario_trial.specs.Reading.{PlacedExpected, placed_of}

-- the kind of an event, by its sender
abbrev pub event_kind : List ℕ → Option ArrivalKind
event_kind sender =
    if bytes_eq sender (codes "LC") then Some kind.Event else if bytes_eq sender (codes "HOST") then Some kind.HostEvent else None

-- of this kind, where it has one
abbrev pub arrival_with : ℕ → ℕ → ℕ → Option ArrivalKind → Option Arrival
arrival_with place second number None = None
arrival_with place second number (Some kind) = Some (record { place = place; second = second; kind = kind; number = number })

-- a request, or an event of the Limit Checker or of the host, of the record with this number, in this second
abbrev pub arrival_by : ℕ → ℕ → Option Told → Option Arrival
arrival_by place second None = None
arrival_by place second (Some (Request sequence)) = arrival_with place second sequence (Some kind.Sequence)
arrival_by place second (Some (Event moment sender id level text)) = arrival_with place second id (event_kind sender)
arrival_by place second (Some (Housekeeping mode count rules)) = None

-- what a packet that came is, in the second of its record
abbrev pub arrival_of : Arrived → Option Arrival
arrival_of came = arrival_by came.place came.moment.seconds (told_in came.packet)

-- what of all that came may be expected, in order
abbrev pub arrivals_of : Traced → List Arrival
arrivals_of t = filter_map arrival_of (arrived_from 0 t.parts)

-- ---- how a rule stands

-- the expectation
abbrev pub placed_in : Judged → Placed
placed_in judged = judged.placed

-- the rule that an expectation names
abbrev pub rule_in : Expected → Option (List ℕ)
rule_in (Comes coming) = None
rule_in (Absent coming) = None
rule_in (State rule state) = Some rule
rule_in (LastResult rule last) = Some rule

-- how the rule with this number stands in an engine, where there is one
abbrev pub standing_numbered : Option LcOwn → Option ℕ → RuleStanding
standing_numbered own None = NoRule
standing_numbered own (Some rule) = standing_in own rule

-- how the rule stands that a word means where this text is in force, where one is named
abbrev pub standing_named : Declarations → Option ℕ → Option LcOwn → Option (List ℕ) → RuleStanding
standing_named declared force own None = NoRule
standing_named declared force own (Some name) = standing_numbered own (rule_numbered declared force name)

-- an expectation is about a rule that no text has
abbrev pub is_of_nobody : Declarations → Option (List ℕ) → Bool
is_of_nobody declared None = false
is_of_nobody declared (Some name) = is_none (rule_numbered declared None name)

abbrev pub has_no_rule : Declarations → PlacedExpected → Bool
has_no_rule declared placed = is_of_nobody declared (rule_in placed.expected)

module _ (sources : List (List ℕ)) (schedule : Schedule) (declared : Declarations) (script : List ℕ) where
  -- Behind what the script says before this line this rule text is in force, or none, and the rule stands so that an expectation names there.
  pub record StandsThere (line : ℕ) (name : Option (List ℕ)) (force : Option ℕ) (found : RuleStanding) : Type 0 where
    pub stream : List ℕ
    pub says : script_in (take (line_start (line - 1) (lines_of script)) script) ≡ Ok stream
    pub now : Executive (List ℕ)
    pub behind : StandsBehind sources schedule stream now
    pub in_force : IsInForce sources now force
    pub stands : found ≡ standing_named declared force (engine_in now.seats) name

  -- what is found of an expectation is the text in force where it is, and how its rule stands there
  abbrev pub IsFound : Judged → Type 0
  IsFound judged = StandsThere judged.placed.n (rule_in (expected_of judged.placed.expectation)) judged.force judged.found

  -- Expectations are judged by what came, and by how each one's rule stands behind what the script says before it. No rule is named that
  -- no text has.
  pub record IsJudged (expectations : List PlacedExpected) (came : List Arrival) (tried : Tried) : Type 0 where
    pub known : find (has_no_rule declared) expectations ≡ None
    pub judged : List Judged
    pub each : map (λ (one : Judged). placed_of one.placed) judged ≡ expectations
    pub found : AllByRecursion IsFound judged
    pub counted : tried.expected ≡ length expectations
    pub counts : tried.unmet ≡ length (unmet_of came judged)

-- ---- a trial

-- a run went to the end of its stream
abbrev pub is_whole : Ending → Bool
is_whole (Whole records) = true
is_whole other = false
