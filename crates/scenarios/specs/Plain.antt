-- The plain script that a scenario is short for. This project's own.
use Rattle.std.specs.Prelude.{ℕ, zero, suc, ◌+◌, ◌-◌, Bool, false, ◌==◌, List, [], ◌∷◌, length, drop, codes, bytes_eq, nat_lt, slice_get, unwrap_or, Option, Some, None, Result, Ok, Err, if◌then◌else◌}
use Rattle.lc_model.specs.Host.ScheduleText.{lines_of}
use Rattle.scenarios.specs.declared.error.Reason.{Reason}
use Rattle.scenarios.specs.declared.error.Reason.TheVariants.{NoRepeat, TooLong, Unbegun, Unended}
use Rattle.scenarios.specs.declared.force.ForceChange.{ForceChange}
use Rattle.scenarios.specs.declared.repetition.Repetition.{Repetition}
use Rattle.scenarios.specs.Declarations.{Declarations}
use Rattle.scenarios.specs.Error.{ScenarioFault, ◌>>=◌}
use Rattle.scenarios.specs.Line.{line_said}
use Rattle.scenarios.specs.Named.{NamedRule}
use Rattle.scenarios.specs.Number.{number_in}
use Rattle.scenarios.specs.Said.{Said, nothing_said}
use Rattle.scenarios.specs.Words.{words_in}

-- ---- repeated lines: `repeat NUMBER {` before them, and `}` behind them

-- whether a line with these words begins a repetition, and whether it ends one
abbrev pub is_repeat : List (List ℕ) → Bool
is_repeat [] = false
is_repeat (verb ∷ words) = bytes_eq verb (codes "repeat")

abbrev pub is_end : List (List ℕ) → Bool
is_end (verb ∷ []) = bytes_eq verb (codes "}")
is_end words = false

-- how often the lines are said
abbrev pub times_in : List (List ℕ) → Result ℕ Reason
times_in (verb ∷ number ∷ brace ∷ []) = if bytes_eq brace (codes "{") then number_in 1000000 number else Err NoRepeat
times_in words = Err NoRepeat

-- how many repetitions have begun and not ended behind a line with these words, among the lines of another; none where that one
-- ends
abbrev pub depth_behind : List (List ℕ) → ℕ → Option ℕ
depth_behind words depth =
    if is_repeat words then Some (depth + 1)
    else if is_end words then (if depth == 0 then None else Some (depth - 1))
    else Some depth

-- the place after the end, or what the other lines have if this isn't the end
abbrev pub end_by : (ℕ → Option ℕ) → ℕ → Option ℕ → Option ℕ
end_by others place None = Some (place + 1)
end_by others place (Some depth) = others depth

-- the place after the end of a repetition, in lines from this place on, with a number of open inner repetitions
abbrev pub behind_end : ℕ → ℕ → List (List ℕ) → Option ℕ
behind_end depth place [] = None
behind_end depth place (line ∷ lines) =
    end_by (λ inner. behind_end inner (place + 1) lines) place (depth_behind (words_in line) depth)

-- ---- line by line

-- the place of the line that is said next, the repetitions that are being said, the innermost first, and what was said so far
pub record Going : Type 0 where
  pub place : ℕ
  pub repetitions : List Repetition
  pub said : Said

-- the state after a line that begins a repetition: at its first line, or after its end if it has 0 repetitions
abbrev pub begun : ℕ → ℕ → Going → Result Going Reason
begun zero end going = Ok (record { place = end; repetitions = going.repetitions; said = going.said })
begun (suc left) end going =
    Ok (record { place = going.place + 1; repetitions = record { first = going.place + 1; left = left } ∷ going.repetitions; said = going.said })

abbrev pub some_end : Option ℕ → Result ℕ Reason
some_end None = Err Unended
some_end (Some end) = Ok end

abbrev pub repeat_said : List (List ℕ) → List (List ℕ) → Going → Result Going Reason
repeat_said lines words going = do
  times ← times_in words
  end ← some_end (behind_end 0 (going.place + 1) (drop (going.place + 1) lines))
  begun times end going

-- the state after a line that ends a repetition: at its first line again, or after the end
abbrev pub ended : ℕ → ℕ → List Repetition → Going → Going
ended first zero others going = record { place = going.place + 1; repetitions = others; said = going.said }
ended first (suc left) others going =
    record { place = first; repetitions = record { first = first; left = left } ∷ others; said = going.said }

abbrev pub end_said : List Repetition → Going → Result Going Reason
end_said [] going = Err Unbegun
end_said (last ∷ others) going = Ok (ended last.first last.left others going)

-- the state after any other line
abbrev pub gone_on : Going → Result Said Reason → Result Going Reason
gone_on going (Err reason) = Err reason
gone_on going (Ok said) = Ok (record { place = going.place + 1; repetitions = going.repetitions; said = said })

-- the state after the line with these words
abbrev pub step : List NamedRule → List ForceChange → List (List ℕ) → List (List ℕ) → Going → Result Going Reason
step rules changes lines words going =
    if is_repeat words then repeat_said lines words going
    else if is_end words then end_said going.repetitions going
    else gone_on going (line_said rules changes (going.place + 1) words going.said)

-- the words of the line at a place
abbrev pub words_at : List (List ℕ) → ℕ → List (List ℕ)
words_at lines place = words_in (unwrap_or (slice_get lines place) [])

-- the script of all lines; the function continues after one line
abbrev pub behind_step : (Going → Result Said ScenarioFault) → ℕ → Result Going Reason → Result Said ScenarioFault
behind_step others place (Err reason) = Err (record { line = place + 1; reason = reason })
behind_step others place (Ok after) = others after

-- at most a number of further lines, each as often as it is repeated, including those that begin and end repetitions
unfoldable pub said_within : ℕ → List NamedRule → List ForceChange → List (List ℕ) → Going → Result Said ScenarioFault
said_within zero rules changes lines going =
    if nat_lt going.place (length lines) then Err (record { line = going.place + 1; reason = TooLong }) else Ok going.said
said_within (suc most) rules changes lines going =
    if nat_lt going.place (length lines) then
    behind_step (said_within most rules changes lines) going.place (step rules changes lines (words_at lines going.place) going)
    else Ok going.said

-- the most lines that are said
abbrev pub most_steps : ℕ
most_steps = 10000000

-- what the whole scenario says, where the text in force changes so
abbrev pub scenario_said : Declarations → List ForceChange → List ℕ → Result Said ScenarioFault
scenario_said declared changes scenario =
    said_within most_steps declared.rules changes (lines_of scenario) (record { place = 0; repetitions = []; said = nothing_said declared })

-- a plain script, and of each of its lines the number of the scenario's line that says it
pub record PlainScript : Type 0 where
  pub script : List ℕ
  pub lines : List ℕ

abbrev pub plain_of : Result Said ScenarioFault → Result PlainScript ScenarioFault
plain_of (Err fault) = Err fault
plain_of (Ok said) = Ok (record { script = said.script; lines = said.lines })

-- the plain script that a scenario is short for, or its fault: of the first line that is said and says nothing
abbrev pub plain_in : Declarations → List ForceChange → List ℕ → Result PlainScript ScenarioFault
plain_in declared changes scenario = plain_of (scenario_said declared changes scenario)

-- the scenario's line that says a line of the plain script; both count from 1
abbrev pub line_of : List ℕ → ℕ → ℕ
line_of lines n = unwrap_or (slice_get lines (n - 1)) n
