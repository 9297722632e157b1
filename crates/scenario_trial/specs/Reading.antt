-- The expectations of a script, and the script without them. This project's own.
use Rattle.std.specs.Prelude.{◌≡◌, ℕ, ◌+◌, Bool, false, List, [], ◌∷◌, ◌++◌, take, drop, map, codes, bytes_eq, Option, Some, None, Result, Ok, Err, ⊤, if◌then◌else◌}
use Rattle.std.specs.List.{join_with_byte, prefix_len}
use Rattle.lc_model.specs.Host.ScheduleText.{lines_of, words_of}
use Rattle.text_lines.specs.Lines.{is_blank}
use Rattle.stream_script.specs.Error.{ScriptFault}
use Rattle.stream_script.specs.Script.{lines_said, nothing_said, script_in, stream_of}
use Rattle.scenario_trial.specs.declared.fault.ExpectationFault.{ExpectationFault}
use Rattle.scenario_trial.specs.declared.expectation_lines.Placed.{Placed}
use Rattle.scenario_trial.specs.declared.expectation_lines.ReadError.{ReadError}
use Rattle.scenario_trial.specs.declared.expectation_lines.ReadError.TheVariants as error
use Rattle.scenario_trial.specs.declared.expectation_lines.LineFault.{LineFault}
use Rattle.scenario_trial.specs.declared.expectation_lines.LineFault.TheVariants as line
use Rattle.scenario_trial.specs.Expected.{Expected, expected_in, expected_of}

-- an expectation, with the number of its line from 1
pub record PlacedExpected : Type 0 where
  pub n : ℕ
  pub expected : Expected

-- an expectation as it is held
abbrev pub placed_of : Placed → PlacedExpected
placed_of p = record { n = p.n; expected = expected_of p.expectation }

-- a line that says no expectation, and why
pub record ReadFault : Type 0 where
  pub line : ℕ
  pub fault : ExpectationFault

-- the line was refused for this, want of memory aside
abbrev pub IsRefused : {A : Type 0} → Result A ExpectationFault → LineFault → Type 0
IsRefused said (line.Says fault) = said ≡ Err fault
IsRefused said line.Memory = ⊤

-- the script was refused at this line for this, want of memory aside
abbrev pub IsReadError : {A : Type 0} → Result A ReadFault → ReadError → Type 0
IsReadError said (error.Line n fault) = said ≡ Err (record { line = n; fault = fault })
IsReadError said error.Memory = ⊤

-- ---- lines

-- whether a line with these words is an expectation
abbrev pub is_expectation : List (List ℕ) → Bool
is_expectation [] = false
is_expectation (word ∷ words) = bytes_eq word (codes "expect")

-- an expectation, where a line with these words is one
abbrev pub some_expected : Result Expected ExpectationFault → Result (Option Expected) ExpectationFault
some_expected (Err fault) = Err fault
some_expected (Ok expected) = Ok (Some expected)

abbrev pub line_expected : List (List ℕ) → Result (Option Expected) ExpectationFault
line_expected words = if is_expectation words then some_expected (expected_in (drop 1 words)) else Ok None

-- those so far, and that of a line of this number, where there is one
abbrev pub with_expected : List PlacedExpected → ℕ → Option Expected → List PlacedExpected
with_expected found n None = found
with_expected found n (Some expected) = found ++ record { n = n; expected = expected } ∷ []

-- ---- the whole script

-- what those so far become by the lines from this number on
abbrev pub lines_expected : List PlacedExpected → ℕ → List (List ℕ) → Result (List PlacedExpected) ReadFault
lines_expected found n [] = Ok found
lines_expected found n (line ∷ lines) =
    elim (line_expected (words_of line)) [
      | Err fault ↦ Err (record { line = n; fault = fault })
      | Ok expected ↦ lines_expected (with_expected found n expected) (n + 1) lines
    ]

-- the expectations of a script, in order, or the fault of the least line
abbrev pub expectations_in : List ℕ → Result (List PlacedExpected) ReadFault
expectations_in script = lines_expected [] 1 (lines_of script)

-- ---- without them

-- a line as a comment: its first letter is `#`
abbrev pub commented : List ℕ → List ℕ
commented line = take (prefix_len is_blank line) line ++ 35 ∷ drop 1 (drop (prefix_len is_blank line) line)

-- a line, which is a comment where it is an expectation
abbrev pub silenced_line : List ℕ → List ℕ
silenced_line line = if is_expectation (words_of line) then commented line else line

-- the script whose expectations are comments: all other lines stay
abbrev pub silenced_in : List ℕ → List ℕ
silenced_in script = join_with_byte 10 (map silenced_line (lines_of script))

-- ---- the stream beside them

-- a line, of which nothing is left where it is an expectation
abbrev pub emptied_line : List ℕ → List ℕ
emptied_line line = if is_expectation (words_of line) then [] else line

-- the stream that a script says where its expectations say nothing, or the fault of its least line
abbrev pub stream_beside : List ℕ → Result (List ℕ) ScriptFault
stream_beside script = stream_of (lines_said nothing_said 1 (map emptied_line (lines_of script)))

-- a script whose expectations are comments says that stream, and is refused at the same line for the same reason
abbrev pub SilencedSaysTheRest : Type 0
SilencedSaysTheRest = (script : List ℕ) → script_in (silenced_in script) ≡ stream_beside script
