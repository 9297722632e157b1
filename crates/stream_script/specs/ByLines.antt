-- Where in a script's stream its lines begin. This project's own.
use Rattle.std.specs.Prelude.{◌≡◌, ℕ, zero, suc, ◌+◌, ◌<◌, ◌≤◌, List, [], ◌∷◌, length, take, slice_index, Ok, Err}
use Rattle.lc_model.specs.Host.ScheduleText.{lines_of, words_of}
use Rattle.stream_script.specs.Script.{Said, line_said, nothing_said, script_in}

-- the length of the stream before each of these lines, from its length before the first
abbrev pub starts_from : Said → List (List ℕ) → List ℕ
starts_from said [] = []
starts_from said (line ∷ lines) =
    length said.bytes ∷ elim (line_said said (words_of line)) [ Err reason ↦ [] | Ok after ↦ starts_from after lines ]

-- the length of the stream before each line of a script
abbrev pub starts_in : List ℕ → List ℕ
starts_in script = starts_from nothing_said (lines_of script)

-- how many bytes of a text come before its line at this place, from 0
abbrev pub line_start : ℕ → List (List ℕ) → ℕ
line_start zero lines = 0
line_start (suc place) [] = 0
line_start (suc place) (line ∷ lines) = length line + 1 + line_start place lines

-- Lines that begin there in the stream of a script: each has its place. What comes before a line in the script says what comes
-- before its place in the stream, whatever the line says.
pub record AreStarts (script stream starts : List ℕ) : Type 0 where
  pub each : length starts ≡ length (lines_of script)
  pub inside : (place : ℕ) → place < length starts → slice_index starts place ≤ length stream
  pub front : (place : ℕ) → place < length starts →
      script_in (take (line_start place (lines_of script)) script) ≡ Ok (take (slice_index starts place) stream)
  pub ascend : (place : ℕ) → place + 1 < length starts → slice_index starts place ≤ slice_index starts (place + 1)

-- the law: so the lines of a script begin that says a stream
abbrev pub SaysItsFronts : Type 0
SaysItsFronts = (script stream : List ℕ) → script_in script ≡ Ok stream → AreStarts script stream (starts_in script)
