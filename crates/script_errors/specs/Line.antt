-- Lines of a text by their numbers. This project's own.
use Rattle.std.specs.Prelude.{◌≡◌, ℕ, ◌+◌, ◌≤◌, List, length, count_by}
use Rattle.diagnostics.specs.Line.{is_line_feed, line_number, line_start}
use Rattle.script_errors.specs.declared.line.Line.{Line}

-- the number of lines: a line feed ends each line but the last, which the text's end ends
abbrev pub line_count : List ℕ → ℕ
line_count text = count_by is_line_feed text + 1

-- the line with this number begins at this place
pub record IsLineBegin (text : List ℕ) (number at : ℕ) : Type 0 where
  pub within : at ≤ length text
  pub first : line_start text at ≡ at
  pub line : line_number text at ≡ number

-- a line with its place in the text: each of its places is on the text's line with this number
pub record IsLine (text : List ℕ) (number : ℕ) (line : Line) : Type 0 where
  pub within : line.begin + length line.bytes.now ≤ length text
  pub on : (offset : ℕ) → offset ≤ length line.bytes.now → line_number text (line.begin + offset) ≡ number
