-- What is shown of a line and a part of it. This project's own.
use Rattle.std.specs.Prelude.{ℕ, ◌-◌, ◌==◌, if◌then◌else◌, nat_le, min, max, List, [], ◌∷◌, ◌++◌, length, take, drop}
use Rattle.diagnostics.specs.Line.{line_start, written_line}
use Rattle.diagnostics.specs.Character.{shown}

-- the most columns, and how many of them stand before the mark
abbrev pub width : ℕ
width = 100

abbrev pub before : ℕ
before = 40

-- three dots
abbrev pub dots : List ℕ
dots = 46 ∷ 46 ∷ 46 ∷ []

-- the first column shown: 40 before the mark, or less far on where fewer than 100 would be shown
abbrev pub window_start : (columns mark : ℕ) → ℕ
window_start columns mark = if nat_le columns width then 0 else min (mark - before) (columns - width)

-- dots for what is cut before, and after
abbrev pub dotted_before : ℕ → List ℕ → List ℕ
dotted_before start part = if start == 0 then part else dots ++ drop 3 part

abbrev pub window : List ℕ → ℕ → List ℕ
window columns start =
    let rest : List ℕ = drop start columns in
    let part : List ℕ = dotted_before start (take width rest) in
    if nat_le (length rest) width then part else take (width - 3) part ++ dots

-- the columns of a token that are shown, and one at least
abbrev pub mark_width : (shown from token : ℕ) → ℕ
mark_width shown from token = max (min token (shown - from)) 1

-- the bytes of the line before a place, and the line's bytes among this many from there on
abbrev pub before_in_line : List ℕ → ℕ → List ℕ
before_in_line text at = take (at - line_start text at) (written_line text at)

abbrev pub token_in_line : List ℕ → ℕ → ℕ → List ℕ
token_in_line text at size = take size (drop (at - line_start text at) (written_line text at))
