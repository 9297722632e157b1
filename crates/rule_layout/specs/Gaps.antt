-- Gaps between pieces. This project's own.
use Rattle.std.specs.Prelude.{ℕ, Bool, not, ◌||◌, ◌&&◌, if◌then◌else◌, ◌==◌, List, ◌++◌, Option, Some, None, codes, bytes_eq, replicate}
use Rattle.lc_model.specs.Text.Token.{line_feed}
use Rattle.rule_layout.specs.declared.gap.Gap.{Gap}
use Rattle.rule_layout.specs.Shapes.{is_comment}

-- so many blanks; so many line feeds; a line feed and so many blanks
abbrev pub blanks : ℕ → Gap
blanks n = record { lines = 0; blanks = n }

abbrev pub lines : ℕ → Gap
lines n = record { lines = n; blanks = 0 }

abbrev pub new_line : ℕ → Gap
new_line n = record { lines = 1; blanks = n }

-- the bytes of a gap: line feeds, then blanks
abbrev pub gap_bytes : Gap → List ℕ
gap_bytes gap = replicate gap.lines line_feed ++ replicate gap.blanks 32

-- whether two tokens may stand side by side: nothing stands after `(`, and nothing before `;` and `)`
abbrev pub may_touch : List ℕ → List ℕ → Bool
may_touch before text = bytes_eq before (codes "(") || (bytes_eq text (codes ";") || bytes_eq text (codes ")"))

-- the gap, or a wider one where two pieces would not stay what they are: a comment ends with its line, and tokens that would grow
-- together have a blank between them. Nothing stands before the first piece
abbrev pub sound_gap : Option (List ℕ) → Gap → List ℕ → Gap
sound_gap None gap text = blanks 0
sound_gap (Some before) gap text =
    if is_comment before && gap.lines == 0 then new_line gap.blanks else
    if gap.lines == 0 && (gap.blanks == 0 && not (may_touch before text)) then blanks 1 else gap
