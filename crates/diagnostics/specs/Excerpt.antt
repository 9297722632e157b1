-- The excerpt of a text for some bytes of it. This project's own.
use Rattle.std.specs.Prelude.{◌≡◌, ℕ, ◌-◌, nat_lt, List, length}
use Rattle.diagnostics.specs.Line.{line_number, written_line}
use Rattle.diagnostics.specs.Character.{shown}
use Rattle.diagnostics.specs.Window.{before_in_line, mark_width, token_in_line, width, window, window_start}
use Rattle.diagnostics.specs.declared.excerpt.Excerpt.{Excerpt}

-- columns of the line before its mark, and the first column that is shown
abbrev pub mark_column : List ℕ → ℕ → ℕ
mark_column text at = length (shown (before_in_line text at))

abbrev pub first_column : List ℕ → ℕ → ℕ
first_column text at = window_start (length (shown (written_line text at))) (mark_column text at)

-- the line's number and its window, with the marks under the columns of the token that are shown
pub record IsExcerpt (text : List ℕ) (at size : ℕ) (found : Excerpt) : Type 0 where
  pub line : found.line ≡ line_number text at
  pub columns : found.columns.items ≡ window (shown (written_line text at)) (first_column text at)
  pub from : found.from ≡ mark_column text at - first_column text at
  pub marks : found.marks ≡ mark_width (length found.columns.items) found.from (length (shown (token_in_line text at size)))
  pub cut : found.is_cut ≡ nat_lt width (length (shown (written_line text at)))
