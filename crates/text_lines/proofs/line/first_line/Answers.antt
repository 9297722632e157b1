-- What stands before the first line feed, and what behind it.
use Rattle.std.proofs.Common.{sym, ◌∙◌}
use Rattle.text_lines.proofs.Parts.{last_line, more_lines}
use Rattle.text_lines.proofs.line.first_line.Goals as goal

pub returns-then-is_empty-clause-lines : goal.returns-then-is_empty-clause-lines
returns-then-is_empty-clause-lines c =
    last_line c.args.text.now c.split_at.result.0.now c.split_at.result.1.now c.line_length.result c.line_length.ensures.place c.split_at.ensures.front c.split_at.ensures.back
    (sym c.is_empty.ensures ∙ c.if-is_empty.true)

pub returns-clause-lines : goal.returns-clause-lines
returns-clause-lines c =
    more_lines c.args.text.now c.split_at.result.0.now c.split_at.result.1.now c.split_at-2.result.1.now c.line_length.result c.line_length.ensures.place c.split_at.ensures.front c.split_at.ensures.back
    (sym c.is_empty.ensures ∙ c.if-is_empty.false) c.split_at-2.ensures.back
