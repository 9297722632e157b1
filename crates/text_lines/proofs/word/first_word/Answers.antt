-- The first word stands behind the blanks in front.
use Rattle.std.proofs.Common.{sym, ◌∙◌}
use Rattle.text_lines.proofs.Parts.{more_words, no_words}
use Rattle.text_lines.proofs.word.first_word.Goals as goal

pub returns-then-is_empty : goal.returns-then-is_empty
returns-then-is_empty c =
    no_words c.args.line.now c.split_at.result.1.now c.blank_count.result c.blank_count.ensures.count c.split_at.ensures.back (sym c.is_empty.ensures ∙ c.if-is_empty.true)

pub returns : goal.returns
returns c =
    more_words c.args.line.now c.split_at.result.1.now c.split_at-2.result.0.now c.split_at-2.result.1.now c.blank_count.result c.word_length.result c.blank_count.ensures.count c.split_at.ensures.back
    (sym c.is_empty.ensures ∙ c.if-is_empty.false) c.word_length.ensures.place c.split_at-2.ensures.front c.split_at-2.ensures.back
