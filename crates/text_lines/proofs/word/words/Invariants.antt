-- The words so far, and those of what is left, are the line's.
use Rattle.std.proofs.Common.{◌≡◌, ◌++◌, length}
use Rattle.lc_model.specs.Host.ScheduleText.{words_of}
use Rattle.text_lines.specs.Lines.{texts_of}
use Rattle.text_lines.proofs.word.words.Given as goal

abbrev pub invariant-loop-word : goal.invariant-loop-word
invariant-loop-word l = texts_of l.words.items ++ words_of l.left ≡ words_of l.line

abbrev pub decreases-loop-word : goal.decreases-loop-word
decreases-loop-word l = length (words_of l.left)
