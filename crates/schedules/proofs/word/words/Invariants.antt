-- The words so far, and those that are left, are the line's.
use Rattle.std.proofs.Common.{◌≡◌, ◌-◌, ◌++◌, length}
use Rattle.lc_model.specs.Host.ScheduleText.{words_of}
use Rattle.text_lines.specs.Lines.{texts_of}
use Rattle.schedules.proofs.word.words.Given as goal

abbrev pub invariant-loop-left : goal.invariant-loop-left
invariant-loop-left l = texts_of l.words.items ++ words_of l.left ≡ words_of l.line

abbrev pub decreases-loop-left : goal.decreases-loop-left
decreases-loop-left l = 6 - length l.words.items
