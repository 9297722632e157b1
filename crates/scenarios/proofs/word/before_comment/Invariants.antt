-- The words so far, and those of the rest in front of a comment, are all of them.
use Rattle.std.proofs.Common.{◌≡◌, ◌++◌, drop}
use Rattle.text_lines.specs.Lines.{texts_of}
use Rattle.scenarios.specs.Words.{before_comment}
use Rattle.scenarios.proofs.word.before_comment.Given as goal

abbrev pub invariant-loop-word : goal.invariant-loop-word
invariant-loop-word l =
    texts_of l.before.items ++ before_comment (texts_of (drop l.word-index l.words)) ≡ before_comment (texts_of l.words)
