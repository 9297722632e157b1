-- The text so far, and the words that are left, are all of it.
use Rattle.std.proofs.Common.{◌≡◌, ◌++◌, drop}
use Rattle.text_lines.specs.Lines.{texts_of}
use Rattle.scenarios.specs.Words.{words_behind}
use Rattle.scenarios.proofs.word.with_words.Given as goal

abbrev pub invariant-loop-word : goal.invariant-loop-word
invariant-loop-word l =
    l.text.items ++ words_behind (texts_of (drop l.word-index l.words)) ≡ l.fn.text.items ++ words_behind (texts_of l.words)
