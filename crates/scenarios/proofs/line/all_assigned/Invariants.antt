-- What is left says what all words say.
use Rattle.std.proofs.Common.{◌≡◌, drop}
use Rattle.text_lines.specs.Lines.{texts_of}
use Rattle.scenarios.specs.Line.{all_assigned}
use Rattle.scenarios.proofs.line.all_assigned.Given as goal

abbrev pub invariant-loop-word : goal.invariant-loop-word
invariant-loop-word l =
    all_assigned l.packet (texts_of (drop l.word-index l.words)) l.said ≡ all_assigned l.packet (texts_of l.words) l.fn.start
