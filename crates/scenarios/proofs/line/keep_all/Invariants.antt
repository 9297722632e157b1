-- What is left says what all words say.
use Rattle.std.proofs.Common.{◌≡◌, drop}
use Rattle.text_lines.specs.Lines.{texts_of}
use Rattle.scenarios.specs.Line.{all_kept}
use Rattle.scenarios.proofs.line.keep_all.Given as goal

abbrev pub invariant-loop-word : goal.invariant-loop-word
invariant-loop-word l =
    all_kept l.place l.packet (texts_of (drop l.word-index l.words)) l.said ≡ all_kept l.place l.packet (texts_of l.words) l.said
