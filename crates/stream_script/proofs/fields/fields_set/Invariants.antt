-- What is left of the words, set in the payload so far, is what all words say.
use Rattle.std.proofs.Common.{◌≡◌, length}
use Rattle.text_lines.specs.Lines.{texts_of}
use Rattle.stream_script.specs.Fields.{fields_set}
use Rattle.stream_script.proofs.fields.fields_set.Given as goal

abbrev pub invariant-loop-left : goal.invariant-loop-left
invariant-loop-left l = record {
  says : fields_set l.after.items (texts_of l.left) ≡ fields_set l.fn.payload.items (texts_of l.words);
  same_size : length l.after.items ≡ length l.fn.payload.items;
}

abbrev pub decreases-loop-left : goal.decreases-loop-left
decreases-loop-left l = length l.left
