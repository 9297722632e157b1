use Rattle.std.proofs.Common.{◌≡◌, ◌≤◌, ◌++◌, length, drop}
use Rattle.editor_text.specs.Changes.{are_apart, changes_of}
use Rattle.editor_text.proofs.Merged.{merged}
use Rattle.editor_text.proofs.change.apply.Given as goal

abbrev pub invariant-loop-change : goal.invariant-loop-change
invariant-loop-change l = record {
  within : l.at ≤ length l.old;
  same : l.new.items ++ merged l.old l.at (changes_of (drop l.change-index l.changes)) ≡ merged l.old 0 (changes_of l.changes);
  apart : are_apart l.at (length l.old) (changes_of (drop l.change-index l.changes)) ≡ are_apart 0 (length l.old) (changes_of l.changes);
}
