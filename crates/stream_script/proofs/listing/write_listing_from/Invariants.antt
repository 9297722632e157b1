-- The lines so far, and those of what is left, are the stream's.
use Rattle.std.proofs.Common.{◌≡◌, ◌++◌, ◌+◌, ◌≤◌, length}
use Rattle.stream_script.specs.Front.{bytes_left}
use Rattle.stream_script.specs.Listing.{lines_of_rest, lines_from}
use Rattle.stream_script.proofs.listing.write_listing_from.Given as goal

abbrev pub invariant-loop-left : goal.invariant-loop-left
invariant-loop-left l = record {
  says : l.listing.items ++ lines_of_rest l.number l.left ≡ lines_from l.first l.stream;
  counted : l.number + bytes_left l.left ≤ l.first + length l.stream + 1;
}

abbrev pub decreases-loop-left : goal.decreases-loop-left
decreases-loop-left l = bytes_left l.left
