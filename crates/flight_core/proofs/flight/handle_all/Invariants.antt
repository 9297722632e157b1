use Rattle.std.proofs.Common.{◌≡◌, ◌+◌, ◌*◌, ◌-◌, ◌≤◌, length}
use Rattle.app_host.specs.Hosted.{shown}
use Rattle.flight_core.specs.Brought.{meanings_of}
use Rattle.flight_core.proofs.Courses.{SoFar}
use Rattle.flight_core.proofs.flight.handle_all.Given as goal

-- the records so far
abbrev pub invariant-loop-total : goal.invariant-loop-total
invariant-loop-total g l = record {
  room : length l.room ≡ 8192;
  bounded : (g.R.ByteSource.source l.reader).reads ≤ l.most;
  far : SoFar (length l.pairs) (meanings_of l.pairs)
      (shown g.B.App.meaning l.initial.host)
      (g.R.ByteSource.source l.initial.reader) (g.O.Outlet.device l.initial.out)
      (shown g.B.App.meaning l.host)
      (g.R.ByteSource.source l.reader) (g.T.ByteSink.sink l.out) l.records l.report.records l.report.bytes;
}

-- the reads that are left, and what is held
abbrev pub decreases-loop-total : goal.decreases-loop-total
decreases-loop-total g l = 73740 * (l.most - (g.R.ByteSource.source l.reader).reads) + length l.records.bytes
