use Rattle.std.proofs.Common.{◌≡◌, length, take}
use Rattle.limit_checker.proofs.Stands.{bytes_of}
use Rattle.limit_checker.proofs.standings.standings.Given as goal

abbrev pub invariant-loop-index : goal.invariant-loop-index
invariant-loop-index l = record {
  bytes : l.bytes.items ≡ bytes_of (take l.index l.engine.points);
  len : length l.bytes.items ≡ l.index;
}
