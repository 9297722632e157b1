use Rattle.std.proofs.Common.{◌≡◌, ◌≤◌, take, length}
use Rattle.app_host.specs.Resubscribing.{mids_of}
use Rattle.limit_checker.proofs.SameIds.{ids_below}
use Rattle.limit_checker.proofs.adoption.has_ids_of.Given as goal

abbrev pub invariant-loop-number : goal.invariant-loop-number
invariant-loop-number l = record {
  same : ids_below l.wdt.bytes l.number ≡ mids_of (take l.number l.terms);
  within : l.number ≤ length l.terms;
}
