use Rattle.std.proofs.Common.{◌≡◌, ◌++◌, drop}
use Rattle.schedules.specs.Entry.{entries_of}
use Rattle.run_account.specs.Samples.{entry_requests, ground_requests}
use Rattle.run_account.proofs.requests.slot_requests.Given as goal

abbrev pub invariant-loop-entry : goal.invariant-loop-entry
invariant-loop-entry l =
    ground_requests l.found ++ entry_requests (entries_of (drop l.entry-index l.entries)) ≡ entry_requests (entries_of l.entries)
