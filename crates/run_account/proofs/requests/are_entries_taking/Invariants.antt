use Rattle.std.proofs.Common.{◌≡◌, drop}
use Rattle.schedules.specs.Entry.{entries_of}
use Rattle.run_account.specs.Samples.{are_taking, entry_requests}
use Rattle.run_account.proofs.requests.are_entries_taking.Given as goal

abbrev pub invariant-loop-entry : goal.invariant-loop-entry
invariant-loop-entry l =
    are_taking (entry_requests (entries_of (drop l.entry-index l.entries))) l.rule ≡ are_taking (entry_requests (entries_of l.entries)) l.rule
