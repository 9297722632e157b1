use Rattle.std.proofs.Common.{◌≡◌, ◌++◌, take, flat_map}
use Rattle.schedules.specs.Entry.{entries_of}
use Rattle.analysis_listing.specs.Requests.{request_in}
use Rattle.analysis_listing.proofs.schedule.push_requests.Given as goal

abbrev pub invariant-loop-entry : goal.invariant-loop-entry
invariant-loop-entry l = l.requests.items ≡ l.fn.requests.items ++ flat_map request_in (entries_of (take l.entry-index l.entries))
