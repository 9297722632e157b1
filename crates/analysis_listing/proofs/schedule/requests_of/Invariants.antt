use Rattle.std.proofs.Common.{◌≡◌, take}
use Rattle.analysis_listing.specs.Requests.{requests_of}
use Rattle.analysis_listing.proofs.schedule.requests_of.Given as goal

abbrev pub invariant-loop-slot : goal.invariant-loop-slot
invariant-loop-slot l = l.requests.items ≡ requests_of (take l.slot l.schedule)
