use Rattle.app_host.specs.Resubscribing.{mids_of}
use Rattle.app_host.proofs.Seats.{AreSubscribed}
use Rattle.app_host.proofs.resubscribing.watch.Given as goal

abbrev pub invariant-loop-term : goal.invariant-loop-term
invariant-loop-term l = AreSubscribed l.seat l.term-index (mids_of l.terms) l.initial.bus l.bus
