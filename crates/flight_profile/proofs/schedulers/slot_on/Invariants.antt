use Rattle.std.proofs.Common.{◌≡◌, drop}
use Rattle.app_host.specs.Hosted.{shown}
use Rattle.flight_profile.specs.Checkers.{slot_among}
use Rattle.flight_profile.proofs.schedulers.slot_on.Given as goal

-- that of the seats so far is none
abbrev pub invariant-loop-number : goal.invariant-loop-number
invariant-loop-number g l = slot_among (drop l.number (shown g.B.App.meaning l.host).seats) ≡ slot_among (shown g.B.App.meaning l.host).seats
