use Rattle.std.proofs.Common.{◌≡◌, drop}
use Rattle.app_host.specs.Hosted.{shown}
use Rattle.flight_profile.specs.Checkers.{engine_among}
use Rattle.flight_profile.proofs.checkers.engine_on.Given as goal

-- that of the seats so far is none
abbrev pub invariant-loop-number : goal.invariant-loop-number
invariant-loop-number g l = engine_among (drop l.number (shown g.B.App.meaning l.host).seats) ≡ engine_among (shown g.B.App.meaning l.host).seats
