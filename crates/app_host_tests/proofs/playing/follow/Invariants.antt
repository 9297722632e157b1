use Rattle.app_host.specs.Hosted.{shown}
use Rattle.app_host.specs.Step.{IsBetween}
use Rattle.app_host_tests.proofs.playing.follow.Given as goal

-- so it is between two records
abbrev pub invariant-loop-number : goal.invariant-loop-number
invariant-loop-number g l =
    IsBetween (shown g.B.App.meaning l.host)
