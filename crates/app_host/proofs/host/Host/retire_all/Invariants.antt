use Rattle.std.proofs.Common.{map}
use Rattle.app_host.specs.Hosted.{shown, object_in}
use Rattle.app_host.proofs.Closed.{EmptyBelow}
use Rattle.app_host.proofs.host.Host.retire_all.Given as goal

-- the seats so far are empty
abbrev pub invariant-loop-index : goal.invariant-loop-index
invariant-loop-index g l = EmptyBelow l.index
    (shown g.B.App.meaning l.initial.self)
    (shown g.B.App.meaning l.self)
    (map (object_in g.B.App.meaning) l.retired)
