use Rattle.std.proofs.Common.{◌≡◌, map, take, count_by}
use Rattle.lc_model.specs.Kept.Executive.{is_called}
use Rattle.app_host.specs.Hosted.{member_of}
use Rattle.app_host.proofs.objects.spares_of.Given as goal

-- those of the objects so far are counted
abbrev pub invariant-loop-app : goal.invariant-loop-app
invariant-loop-app g l =
    l.count
    ≡ count_by (λ o. is_called l.name (member_of o)) (take l.app-index (map g.B.App.meaning l.stock))
