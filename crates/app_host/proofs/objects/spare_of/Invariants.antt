use Rattle.std.proofs.Common.{◌≡◌, map, drop}
use Rattle.std.specs.List.{position_from}
use Rattle.lc_model.specs.Kept.Executive.{is_called}
use Rattle.app_host.specs.Hosted.{member_of}
use Rattle.app_host.proofs.objects.spare_of.Given as goal

-- the search through the rest finds what the search through all does
abbrev pub invariant-loop-i : goal.invariant-loop-i
invariant-loop-i g l =
    position_from (λ o. is_called l.name (member_of o)) l.i (drop l.i (map g.B.App.meaning l.stock))
    ≡ position_from (λ o. is_called l.name (member_of o)) 0 (map g.B.App.meaning l.stock)
