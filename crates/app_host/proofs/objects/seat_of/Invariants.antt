use Rattle.std.proofs.Common.{◌≡◌, map, drop}
use Rattle.std.specs.Prelude.{option_map}
use Rattle.std.specs.List.{position_from}
use Rattle.lc_model.specs.Kept.Executive.{is_seated}
use Rattle.app_host.specs.Hosted.{member_of}
use Rattle.app_host.proofs.objects.seat_of.Given as goal

-- the search through the rest finds what the search through all does
abbrev pub invariant-loop-k : goal.invariant-loop-k
invariant-loop-k g l =
    position_from (λ o. is_seated l.name (option_map member_of o)) l.k (drop l.k (map (option_map g.B.App.meaning) l.seats))
    ≡ position_from (λ o. is_seated l.name (option_map member_of o)) 0 (map (option_map g.B.App.meaning) l.seats)
