use Rattle.std.proofs.Common.{map}
use Rattle.std.specs.Prelude.{option_map}
use Rattle.app_host.proofs.Searched.{below_eight, free_is}
use Rattle.std.proofs.Common.{◌∙◌}
use Rattle.app_host.proofs.Rosters.{free_by_name}
use Rattle.app_host.proofs.host.Host.free.Goals as goal

pub seat_numbered-requires : goal.seat_numbered-requires
seat_numbered-requires g c = below_eight _ _ _ c.requires.seated.eight c.free_seat.ensures

pub returns-clause-kept : goal.returns-clause-kept
returns-clause-kept g c =
    free_is
    (map (option_map g.B.App.meaning) c.args.self.now.seats)
    _ _ c.free_seat.ensures c.seat_numbered.ensures

pub returns-clause-own : goal.returns-clause-own
returns-clause-own g c =
    (
    free_is
    (map (option_map g.B.App.meaning) c.args.self.now.seats)
    _ _ c.free_seat.ensures c.seat_numbered.ensures
    ) ∙ free_by_name (map (option_map g.B.App.meaning) c.args.self.now.seats)
