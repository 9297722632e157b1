use Rattle.std.proofs.Common.{map}
use Rattle.std.specs.Prelude.{option_map}
use Rattle.app_host.proofs.Searched.{below_eight, seat_is}
use Rattle.std.proofs.Common.{◌∙◌}
use Rattle.app_host.proofs.Rosters.{seat_by_name}
use Rattle.app_host.proofs.host.Host.runs_at.Goals as goal

pub seat_numbered-requires : goal.seat_numbered-requires
seat_numbered-requires g c = below_eight _ _ _ c.requires.seated.eight c.seat_of.ensures

pub returns-clause-kept : goal.returns-clause-kept
returns-clause-kept g c =
    seat_is c.args.name.now
    (map (option_map g.B.App.meaning) c.args.self.now.seats)
    _ _ c.seat_of.ensures c.seat_numbered.ensures

pub returns-clause-own : goal.returns-clause-own
returns-clause-own g c =
    (
    seat_is c.args.name.now
    (map (option_map g.B.App.meaning) c.args.self.now.seats)
    _ _ c.seat_of.ensures c.seat_numbered.ensures
    ) ∙ seat_by_name c.args.name.now (map (option_map g.B.App.meaning) c.args.self.now.seats)
