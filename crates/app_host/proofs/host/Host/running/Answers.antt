use Rattle.std.proofs.Common.{map}
use Rattle.std.specs.Prelude.{option_map}
use Rattle.app_host.proofs.Found.{runs_there}
use Rattle.app_host.proofs.host.Host.running.Goals as goal

pub returns : goal.returns
returns g c =
    runs_there c.args.name.now
    (map (option_map g.B.App.meaning) c.args.self.now.seats)
    c.seat_of.result c.is_some.result c.seat_of.ensures c.is_some.ensures
