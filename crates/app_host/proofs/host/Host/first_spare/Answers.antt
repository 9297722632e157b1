use Rattle.app_host.proofs.Searched.{spare_is}
use Rattle.std.proofs.Common.{◌∙◌, map}
use Rattle.app_host.proofs.Rosters.{spare_by_name}
use Rattle.app_host.proofs.host.Host.first_spare.Goals as goal

pub returns-clause-kept : goal.returns-clause-kept
returns-clause-kept g c =
    spare_is
    g.B.App.meaning
    c.args.name.now c.args.self.now.stock.items _ _ c.as_slice.ensures.value c.spare_of.ensures.first

pub returns-clause-own : goal.returns-clause-own
returns-clause-own g c =
    (
    spare_is
    g.B.App.meaning
    c.args.name.now c.args.self.now.stock.items _ _ c.as_slice.ensures.value c.spare_of.ensures.first
    ) ∙ spare_by_name c.args.name.now (map g.B.App.meaning c.args.self.now.stock.items)
