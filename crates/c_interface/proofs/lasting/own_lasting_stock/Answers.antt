use Rattle.std.proofs.Common.{◌≡◌, subst, sym, List}
use Rattle.app_host.specs.Hosted.{Object}
use Rattle.app_host.specs.Whole.{AreSpares}
use Rattle.flight_core.specs.Run.{IsOfProfile}
use Rattle.flight_profile.specs.Stock.{names_of, own_names}
use Rattle.c_interface.proofs.lasting.own_lasting_stock.Goals as goal

pub returns-clause-spares : goal.returns-clause-spares
returns-clause-spares c = subst AreSpares (sym c.in_ok-both.ensures) c.in_ok-stock.ensures.spares

pub returns-clause-profile : goal.returns-clause-profile
returns-clause-profile c = subst (IsOfProfile c.args.schedule.now) (sym c.in_ok-both.ensures) c.in_ok-stock.ensures.profile

pub returns-clause-names : goal.returns-clause-names
returns-clause-names c = subst (λ (stock : List Object). names_of stock ≡ own_names) (sym c.in_ok-both.ensures) c.in_ok-stock.ensures.names
