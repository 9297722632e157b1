use Rattle.flight_profile.proofs.Named.{eight}
use Rattle.flight_profile.proofs.stock.own_stock.Goals as goal

pub returns-clause-names : goal.returns-clause-names
returns-clause-names c =
    eight _ _ _ _ _ _ _ _ _ _ _ _ _ _ _ _ _ _ c.new-stock.ensures.items c.in_ok-add_checker.ensures.names c.in_ok-add_checker-2.ensures.names c.in_ok-add_checker-3.ensures.names
    c.in_ok-add_checker-4.ensures.names c.in_ok-add.ensures.names c.in_ok-add-2.ensures.names c.in_ok-add-3.ensures.names c.in_ok-add-4.ensures.names
