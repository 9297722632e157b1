use Rattle.mixed_stock_tests.proofs.Stock.{three}
use Rattle.mixed_stock_tests.proofs.running.run_mixed.Goals as goal

pub run_stock-requires-clause-mixed : goal.run_stock-requires-clause-mixed
run_stock-requires-clause-mixed g c = record {
  known = _;
  of_profile = c.in_ok-add-3.ensures.profile;
  names = three _ _ _ _ _ _ _ _ c.new-stock.ensures.items c.in_ok-add.ensures.names c.in_ok-add-2.ensures.names c.in_ok-add-3.ensures.names;
  fourth = c.in_ok-add_stranger.ensures.stranger;
}
