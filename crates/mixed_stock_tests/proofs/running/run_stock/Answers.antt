use Rattle.std.proofs.Common.{refl}
use Rattle.mixed_stock_tests.proofs.running.run_stock.Goals as goal

pub returns-clause-mixed : goal.returns-clause-mixed
returns-clause-mixed g c = record {
  stock = _;
  mixed = c.requires.mixed;
  mission = _;
  texts = refl;
  answers = c.run.ensures.promises.reasons;
}
