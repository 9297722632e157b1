use Rattle.whole_run_tests.proofs.WithStock.{four, keeps}
use Rattle.whole_run_tests.proofs.with_stock.run_with_stock.Goals as goal

pub returns : goal.returns
returns g c = record {
  promises =
      keeps _ c.args.schedule.now _ _ _
      (four _ _ _ _ _ _ _ _ _ _ c.new-stock.ensures.items c.in_ok-add.ensures.names c.in_ok-add-2.ensures.names c.in_ok-add-3.ensures.names c.in_ok-add-4.ensures.names)
      (c.run.ensures.promises.profile c.in_ok-add-4.ensures.profile).by_texts (c.run.ensures.promises.profile c.in_ok-add-4.ensures.profile).failures
      c.run.ensures.promises.refuses;
}
