use Rattle.std.proofs.lemmas.Result.{IfOk-weaker}
use Rattle.whole_run_tests.proofs.LowVolts.{writes_by_its_text, writes_two_failures}
use Rattle.whole_run_tests.proofs.low_volts.run_low_volts.Goals as goal

pub returns-clause-any_stream : goal.returns-clause-any_stream
returns-clause-any_stream g c = IfOk-weaker _ _ _ (λ answer kept. writes_by_its_text _ _ _ kept) c.run_with_stock.ensures.promises

pub returns-clause-two_failures : goal.returns-clause-two_failures
returns-clause-two_failures g c = IfOk-weaker _ _ _ (λ answer kept. writes_two_failures c.args.schedule.now _ _ kept) c.run_with_stock.ensures.promises
