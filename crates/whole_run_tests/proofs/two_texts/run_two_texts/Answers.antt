use Rattle.std.proofs.lemmas.Result.{IfOk-weaker}
use Rattle.whole_run_tests.proofs.TwoTexts.{writes_both}
use Rattle.whole_run_tests.proofs.two_texts.run_two_texts.Goals as goal

pub returns : goal.returns
returns g c = record { both = IfOk-weaker _ _ _ (λ answer kept. writes_both c.quiet_sequences_are_not_written.ensures _ _ _ kept) c.run_with_stock.ensures.promises }
