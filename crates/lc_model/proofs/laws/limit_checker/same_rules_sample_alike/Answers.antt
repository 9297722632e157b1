use Rattle.lc_model.proofs.LimitChecker.Reordered.{same_rules_sample_alike}
use Rattle.lc_model.proofs.laws.limit_checker.same_rules_sample_alike.Goals as goal

pub returns : goal.returns
returns c = same_rules_sample_alike
