use Rattle.lc_model.proofs.LimitChecker.LaggingLaws.{rules_stay_behind}
use Rattle.lc_model.proofs.laws.limit_checker.rules_stay_behind.Goals as goal

pub returns : goal.returns
returns c = rules_stay_behind
