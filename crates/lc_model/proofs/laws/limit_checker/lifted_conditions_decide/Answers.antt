use Rattle.lc_model.proofs.LimitChecker.LiftedLaws.{lifted_says, lifted_decides}
use Rattle.lc_model.proofs.laws.limit_checker.lifted_conditions_decide.Goals as goal

pub returns-clause-says : goal.returns-clause-says
returns-clause-says c = lifted_says

pub returns-clause-decides : goal.returns-clause-decides
returns-clause-decides c = lifted_decides
