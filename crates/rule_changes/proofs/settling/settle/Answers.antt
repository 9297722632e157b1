use Rattle.lc_model.specs.Condition.{condition_of}
use Rattle.rule_changes.proofs.settling.settle.Goals as goal

pub returns-in_default : goal.returns-in_default
returns-in_default c = c.change_by.ensures (condition_of c.args.old.now) (condition_of c.args.new.now) c.in_ok-lost.ensures c.in_ok-gained.ensures
