use Rattle.lc_model.specs.Condition.{condition_of}
use Rattle.rule_changes.specs.Known.{IsTied}
use Rattle.rule_changes.proofs.Settled.{never_decided, spent}
use Rattle.rule_changes.proofs.settling.chance_over.Goals as goal

pub returns-in-Never : goal.returns-in-Never
returns-in-Never c =
    never_decided c.args.terms.now (condition_of c.args.first.now) (condition_of c.args.second.now) (condition_of c.in_ok-question.question)
    (condition_of c.in_ok-question.question) c.in_ok-ask.field-0 c.requires.none c.requires.terms c.in_ok-question.ensures IsTied.free c.in-Never.is
    c.in_ok-ask.ensures

pub returns-in-Spent : goal.returns-in-Spent
returns-in-Spent c =
    spent c.args.terms.now (condition_of c.args.first.now) (condition_of c.args.second.now) (condition_of c.in_ok-question.question)
    (condition_of c.in_ok-question.question) c.in_ok-ask.field-0 c.requires.terms c.in_ok-question.ensures IsTied.free c.in-Spent.is c.in_ok-ask.ensures
