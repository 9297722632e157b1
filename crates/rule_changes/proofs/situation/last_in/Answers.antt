use Rattle.std.proofs.Common.{rules}
use Rattle.rule_changes.proofs.Situations.{last_is_recent, last_is_aged, none_came}
use Rattle.rule_changes.proofs.situation.last_in.Goals as goal

pub returns-in-Some : goal.returns-in-Some
returns-in-Some c = last_is_recent c.args.situation.now c.args.mid c.deref.result.now c.in-Some.packet.now (search rules) (search rules)

pub returns-in-None : goal.returns-in-None
returns-in-None c = none_came c.args.situation.now c.args.mid c.deref.result.now c.deref-2.result.now (search rules) (search rules) (search rules) (search rules)

pub returns-in-Some-last_of : goal.returns-in-Some-last_of
returns-in-Some-last_of c =
    last_is_aged c.args.situation.now c.args.mid c.deref.result.now c.deref-2.result.now c.in-Some-last_of.packet.now (search rules) (search rules) (search rules)
    (search rules)
