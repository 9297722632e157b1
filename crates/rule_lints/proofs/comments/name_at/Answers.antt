use Rattle.rule_lints.proofs.Naming.{named_at, unnamed_at}
use Rattle.rule_lints.proofs.comments.name_at.Goals as goal

pub returns-in-Some : goal.returns-in-Some
returns-in-Some c = named_at c.args.names.now c.args.number _ _ c.in-Some.ensures.lookup.0 c.in-Some.ensures.lookup.1

pub returns-in-None : goal.returns-in-None
returns-in-None c = unnamed_at c.args.names.now c.args.number c.in-None.ensures.lookup.0
