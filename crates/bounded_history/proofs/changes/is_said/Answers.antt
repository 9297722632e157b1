use Rattle.std.proofs.Common.{◌∙◌, sym}
use Rattle.bounded_history.proofs.Said.{last_is}
use Rattle.bounded_history.proofs.changes.is_said.Goals as goal

pub returns-in-Some : goal.returns-in-Some
returns-in-Some c = c.is_said_by.ensures ∙ sym (last_is c.args.entries.now c.in-Some.last.now c.args.entry c.in-Some.ensures.value)
