-- Three words alone say how often lines are said.
use Rattle.scenarios.proofs.Short.{few_times, many_times}
use Rattle.std.proofs.Common.{sym}
use Rattle.scenarios.proofs.repetition.times_in.Goals as goal

pub returns-in_default : goal.returns-in_default
returns-in_default c = sym (few_times c.args.words.now c.in_default.len_below)

pub returns-in_default-2 : goal.returns-in_default-2
returns-in_default-2 c = sym (many_times c.args.words.now c.in_default.len_at_least)
