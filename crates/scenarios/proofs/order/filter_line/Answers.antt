-- Three words alone say a filter.
use Rattle.std.proofs.Common.{rules}
use Rattle.scenarios.proofs.Short.{few_filter, many_filter}
use Rattle.scenarios.proofs.order.filter_line.Goals as goal
use Rattle.scenarios.proofs.order.filter_line.Goals.{in_default-via-then-words-lt3, in_default-via-else-words-lt3+else-words-lt4}

pub returns-in_default-clause-refused : goal.returns-in_default-clause-refused
returns-in_default-clause-refused c =
    elim c.in_default.branch [ in_default-via-then-words-lt3 w ↦ few_filter c.args.words.now (search rules) | in_default-via-else-words-lt3+else-words-lt4 w ↦ many_filter c.args.words.now (search rules) ]
