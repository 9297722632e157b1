-- Two words alone say a state.
use Rattle.std.proofs.Common.{rules}
use Rattle.scenarios.proofs.Short.{few_state, many_state}
use Rattle.scenarios.proofs.order.state_line.Goals as goal
use Rattle.scenarios.proofs.order.state_line.Goals.{in_default-via-then-words-lt2, in_default-via-else-words-lt2+else-words-lt3}

pub returns-in_default-clause-refused : goal.returns-in_default-clause-refused
returns-in_default-clause-refused c =
    elim c.in_default.branch [
      | in_default-via-then-words-lt2 w ↦ few_state c.args.rules.now c.args.force c.args.words.now (search rules)
      | in_default-via-else-words-lt2+else-words-lt3 w ↦ many_state c.args.rules.now c.args.force c.args.words.now (search rules)
    ]
