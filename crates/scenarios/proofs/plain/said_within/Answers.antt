-- A line more.
use Rattle.std.proofs.Common.{rules}
use Rattle.scenarios.proofs.Steps.{ended_there, more_there, refused_there, spent_there}
use Rattle.scenarios.proofs.plain.said_within.Goals as goal

pub returns-then-place-lines-clause-said : goal.returns-then-place-lines-clause-said
returns-then-place-lines-clause-said c =
    ended_there c.args.rules.now c.args.changes.now c.args.lines.now _ c.loop.counter _ c.loop.going c.loop.invariant c.going.inside.place c.going.inside.said
    (search rules) (search rules) (search rules)

pub returns-in-Err-Line-clause-refused : goal.returns-in-Err-Line-clause-refused
returns-in-Err-Line-clause-refused c =
    refused_there c.args.rules.now c.args.changes.now c.args.lines.now _ c.loop.counter _ c.loop.going c.loop.invariant c.going.inside.place _
    (search rules) (search rules) (search rules) (search rules)

pub loop-preserved : goal.loop-preserved
loop-preserved c =
    more_there c.args.rules.now c.args.changes.now c.args.lines.now _ c.loop.counter _ c.loop.going c.loop.invariant c.going.inside.place c.in-Ok.after
    (search rules) (search rules) (search rules) (search rules)

pub returns-then-going-lines-clause-said : goal.returns-then-going-lines-clause-said
returns-then-going-lines-clause-said c =
    ended_there c.args.rules.now c.args.changes.now c.args.lines.now _ c.loop.counter _ c.loop.going c.loop.invariant c.going-2.inside.place c.going-2.inside.said
    (search rules) (search rules) (search rules)

pub returns-clause-refused : goal.returns-clause-refused
returns-clause-refused c =
    spent_there c.args.rules.now c.args.changes.now c.args.lines.now _ c.loop.counter _ c.loop.going c.loop.invariant c.going-2.inside.place
    (search rules) (search rules) (search rules)
