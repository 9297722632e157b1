use Rattle.std.proofs.Common.{ap, ◌+◌, IsTrue, Option, is_some, arith}
use Rattle.limit_engine.specs.declared.reaction.Turn.{Turn}
use Rattle.limit_engine.specs.declared.reaction.Failure.{Failure}
use Rattle.limit_engine.specs.Reactions.{asks}
use Rattle.limit_engine.proofs.Noting.{below_more, one_more, either_first, either_second}
use Rattle.limit_engine.proofs.sampling.note.Goals as goal
use Rattle.limit_engine.proofs.sampling.note.Goals.{in_default-via-in-None+in_default, in_default-via-in_default}

pub returns-in-None-None-clause-order : goal.returns-in-None-None-clause-order
returns-in-None-None-clause-order c = λ order. below_more 0 c.args.rule (c.args.rule + 1) c.args.asked.now.items (omega arith) order

pub returns-in_default-clause-order : goal.returns-in_default-clause-order
returns-in_default-clause-order c =
    let asking : IsTrue (asks c.args.reactions) = elim c.in_default.branch [
      | in_default-via-in-None+in_default w ↦ either_second (is_some c.args.reactions.turn) c.args.reactions.failure (ap (λ (o : Option Failure). is_some o) w.in_default.is-1)
      | in_default-via-in_default w ↦ either_first c.args.reactions.turn (is_some c.args.reactions.failure) (ap (λ (o : Option Turn). is_some o) w.in_default.is-0)
    ] in
    λ order. rw c.push_reserved.ensures.items
    (one_more 0 c.args.rule c.args.asked.now.items (record { rule = c.args.rule; reactions = c.args.reactions }) (omega arith) (omega arith) asking order)
