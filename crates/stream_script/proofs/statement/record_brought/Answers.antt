-- The kind and the body are read, and brought.
use Rattle.std.proofs.Common.{◌≡◌, subst, Result, Ok}
use Rattle.std.specs.Prelude.{IfOk}
use Rattle.stream_script.specs.declared.error.Reason.{Reason}
use Rattle.stream_script.specs.Script.{Said}
use Rattle.stream_script.proofs.Commands.{record_is}
use Rattle.stream_script.proofs.statement.record_brought.Goals as goal

pub returns-clause-said : goal.returns-clause-said
returns-clause-said c =
    subst (λ (r : Result Said Reason). IfOk c.bring.result (λ after. r ≡ Ok after))
    (record_is c.args.script c.args.kind.now c.args.bytes.now c.in_ok-kind.kind c.in_ok-body.body.items c.as_slice.result.now c.in_ok-kind.ensures c.in_ok-body.ensures.said c.as_slice.ensures.value)
    c.bring.ensures.said
