-- The message id, what a command says, and the size, one behind the other.
use Rattle.std.proofs.Common.{◌≡◌, subst, List, ℕ}
use Rattle.std.specs.Prelude.{IfOk}
use Rattle.stream_script.proofs.Lines.{three_parts}
use Rattle.stream_script.proofs.shown.with_packet.Goals as goal

pub returns : goal.returns
returns c =
    subst (λ (all : List ℕ). IfOk c.with_size-2.result (λ after. after.items ≡ all))
    (three_parts c.args.packet.now c.args.text.items c.in_ok-text.text.items c.in_ok-text-2.text.items c.message_id.result c.if-packet-lt8.false c.message_id.ensures c.in_ok-text.ensures c.in_ok-text-2.ensures)
    c.with_size-2.ensures
