use Rattle.table_file.proofs.Appending.{watchpoint_written}
use Rattle.table_file.proofs.encode.push_watchpoint.Goals as goal

pub returns : goal.returns
returns c =
    watchpoint_written c.args.term.now c.code.result c.code-2.result c.value_bits.result c.args.out.now.items _ _ _ _ _ _ _ _
    c.code.ensures c.code-2.ensures c.value_bits.ensures
    c.in_ok-push.ensures.items c.in_ok-push-2.ensures.items c.in_ok-push_u16.ensures c.in_ok-push_u32.ensures
    c.in_ok-push_u32-2.ensures c.in_ok-push_u32-3.ensures c.in_ok-push_u32-4.ensures c.in_ok-push_u32-5.ensures
