use Rattle.table_file.proofs.Headers.{table_header_written}
use Rattle.table_file.proofs.wrapping.push_table_header.Goals as goal

pub returns : goal.returns
returns c =
    table_header_written c.args.kind c.args.length c.table_name-name.result.now c.args.out.now.items _ _ _ _ c.table_name-name.ensures.bytes
    c.in_ok-push_zeros.ensures c.in_ok-push_u32.ensures c.in_ok-extend_from_slice.ensures.items c.in_ok-push_zeros-2.ensures
