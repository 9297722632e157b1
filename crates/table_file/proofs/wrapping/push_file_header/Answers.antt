use Rattle.table_file.proofs.Headers.{file_header_written}
use Rattle.table_file.proofs.wrapping.push_file_header.Goals as goal

pub returns : goal.returns
returns c =
    file_header_written c.args.out.now.items _ _ _ _ _ _ c.in_ok-push_u32.ensures c.in_ok-push_u32-2.ensures c.in_ok-push_u32-3.ensures
    c.in_ok-push_u32-4.ensures c.in_ok-push_u32-5.ensures c.in_ok-push_zeros.ensures
