use Rattle.std.proofs.Common.{ap, ◌∙◌, arith}
use Rattle.lc_model.specs.Tables.File.{opened, wrapped}
use Rattle.lc_model.proofs.Tables.HalfFiles.{is_table_file}
use Rattle.table_file.proofs.Headers.{file_written}
use Rattle.lc_model.proofs.Tables.FileLaws.{one_spelling}
use Rattle.table_file.proofs.wrapping.wrap.Goals as goal

pub returns-clause-opens : goal.returns-clause-opens
returns-clause-opens c =
    ap opened (file_written c.args.kind c.args.image.now _ _ _ _ c.in_ok-out.ensures.items c.in_ok-push_file_header.ensures
    c.in_ok-push_table_header.ensures c.in_ok-extend_from_slice.ensures.items)
    ∙ one_spelling.spelled_is_opened (wrapped c.args.kind c.args.image.now) (is_table_file c.args.kind c.args.image.now (omega (arith, c.requires)))
