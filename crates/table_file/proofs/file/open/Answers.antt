use Rattle.std.proofs.Common.{ap, ◌∙◌, arith}
use Rattle.lc_model.specs.Tables.File.{opened}
use Rattle.table_file.proofs.Opening.{spelled, answers_ok}
use Rattle.lc_model.proofs.Tables.FileLaws.{one_spelling}
use Rattle.table_file.proofs.file.open.Goals as goal

pub returns-clause-spelled : goal.returns-clause-spelled
returns-clause-spelled c =
    spelled c.args.bytes.now c.read_headers.result one_spelling (λ i. omega (arith, c.type_inv.bytes i)) c.read_headers.ensures

pub returns-clause-again : goal.returns-clause-again
returns-clause-again c = λ file is e.
    answers_ok c.read_headers.result (opened c.args.bytes.now) file c.read_headers.ensures
    (ap opened e ∙ one_spelling.spelled_is_opened file is)
