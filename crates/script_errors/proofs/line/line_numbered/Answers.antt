use Rattle.std.proofs.Common.{refl}
use Rattle.script_errors.proofs.Places.{line_from}
use Rattle.script_errors.proofs.line.line_numbered.Goals as goal

pub returns : goal.returns
returns c =
    line_from c.args.text.now c.args.number c.line_begin-begin.result (record { begin = c.line_begin-begin.result; bytes = c.line_of.result })
    c.line_begin-begin.ensures refl c.line_of.ensures
