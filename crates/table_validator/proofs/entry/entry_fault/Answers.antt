use Rattle.std.proofs.Common.{◌∙◌, sym, arith}
use Rattle.table_file.specs.Layout.{layout_of}
use Rattle.table_validator.proofs.Used.{of_actionpoints, entry_judged}
use Rattle.table_validator.proofs.entry.entry_fault.Goals as goal

pub returns-in-Actionpoints : goal.returns-in-Actionpoints
returns-in-Actionpoints c =
    c.actionpoint_fault.ensures
    ∙ sym (entry_judged (layout_of c.args.layout) c.args.image.now c.args.number c.own_count.result c.watchpoint_count.result c.of-entry.result
    (of_actionpoints c.args.layout c.in-Actionpoints.is) c.own_count.ensures (omega (arith, c.if-number-own_count.false)) c.watchpoint_count.ensures c.of-entry.ensures)
