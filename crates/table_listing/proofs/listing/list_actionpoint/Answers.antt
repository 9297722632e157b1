use Rattle.std.proofs.Common.{ap, ◌∙◌}
use Rattle.lc_model.specs.Tables.Image.{entry_at, watchpoint_count}
use Rattle.table_validator.specs.Sound.{adt_layout}
use Rattle.table_listing.specs.Formula.{formula_of}
use Rattle.table_listing.proofs.Listed.{adds_actionpoint}
use Rattle.table_listing.proofs.listing.list_actionpoint.Goals as goal

pub condition_of-requires : goal.condition_of-requires
condition_of-requires g c = (watchpoint_count c.args.valid.now.bytes, c.requires.sound.watchpoints, c.actionpoint-entry.ensures.sound.equation)

pub returns : goal.returns
returns g c = adds_actionpoint c.args.number c.actionpoint-entry.result (entry_at (adt_layout c.args.valid.now.bytes) c.args.valid.now.bytes c.args.number)
    (formula_of c.in_ok-condition.condition) c.mode.result c.report.result c.sequence.result c.fails.result c.event_kind.result c.event_id.result c.text.result.now _ _
    (c.actionpoint-entry.ensures.entry ∙ ap (λ n. entry_at (adt_layout c.args.valid.now.bytes) c.args.valid.now.bytes n) c.from.ensures) c.mode.ensures c.report.ensures c.sequence.ensures c.fails.ensures c.event_kind.ensures c.event_id.ensures c.text.ensures
    c.in_ok-condition.ensures c.in_ok-writeln.ensures.bytes
