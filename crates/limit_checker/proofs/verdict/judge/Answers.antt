use Rattle.lc_model.specs.Services.Tables.{slot_at}
use Rattle.limit_checker.specs.Housekeeping.{validation}
use Rattle.limit_checker.proofs.Judging.{stays, unasked}
use Rattle.limit_checker.proofs.verdict.judge.Goals as goal

pub returns-in-Unasked-clause-after : goal.returns-in-Unasked-clause-after
returns-in-Unasked-clause-after c =
    stays (validation c.args.kind) c.args.slot c.args.tables.now (unasked c.args.kind (slot_at c.args.slot c.args.tables.now) c.in-Unasked.ensures)
