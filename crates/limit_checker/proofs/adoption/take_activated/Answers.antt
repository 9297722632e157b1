use Rattle.lc_model.specs.Tables.Slot.{taken}
use Rattle.lc_model.specs.Services.Tables.{slot_at}
use Rattle.limit_checker.proofs.Adopting.{nothing_taken}
use Rattle.limit_checker.proofs.Judging.{stays}
use Rattle.limit_checker.proofs.adoption.take_activated.Goals as goal

pub returns-else-is_activated : goal.returns-else-is_activated
returns-else-is_activated c = stays taken c.args.slot c.args.tables.now (nothing_taken (slot_at c.args.slot c.args.tables.now) c.if-is_activated.ensures)
