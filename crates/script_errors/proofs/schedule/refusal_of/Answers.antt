use Rattle.script_errors.proofs.Faults.{of_schedule}
use Rattle.script_errors.proofs.schedule.refusal_of.Goals as goal

pub message-requires : goal.message-requires
message-requires c = of_schedule c.args.text.now c.args.code c.args.number c.requires
