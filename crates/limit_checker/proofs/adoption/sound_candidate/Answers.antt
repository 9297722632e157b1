use Rattle.lc_model.specs.Services.Tables.{slot_at}
use Rattle.limit_checker.proofs.Adopting.{sound_one}
use Rattle.limit_checker.proofs.adoption.sound_candidate.Goals as goal

pub judged_before-requires : goal.judged_before-requires
judged_before-requires c = record { sound = sound_one c.args.kind (slot_at c.args.slot c.args.tables.now) c.in-Some.image.now c.requires.sound c.in-Some.ensures }
