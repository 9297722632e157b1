use Rattle.lc_model.proofs.Tables.SoundSensible.{sound_bytes_are_sensible}
use Rattle.lc_model.proofs.laws.limit_checker.sound_bytes_are_sensible.Goals as goal

pub returns : goal.returns
returns c = sound_bytes_are_sensible
