-- Fewer words say no ramp.
use Rattle.scenarios.proofs.Short.{no_ramp}
use Rattle.std.proofs.Common.{sym}
use Rattle.scenarios.proofs.ramp.ramp_in.Goals as goal

pub returns-in-empty-clause-exact : goal.returns-in-empty-clause-exact
returns-in-empty-clause-exact c = sym (no_ramp c.args.fields.now c.args.words.now c.in-empty.len_below)
