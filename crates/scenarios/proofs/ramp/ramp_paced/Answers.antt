-- Fewer words say no pace.
use Rattle.scenarios.proofs.Short.{no_pace}
use Rattle.std.proofs.Common.{sym}
use Rattle.scenarios.proofs.ramp.ramp_paced.Goals as goal

pub returns-in_default-clause-exact : goal.returns-in_default-clause-exact
returns-in_default-clause-exact c = sym (no_pace c.args.fields.now c.args.name.now c.args.from.now c.args.to.now c.args.words.now c.in_default.len_below)
