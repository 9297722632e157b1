use Rattle.std.proofs.Common.{rules, ◌∙◌}
use Rattle.std.proofs.lemmas.List.{drop_min}
use Rattle.flight_profile.proofs.in_force.image_of.Goals as goal

pub returns : goal.returns
returns c = (search rules) ∙ drop_min 116 c.args.file.now
