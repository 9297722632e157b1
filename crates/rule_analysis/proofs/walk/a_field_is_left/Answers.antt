use Rattle.std.proofs.Common.{length}
use Rattle.rule_analysis.specs.Fields.{field_number}
use Rattle.rule_analysis.proofs.OpenLaws.{one_is_left}
use Rattle.rule_analysis.proofs.walk.a_field_is_left.Goals as goal

pub returns : goal.returns
returns c = one_is_left (field_number c.args.fields.now) c.args.terms.now (length c.args.chosen.now) (length c.args.candidates.now) c.args.left.now c.requires
