use Rattle.rule_analysis.proofs.FieldLists.{no_fields}
use Rattle.rule_analysis.proofs.fields.fields_of.Goals as goal

pub loop-less-init : goal.loop-less-init
loop-less-init c = no_fields c.args.terms.now c.new-fields.result.items c.new-fields.ensures.items
