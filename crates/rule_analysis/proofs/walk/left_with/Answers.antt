use Rattle.std.proofs.Common.{length, subst}
use Rattle.rule_analysis.specs.Fields.{field_number}
use Rattle.rule_analysis.specs.Search.{IsLeftWith}
use Rattle.rule_analysis.proofs.OpenLaws.{is_left_with}
use Rattle.rule_analysis.proofs.walk.left_with.Goals as goal

pub returns-in-Known : goal.returns-in-Known
returns-in-Known c =
    subst (IsLeftWith (field_number c.args.fields.now) c.args.terms.now c.args.field (length c.args.candidates.now) c.args.left.now c.args.candidate) c.in-Known.is
    (is_left_with (field_number c.args.fields.now) c.args.terms.now c.args.field (length c.args.candidates.now) c.args.left.now c.requires.ready c.args.candidate
    c.in_ok-value.field-0 c.in_ok-value.ensures.truth c.in_ok-value.ensures.terms)

pub returns-else-leads_nowhere : goal.returns-else-leads_nowhere
returns-else-leads_nowhere c =
    subst (IsLeftWith (field_number c.args.fields.now) c.args.terms.now c.args.field (length c.args.candidates.now) c.args.left.now c.args.candidate) c.in-Open.is
    (is_left_with (field_number c.args.fields.now) c.args.terms.now c.args.field (length c.args.candidates.now) c.args.left.now c.requires.ready c.args.candidate
    c.in_ok-value.field-0 c.in_ok-value.ensures.truth c.in_ok-value.ensures.terms)
