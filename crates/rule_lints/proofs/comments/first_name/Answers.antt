-- The first name stands behind the gaps in front.
use Rattle.std.proofs.Common.{sym, ◌∙◌}
use Rattle.rule_lints.proofs.Parting.{more_names, no_names}
use Rattle.rule_lints.proofs.comments.first_name.Goals as goal

pub returns-then-is_empty : goal.returns-then-is_empty
returns-then-is_empty c =
    no_names c.args.bytes.now c.split_at.result.1.now c.gaps.result c.gaps.ensures.count c.split_at.ensures.back (sym c.is_empty.ensures ∙ c.if-is_empty.true)

pub returns : goal.returns
returns c =
    more_names c.args.bytes.now c.split_at.result.1.now c.split_at-2.result.0.now c.split_at-2.result.1.now c.gaps.result c.name_length.result c.gaps.ensures.count c.split_at.ensures.back
    (sym c.is_empty.ensures ∙ c.if-is_empty.false) c.name_length.ensures.place c.split_at-2.ensures.front c.split_at-2.ensures.back
