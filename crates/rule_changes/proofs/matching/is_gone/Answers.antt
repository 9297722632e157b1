use Rattle.rule_changes.proofs.Matched.{gone_if, gone_has_no_name}
use Rattle.rule_changes.proofs.matching.is_gone.Goals as goal

pub returns-clause-only : goal.returns-clause-only
returns-clause-only c =
    gone_if c.args.old.now c.args.new.now c.args.changes.now c.args.number c.index-old-number.result c.as_slice.result.now c.is_listed.result c.is_named.result
    c.requires c.index-old-number.is c.as_slice.ensures c.is_listed.ensures c.if-is_listed.false c.is_named.ensures

pub returns-clause-all : goal.returns-clause-all
returns-clause-all c =
    gone_has_no_name c.args.old.now c.args.new.now c.args.changes.now c.args.number c.index-old-number.result c.as_slice.result.now c.is_named.result c.requires
    c.index-old-number.is c.as_slice.ensures c.is_named.ensures
