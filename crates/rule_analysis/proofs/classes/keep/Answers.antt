use Rattle.std.proofs.Common.{rules, subst, sym}
use Rattle.rule_analysis.specs.Steps.{AreApart}
use Rattle.std.specs.List.{AllByRecursion}
use Rattle.rule_analysis.proofs.StepLaws.{apart_more}
use Rattle.rule_analysis.proofs.classes.keep.Goals as goal

pub returns-in_ok-push-clause-apart : goal.returns-in_ok-push-clause-apart
returns-in_ok-push-clause-apart c = λ apart.
    subst (AreApart c.args.terms.now) (sym c.in_ok-push.ensures.items)
    (apart_more c.args.terms.now c.args.kept.now.items _ apart
    (subst (AllByRecursion _) (search rules) (c.is_represented.ensures.none c.if-not-is_represented.true)))
