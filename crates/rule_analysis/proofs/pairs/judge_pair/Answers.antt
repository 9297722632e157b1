use Rattle.std.proofs.Common.{subst, sym, arith, get_or, refl, Some, None}
use Rattle.rule_analysis.proofs.PairLaws.{pushed_is_settled, none_is_settled, settled_counted}
use Rattle.std.specs.List.{AllByRecursion}
use Rattle.lc_model.specs.declared.rule.Rule.{Rule}
use Rattle.lc_model.specs.Condition.{condition_of}
use Rattle.lc_model.specs.Rule.{rule_of, rules_of}
use Rattle.rule_analysis.specs.Findings.{IsPair, IsRelated}
use Rattle.rule_analysis.proofs.Each.{both, there_mapped}
use Rattle.rule_analysis.proofs.OrderLaws.{none_comes, one_comes}
use Rattle.rule_analysis.proofs.pairs.judge_pair.Goals as goal

pub returns-in_ok-push-in-Some-clause-sound : goal.returns-in_ok-push-in-Some-clause-sound
returns-in_ok-push-in-Some-clause-sound c = λ before.
    subst (AllByRecursion (IsPair (rules_of c.args.rules.now))) (sym c.in_ok-push-in-Some.ensures.items)
    (both (IsPair (rules_of c.args.rules.now)) c.args.pairs.now.items _ before (
      record {
        order = c.requires.order;
        first = rule_of c.index-rules-first-2.result;
        first_is = there_mapped rule_of c.args.rules.now c.args.first c.index-rules-first-2.result (omega arith) c.index-rules-first-2.is;
        second = rule_of c.index-rules-second-2.result;
        second_is = there_mapped rule_of c.args.rules.now c.args.second c.index-rules-second-2.result c.requires.inside c.index-rules-second-2.is;
        related = subst (λ (rule : Rule). IsRelated (condition_of rule.cond) (condition_of c.index-rules-second-2.result.cond) c.in-Some.relation) (sym c.index-rules-first-2.is)
            (subst (λ (rule : Rule). IsRelated (condition_of (get_or c.args.rules.now c.args.first c.index-rules-first-2.result).cond) (condition_of rule.cond) c.in-Some.relation)
            (sym c.index-rules-second-2.is) (rw c.in-Some.is at c.in_ok-found.ensures).related);
      },
      tt,
    ))

pub returns-in_ok-push-in-Some-clause-settled : goal.returns-in_ok-push-in-Some-clause-settled
returns-in_ok-push-in-Some-clause-settled c =
    pushed_is_settled c.count_some.new.count c.args.rules.now c.args.first c.args.second c.index-rules-first-2.result c.index-rules-second-2.result c.args.pairs.now.items
    c.push.new.self.items c.in-Some.relation _ (omega (arith, c.requires.order, c.requires.inside)) c.requires.inside c.index-rules-first-2.is c.index-rules-second-2.is
    refl refl refl c.in_ok-push-in-Some.ensures.items
    (settled_counted c.relation.new.unsettled c.count_some.new.count _ _ (Some c.in-Some.relation) c.count_some.ensures.counts
    (rw c.in-Some.is at c.in_ok-found.ensures).settled)

pub returns-in-None-clause-settled : goal.returns-in-None-clause-settled
returns-in-None-clause-settled c =
    none_is_settled c.count_some.new.count c.args.rules.now c.args.first c.args.second c.index-rules-first-2.result c.index-rules-second-2.result c.args.pairs.now.items
    (omega (arith, c.requires.order, c.requires.inside)) c.requires.inside c.index-rules-first-2.is c.index-rules-second-2.is
    (settled_counted c.relation.new.unsettled c.count_some.new.count _ _ None c.count_some.ensures.counts (rw c.in-None.is at c.in_ok-found.ensures).settled)

pub returns-then-not-branch-clause-order : goal.returns-then-not-branch-clause-order
returns-then-not-branch-clause-order c = λ are. none_comes c.args.pairs.now.items c.args.first c.args.second are

pub returns-in_ok-push-in-Some-clause-order : goal.returns-in_ok-push-in-Some-clause-order
returns-in_ok-push-in-Some-clause-order c = λ are.
    one_comes c.args.pairs.now.items c.push.new.self.items _ c.args.first c.args.second refl refl c.in_ok-push-in-Some.ensures.items are

pub returns-in-None-clause-order : goal.returns-in-None-clause-order
returns-in-None-clause-order c = λ are. none_comes c.args.pairs.now.items c.args.first c.args.second are
