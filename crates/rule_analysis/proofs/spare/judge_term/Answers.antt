use Rattle.std.proofs.Common.{get_or, subst, sym, refl, inl, inr}
use Rattle.rule_analysis.proofs.SpareLaws.{own_of, pushed_is_told, needed_at, needed_counted}
use Rattle.std.specs.List.{AllByRecursion}
use Rattle.lc_model.specs.Condition.{condition_of}
use Rattle.lc_model.specs.declared.rule.Rule.{Rule}
use Rattle.lc_model.specs.Rule.{rule_of, rules_of}
use Rattle.rule_analysis.specs.Spare.{CanDoWithout, IsSpare}
use Rattle.rule_analysis.proofs.Each.{both, there_mapped}
use Rattle.rule_analysis.proofs.spare.judge_term.Goals as goal

pub returns-in_ok-push-in-Some-clause-sound : goal.returns-in_ok-push-in-Some-clause-sound
returns-in_ok-push-in-Some-clause-sound c = λ before.
    subst (AllByRecursion (IsSpare (rules_of c.args.rules.now))) (sym c.in_ok-push-in-Some.ensures.items)
    (both (IsSpare (rules_of c.args.rules.now)) c.args.spare.now.items _ before (
      record {
        rule = rule_of c.index-rules-rule.result;
        rule_is = there_mapped rule_of c.args.rules.now c.args.rule c.index-rules-rule.result c.requires.inside c.index-rules-rule.is;
        without = subst (λ (rule : Rule). CanDoWithout (condition_of rule.cond) c.args.term.now c.in-Some.taken_as) (sym c.index-rules-rule.is)
            (rw c.in-Some.is at c.in_ok-taken_as.ensures).without;
      },
      tt,
    ))

pub taken_as-requires : goal.taken_as-requires
taken_as-requires c =
    own_of c.args.rules.now c.args.rule c.index-rules-rule.result c.args.term.now c.requires.inside c.index-rules-rule.is c.requires.own

pub returns-in_ok-push-in-Some-clause-told : goal.returns-in_ok-push-in-Some-clause-told
returns-in_ok-push-in-Some-clause-told c =
    pushed_is_told c.args.unsettled.now (rules_of c.args.rules.now) c.args.rule c.args.term.now c.args.spare.now.items c.push.new.self.items _ refl refl
    c.in_ok-push-in-Some.ensures.items

pub returns-in-None-clause-told : goal.returns-in-None-clause-told
returns-in-None-clause-told c =
    needed_at c.count_some.new.count c.args.rules.now c.args.rule c.index-rules-rule.result c.args.term.now c.args.spare.now.items c.requires.inside c.index-rules-rule.is
    (needed_counted c.taken_as.new.unsettled c.count_some.new.count (condition_of (get_or c.args.rules.now c.args.rule c.index-rules-rule.result).cond) c.args.term.now
    c.count_some.ensures.counts (c.in_ok-taken_as.ensures.needed c.in-None.is))

pub returns-in_ok-push-in-Some-clause-once : goal.returns-in_ok-push-in-Some-clause-once
returns-in_ok-push-in-Some-clause-once c = inr (_, refl, refl, c.in_ok-push-in-Some.ensures.items)

pub returns-in-None-clause-once : goal.returns-in-None-clause-once
returns-in-None-clause-once c = inl refl
