use Rattle.std.proofs.Common.{arith}
use Rattle.lc_model.specs.Rule.{rules_of}
use Rattle.rule_changes.specs.RuleChanges.{IsGone}
use Rattle.rule_changes.proofs.Matched.{all_inside, all_so_far}
use Rattle.rule_changes.proofs.matching.gone_numbers.Goals as goal

pub loop-number-preserved : goal.loop-number-preserved
loop-number-preserved c = record {
  each = c.in_ok-push_gone.ensures.each c.loop-number.invariant.each;
  all = all_so_far (IsGone (rules_of c.args.old.now) (rules_of c.args.new.now) c.args.changes.now) c.loop-number.number c.loop-number.numbers.items
      c.push_gone.new.numbers.items c.loop-number.invariant.all c.in_ok-push_gone.ensures.own c.in_ok-push_gone.ensures.others;
}

pub returns : goal.returns
returns c = record {
  each = c.loop-number.invariant.each;
  all = λ number gone. c.loop-number.invariant.all number (omega (arith, c.loop-number-test.false, all_inside c.args.old.now (rules_of c.args.new.now) c.args.changes.now number gone)) gone;
}
