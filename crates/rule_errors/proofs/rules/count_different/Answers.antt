use Rattle.std.proofs.Common.{rules, ◌≡◌, sym, ◌∙◌, subst, ◌+◌, List, take}
use Rattle.std.specs.Prelude.{IfSome}
use Rattle.lc_model.specs.declared.field.Term.{Term}
use Rattle.lc_model.specs.Tables.Equation.{distinct}
use Rattle.rule_errors.specs.Places.{IsBeyond}
use Rattle.rule_errors.proofs.Different.{beyond_here, goes_on}
use Rattle.rule_errors.proofs.rules.count_different.Goals as goal
use Rattle.rule_errors.proofs.rules.count_different.Goals.{then-branch, else-branch}

pub loop-number-preserved : goal.loop-number-preserved
loop-number-preserved c =
    let ts : List Term = c.args.mentions.now in
    let more : c.is_beyond.new.different.keys ≡ distinct (take (c.loop-number.number + 1) ts) =
    goes_on ts c.loop-number.number _ c.loop-number.different.keys c.is_beyond.new.different.keys c.loop-number-test.true (search rules)
    c.loop-number.invariant.different c.in_ok-is_beyond.ensures.added in
    record {
      different = more;
      beyond = elim c.if-branch.branch [
        | then-branch w ↦ subst (λ b. IfSome b (IsBeyond ts)) (sym w.beyond-is)
            (beyond_here ts c.loop-number.number _ _ _ c.loop-number.invariant.different more c.in_ok-is_beyond.ensures.added (sym c.in_ok-is_beyond.ensures.beyond ∙ w.if-branch.true))
        | else-branch w ↦ subst (λ b. IfSome b (IsBeyond ts)) (sym w.beyond-is) c.loop-number.invariant.beyond
      ];
    }
