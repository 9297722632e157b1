use Rattle.std.proofs.Common.{◌≡◌, ◌+◌, ◌∙◌, [], ◌∷◌, ◌++◌, ap, arith, length, length-append, subst, suc, sym}
use Rattle.std.proofs.lemmas.List.{map-append}
use Rattle.std.specs.List.{AllByRecursion}
use Rattle.lc_model.proofs.Tables.SaidLaws.{all_append}
use Rattle.lc_model.specs.Tables.Image.{numbers_below}
use Rattle.run_account.specs.Lanes.{new_lane, rules_of}
use Rattle.run_account.specs.declared.lanes.Lane.{Lane}
use Rattle.run_account.proofs.lanes.lanes_of.Goals as goal

pub loop-rule-preserved : goal.loop-rule-preserved
loop-rule-preserved c =
    let next : suc c.loop-rule.rule ≡ c.loop-rule.rule + 1 = omega arith in
    record {
      lanes =
          subst (AllByRecursion (λ (lane : Lane). lane ≡ new_lane c.args.schedule.now lane)) (sym c.in_ok-push.ensures.items)
          (all_append (λ (lane : Lane). lane ≡ new_lane c.args.schedule.now lane) c.loop-rule.lanes.items (c.new.result ∷ []) c.loop-rule.invariant.lanes (c.new.ensures.lane, tt));
      numbered =
          ap rules_of c.in_ok-push.ensures.items
          ∙ map-append (λ (lane : Lane). lane.rule) c.loop-rule.lanes.items (c.new.result ∷ [])
          ∙ (λ i. c.loop-rule.invariant.numbered i ++ c.new.ensures.rule i ∷ [])
          ∙ ap numbers_below next;
      count = ap length c.in_ok-push.ensures.items ∙ length-append c.loop-rule.lanes.items (c.new.result ∷ []) ∙ ap (λ n. n + 1) c.loop-rule.invariant.count;
    }
