use Rattle.std.proofs.Common.{◌≡◌, length}
use Rattle.std.specs.List.{AllByRecursion}
use Rattle.lc_model.specs.Tables.Image.{numbers_below}
use Rattle.run_account.specs.Lanes.{new_lane, rules_of}
use Rattle.run_account.specs.declared.lanes.Lane.{Lane}
use Rattle.run_account.proofs.lanes.lanes_of.Given as goal

abbrev pub invariant-loop-rule : goal.invariant-loop-rule
invariant-loop-rule l = record {
  lanes : AllByRecursion (λ (lane : Lane). lane ≡ new_lane l.schedule lane) l.lanes.items;
  numbered : rules_of l.lanes.items ≡ numbers_below l.rule;
  count : length l.lanes.items ≡ l.rule;
}
