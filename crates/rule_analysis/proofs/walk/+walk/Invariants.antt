use Rattle.std.proofs.Common.{◌≡◌, ◌-◌, ◌+◌, ◌*◌, ◌^◌, ◌≤◌, ◌<◌, suc, List, length}
use Rattle.std.specs.List.{AllByRecursion}
use Rattle.lc_model.specs.declared.field.Term.{Term}
use Rattle.rule_analysis.specs.Fields.{field_number}
use Rattle.rule_analysis.specs.Open.{left_of}
use Rattle.rule_analysis.specs.Search.{HasTried, IsDeadEnd}
use Rattle.rule_analysis.specs.Steps.{NamesAll, numbered_from}
use Rattle.rule_analysis.proofs.walk.+walk.Given as goal

abbrev pub decreases-walk : goal.decreases-walk
decreases-walk l = length l.candidates.now - length l.chosen.now.items

abbrev pub invariant-loop-candidate : goal.invariant-loop-candidate
invariant-loop-candidate l = record {
  tried : HasTried (field_number l.fields) (left_of l.left) l.fn.chosen.items l.chosen.items l.candidate-items l.candidate-index;
  taken : (named : List Term) → NamesAll named l.terms → 1 ≤ length l.candidate-items →
      l.fn.steps + l.candidate-index < l.steps
      + l.candidate-index * 2 ^ length (numbered_from (field_number l.fields) named (suc (length l.fn.chosen.items))) + length l.candidate-items;
  still : length l.candidate-items ≡ 0 → l.steps ≡ l.fn.steps;
  ends : AllByRecursion (IsDeadEnd (field_number l.fields)) l.dead.items;
}
