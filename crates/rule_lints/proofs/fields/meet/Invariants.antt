use Rattle.std.proofs.Common.{◌≡◌, false}
use Rattle.std.specs.List.{list_any}
use Rattle.lc_model.specs.Tables.Image.{numbers_below}
use Rattle.rule_lints.proofs.Meeting.{meets}
use Rattle.rule_lints.proofs.fields.meet.Given as goal

abbrev pub invariant-loop-behind : goal.invariant-loop-behind
invariant-loop-behind l = list_any (meets l.first l.second) (numbers_below l.behind) ≡ false
