use Rattle.std.proofs.Common.{take}
use Rattle.std.specs.List.{AllZip}
use Rattle.rule_changes.proofs.Reworded.{IsRewordedRule}
use Rattle.rule_changes.proofs.rewording.are_reworded.Given as goal

abbrev pub invariant-loop-i : goal.invariant-loop-i
invariant-loop-i l = AllZip IsRewordedRule (take l.i l.old) (take l.i l.new)
