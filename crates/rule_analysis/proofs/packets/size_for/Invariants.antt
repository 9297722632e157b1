use Rattle.std.proofs.Common.{take}
use Rattle.rule_analysis.specs.Laid.{IsSize}
use Rattle.rule_analysis.proofs.packets.size_for.Given as goal

abbrev pub invariant-loop-one : goal.invariant-loop-one
invariant-loop-one l = IsSize (take l.one-index l.chosen) l.mid l.size
