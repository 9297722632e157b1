use Rattle.std.proofs.Common.{take}
use Rattle.rule_analysis.specs.Laid.{AreLaidFor}
use Rattle.rule_analysis.proofs.packets.packets_of.Given as goal

abbrev pub invariant-loop-one : goal.invariant-loop-one
invariant-loop-one l = AreLaidFor l.chosen (take l.one-index l.chosen) l.packets.items
