use Rattle.std.proofs.Common.{◌≡◌, take}
use Rattle.rule_analysis.specs.Laid.{chosen_of}
use Rattle.rule_analysis.proofs.packets.pair_bits.Given as goal

abbrev pub invariant-loop-field : goal.invariant-loop-field
invariant-loop-field l = l.chosen.items ≡ chosen_of (take l.field-index l.fields) l.bits
