use Rattle.std.proofs.Common.{◌≡◌, drop, fold}
use Rattle.rule_analysis.specs.Laid.{byte_over, laid_over}
use Rattle.rule_analysis.proofs.packets.byte_over.Given as goal

abbrev pub invariant-loop-one : goal.invariant-loop-one
invariant-loop-one l = byte_over l.chosen l.mid l.place ≡ fold (laid_over l.mid l.place) l.byte (drop l.one-index l.chosen)
