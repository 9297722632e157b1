use Rattle.std.proofs.Common.{◌≡◌, ◌++◌, ◌-◌, drop, length, option_map}
use Rattle.rule_layout.specs.Layout.{laid_out, laid_out_from}
use Rattle.rule_layout.specs.Pieces.{shapes_of}
use Rattle.rule_layout.proofs.writing.text_of.Given as goal

abbrev pub invariant-loop-count : goal.invariant-loop-count
invariant-loop-count l =
    l.out.items ++ laid_out_from l.layout (option_map (λ last. last.now) l.last) (shapes_of (drop l.count l.pieces)) ≡ laid_out (shapes_of l.pieces)

abbrev pub decreases-loop-count : goal.decreases-loop-count
decreases-loop-count l = length l.pieces - l.count
