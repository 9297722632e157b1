use Rattle.std.proofs.Common.{◌≡◌, ◌-◌, drop, length}
use Rattle.rule_layout.specs.Layout.{group_from, group_of}
use Rattle.rule_layout.specs.Pieces.{shapes_of}
use Rattle.rule_layout.proofs.group.group_of.Given as goal

abbrev pub invariant-loop-count : goal.invariant-loop-count
invariant-loop-count l =
    group_from l.kind l.group l.place (shapes_of (drop l.count l.rest)) ≡ group_of l.kind (shapes_of l.rest)

abbrev pub decreases-loop-count : goal.decreases-loop-count
decreases-loop-count l = length l.rest - l.count
