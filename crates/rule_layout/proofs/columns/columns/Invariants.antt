use Rattle.std.proofs.Common.{◌≡◌, ◌-◌, drop, length}
use Rattle.rule_layout.specs.Layout.{columns_from}
use Rattle.rule_layout.specs.Pieces.{shapes_of}
use Rattle.rule_layout.proofs.columns.columns.Given as goal

abbrev pub invariant-loop-count : goal.invariant-loop-count
invariant-loop-count l =
    columns_from l.is_part l.before l.sum (shapes_of (drop l.count l.rest)) ≡ columns_from l.is_part l.text (length l.text) (shapes_of l.rest)

abbrev pub decreases-loop-count : goal.decreases-loop-count
decreases-loop-count l = length l.rest - l.count
