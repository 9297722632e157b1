use Rattle.std.specs.Prelude.{All}
use Rattle.rule_outline.specs.Uses.{IsUseOf}
use Rattle.rule_outline.proofs.outline.Outline.uses.Given as goal

abbrev pub invariant-loop-other : goal.invariant-loop-other
invariant-loop-other l = All (IsUseOf l.fn.name) l.uses.items
