use Rattle.std.proofs.Common.{◌≡◌, take}
use Rattle.std.specs.Prelude.{IfSome}
use Rattle.lc_model.specs.Tables.Equation.{distinct}
use Rattle.rule_errors.specs.Places.{IsBeyond}
use Rattle.rule_errors.proofs.rules.count_different.Given as goal

abbrev pub invariant-loop-number : goal.invariant-loop-number
invariant-loop-number l = record {
  different : l.different.keys ≡ distinct (take l.number l.mentions);
  beyond : IfSome l.beyond (IsBeyond l.mentions);
}
