use Rattle.std.proofs.Common.{◌≡◌, drop}
use Rattle.lc_model.specs.Rule.{rules_of}
use Rattle.lc_model.specs.Tables.Compiling.{first_refused}
use Rattle.lc_model.specs.Tables.InForce.{limits}
use Rattle.rpn_compiler.proofs.Judging.{first_from}
use Rattle.rpn_compiler.proofs.limits.judge.Given as goal

abbrev pub invariant-loop-number : goal.invariant-loop-number
invariant-loop-number l = first_from l.number (rules_of (drop l.number l.rules)) ≡ first_refused limits (rules_of l.rules)
