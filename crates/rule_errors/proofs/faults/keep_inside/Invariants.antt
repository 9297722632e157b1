use Rattle.std.proofs.Common.{◌≡◌, ◌++◌, map, take, drop}
use Rattle.diagnostics.specs.Message.{within}
use Rattle.rule_errors.proofs.faults.keep_inside.Given as goal

abbrev pub invariant-loop-message : goal.invariant-loop-message
invariant-loop-message l =
    take l.message-index l.told ++ map (within l.text) (drop l.message-index l.told) ≡ map (within l.text) l.initial.told
