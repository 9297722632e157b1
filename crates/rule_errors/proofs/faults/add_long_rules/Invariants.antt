use Rattle.std.proofs.Common.{◌≡◌, ◌++◌, List}
use Rattle.diagnostics.specs.declared.message.Message.{Message}
use Rattle.rule_errors.proofs.faults.add_long_rules.Given as goal

abbrev pub invariant-loop-rule : goal.invariant-loop-rule
invariant-loop-rule l = (more : List Message) × (l.told.items ≡ l.initial.told.items ++ more)
