use Rattle.std.proofs.Common.{◌≡◌, ◌++◌, List}
use Rattle.diagnostics.specs.declared.message.Message.{Message}
use Rattle.rule_errors.proofs.faults.add_others.Given as goal

abbrev pub invariant-loop-error : goal.invariant-loop-error
invariant-loop-error l = (more : List Message) × (l.told.items ≡ l.initial.told.items ++ more)
