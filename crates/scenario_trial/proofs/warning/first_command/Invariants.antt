-- The first of those that are left is the first of all.
use Rattle.std.proofs.Common.{◌≡◌, drop}
use Rattle.scenario_trial.specs.Warned.{first_command}
use Rattle.scenario_trial.proofs.warning.first_command.Given as goal

abbrev pub invariant-loop-change : goal.invariant-loop-change
invariant-loop-change l =
    first_command l.texts l.declared l.plain.lines.items l.n l.name (drop l.change-index l.changes) ≡ first_command l.texts l.declared l.plain.lines.items l.n l.name l.changes
