use Rattle.std.proofs.Common.{◌≡◌, ◌++◌, drop}
use Rattle.lc_model.specs.Rule.{rules_of}
use Rattle.watch_sharing.specs.Numbering.{all_mentions}
use Rattle.rule_errors.proofs.rules.mentions_of.Given as goal

abbrev pub invariant-loop-rule : goal.invariant-loop-rule
invariant-loop-rule l = l.found.items ++ all_mentions (rules_of (drop l.rule-index l.rules)) ≡ all_mentions (rules_of l.rules)
