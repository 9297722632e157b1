use Rattle.std.proofs.Common.{◌≡◌, ◌++◌}
use Rattle.rule_parser.specs.Syntax.{items_of}
use Rattle.rule_lints.specs.Judged.{rules_below}
use Rattle.rule_lints.proofs.judging.add_rules.Given as goal

abbrev pub invariant-loop-number : goal.invariant-loop-number
invariant-loop-number l = l.found.items ≡ l.initial.found.items ++ rules_below (items_of l.items) l.rules l.number
