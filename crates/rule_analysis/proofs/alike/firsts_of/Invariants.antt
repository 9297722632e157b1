use Rattle.std.proofs.Common.{◌≡◌, length}
use Rattle.rule_analysis.specs.Findings.{AreFirsts}
use Rattle.rule_analysis.proofs.alike.firsts_of.Given as goal

abbrev pub invariant-loop-rule : goal.invariant-loop-rule
invariant-loop-rule l = record {
  count : length l.firsts.items ≡ l.rule;
  are : AreFirsts l.rules l.firsts.items;
}
