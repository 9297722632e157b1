use Rattle.std.proofs.Common.{◌≡◌, drop}
use Rattle.rule_analysis.specs.Steps.{says_alike}
use Rattle.rule_analysis.proofs.outcomes.says_the_same.Given as goal

abbrev pub invariant-loop-term : goal.invariant-loop-term
invariant-loop-term l = says_alike l.terms l.one l.other ≡ says_alike (drop l.term-index l.terms) l.one l.other
