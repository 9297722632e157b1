use Rattle.std.proofs.Common.{◌≡◌, drop}
use Rattle.rule_analysis.specs.Fields.{read_one_field}
use Rattle.rule_analysis.proofs.pairs.read_one_field.Given as goal

abbrev pub invariant-loop-term : goal.invariant-loop-term
invariant-loop-term l = read_one_field l.first l.second ≡ read_one_field (drop l.term-index l.first) l.second
