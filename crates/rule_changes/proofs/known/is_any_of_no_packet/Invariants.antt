use Rattle.std.proofs.Common.{◌≡◌, drop}
use Rattle.std.specs.List.{list_any}
use Rattle.rule_changes.specs.Known.{is_of_no_packet}
use Rattle.rule_changes.proofs.known.is_any_of_no_packet.Given as goal

abbrev pub invariant-loop-term : goal.invariant-loop-term
invariant-loop-term l = list_any is_of_no_packet l.terms ≡ list_any is_of_no_packet (drop l.term-index l.terms)
