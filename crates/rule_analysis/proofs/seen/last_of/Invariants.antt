use Rattle.std.proofs.Common.{◌≡◌, drop}
use Rattle.lc_model.specs.LimitChecker.Watch.{last_packet}
use Rattle.rule_analysis.specs.Came.{history_of}
use Rattle.rule_analysis.proofs.seen.last_of.Given as goal

abbrev pub invariant-loop-packet : goal.invariant-loop-packet
invariant-loop-packet l = last_packet l.mid (history_of l.packets) ≡ last_packet l.mid (history_of (drop l.packet-index l.packets))
