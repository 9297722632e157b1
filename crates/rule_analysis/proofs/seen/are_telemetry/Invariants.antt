use Rattle.std.proofs.Common.{take, Vec, ℕ}
use Rattle.std.specs.Global.{Global}
use Rattle.std.specs.List.{AllByRecursion}
use Rattle.rule_analysis.specs.Findings.{IsTelemetry}
use Rattle.rule_analysis.proofs.seen.are_telemetry.Given as goal

abbrev pub invariant-loop-packet : goal.invariant-loop-packet
invariant-loop-packet l = AllByRecursion (λ (packet : Vec ℕ Global). IsTelemetry packet.items) (take l.packet-index l.packets)
