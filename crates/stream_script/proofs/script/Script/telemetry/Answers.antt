-- What was written to the front is the telemetry.
use Rattle.std.proofs.Common.{◌≡◌, subst, List, ℕ}
use Rattle.std.specs.Prelude.{IfOk}
use Rattle.stream_script.specs.declared.kind.RecordKind.TheVariants.{Packet}
use Rattle.stream_script.specs.Script.{recorded}
use Rattle.stream_script.proofs.Commands.{telemetry_in_front}
use Rattle.stream_script.proofs.script.Script.telemetry.Goals as goal

pub returns : goal.returns
returns c =
    subst (λ (packet : List ℕ). IfOk c.with_record.result (λ after. after ≡ recorded Packet packet c.args.self))
    (telemetry_in_front c.args.mid c.args.count c.args.time c.args.payload.now _ c.build_telemetry-size.new.out c.front.result.now c.build_telemetry-size.result
    c.build_telemetry-size.ensures.size c.build_telemetry-size.ensures.bytes c.front.ensures)
    c.with_record.ensures
