-- The time is the moment.
use Rattle.std.proofs.Common.{◌≡◌, subst}
use Rattle.std.specs.Prelude.{IfOk}
use Rattle.lc_model.specs.declared.record.Moment.{Moment}
use Rattle.lc_model.specs.Packet.{telemetry}
use Rattle.stream_script.specs.declared.kind.RecordKind.TheVariants.{Packet}
use Rattle.stream_script.specs.Script.{recorded}
use Rattle.stream_script.proofs.statement.add_telemetry.Goals as goal

pub returns : goal.returns
returns c =
    subst (λ (time : Moment). IfOk c.telemetry.result (λ after. after ≡ recorded Packet (telemetry c.args.mid c.args.count time c.args.payload.now) c.args.script))
    c.moment-time.ensures c.telemetry.ensures
