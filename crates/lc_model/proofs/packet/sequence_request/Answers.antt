use Rattle.lc_model.proofs.Events.RequestBytes.{request_bytes}
use Rattle.lc_model.proofs.packet.sequence_request.Goals as goal

pub returns : goal.returns
returns c = request_bytes c.args.count c.args.number _ _ _ c.u16_bytes.ensures c.u16_bytes-2.ensures c.parity.ensures
