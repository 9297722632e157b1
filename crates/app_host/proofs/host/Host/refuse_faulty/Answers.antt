use Rattle.std.proofs.Common.{sym}
use Rattle.app_host.proofs.Stepping.{refused_so}
use Rattle.app_host.proofs.Responses.{turned_away}
use Rattle.app_host.proofs.Boxes as boxes
use Rattle.app_host.specs.Hosted.{shown}
use Rattle.app_host.proofs.host.Host.refuse_faulty.Goals as goal

pub returns-clause-handled : goal.returns-clause-handled
returns-clause-handled g c =
    refused_so _ _ _ _ c.refuse_packet.result c.args.packet.now c.in-Some.reason (sym c.in-Some.ensures.fault) c.refuse_packet.ensures.handled

pub returns-clause-own : goal.returns-clause-own
returns-clause-own g c = turned_away _ _ _ _ _ c.refuse_packet.result c.args.packet.now c.in-Some.reason (sym c.in-Some.ensures.fault) c.refuse_packet.ensures.own

pub returns-clause-gone : goal.returns-clause-gone
returns-clause-gone g c = boxes.turned_away _ c.args.packet.now (shown g.B.App.meaning c.args.self.now) c.in-Some.reason (sym c.in-Some.ensures.fault)
