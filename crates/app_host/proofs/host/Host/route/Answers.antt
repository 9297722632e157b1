use Rattle.std.proofs.Common.{sym, ◌∙◌, rules}
use Rattle.app_host.proofs.Stepping.{for_events, for_tables, for_orders, for_others}
use Rattle.app_host.specs.Hosted.{shown}
use Rattle.app_host.proofs.Responses.{routed_events, routed_tables, routed_orders, routed_others}
use Rattle.app_host.proofs.Boxes as boxes
use Rattle.app_host.proofs.host.Host.route.Goals as goal

pub returns-in-6145-clause-handled : goal.returns-in-6145-clause-handled
returns-in-6145-clause-handled g c =
    for_events _ _ _ _ c.obey_events.result c.args.packet.now c.requires.good (sym c.message_id.ensures ∙ c.in-6145.is) c.obey_events.ensures.handled

pub returns-in-6148-clause-handled : goal.returns-in-6148-clause-handled
returns-in-6148-clause-handled g c =
    for_tables _ _ _ _ c.obey_tables.result c.args.packet.now c.requires.good (sym c.message_id.ensures ∙ c.in-6148.is) c.obey_tables.ensures.handled

pub returns-in-6150-clause-handled : goal.returns-in-6150-clause-handled
returns-in-6150-clause-handled g c =
    for_orders _ _ _ _ c.obey_orders.result c.args.packet.now c.requires.good (sym c.message_id.ensures ∙ c.in-6150.is) c.obey_orders.ensures.handled

pub returns-in-6145-clause-own : goal.returns-in-6145-clause-own
returns-in-6145-clause-own g c =
    routed_events _ (shown g.B.App.meaning c.args.self.now) _ _ _ c.obey_events.result c.args.packet.now (sym c.message_id.ensures ∙ c.in-6145.is) c.obey_events.ensures.own

pub returns-in-6148-clause-own : goal.returns-in-6148-clause-own
returns-in-6148-clause-own g c = routed_tables _ _ _ _ _ c.obey_tables.result c.args.packet.now (sym c.message_id.ensures ∙ c.in-6148.is) c.obey_tables.ensures.own

pub returns-in-6150-clause-own : goal.returns-in-6150-clause-own
returns-in-6150-clause-own g c = routed_orders _ _ _ _ _ c.obey_orders.result c.args.packet.now (sym c.message_id.ensures ∙ c.in-6150.is) c.obey_orders.ensures.own

pub returns-in-6145-clause-gone : goal.returns-in-6145-clause-gone
returns-in-6145-clause-gone g c = boxes.routed_events _ c.args.packet.now (shown g.B.App.meaning c.args.self.now) (sym c.message_id.ensures ∙ c.in-6145.is)

pub returns-in-6148-clause-gone : goal.returns-in-6148-clause-gone
returns-in-6148-clause-gone g c = boxes.routed_tables _ c.args.packet.now (shown g.B.App.meaning c.args.self.now) (sym c.message_id.ensures ∙ c.in-6148.is)

pub returns-in-6150-clause-gone : goal.returns-in-6150-clause-gone
returns-in-6150-clause-gone g c = boxes.routed_orders _ c.args.packet.now (shown g.B.App.meaning c.args.self.now) (sym c.message_id.ensures ∙ c.in-6150.is) c.obey_orders.ensures.gone

pub returns-in_default-clause-handled : goal.returns-in_default-clause-handled
returns-in_default-clause-handled g c = for_others _ _ _ _ c.pass_on.result c.args.packet.now c.requires.good (search rules) (search rules) (search rules) c.pass_on.ensures.handled

pub returns-in_default-clause-own : goal.returns-in_default-clause-own
returns-in_default-clause-own g c = routed_others _ _ _ _ _ c.pass_on.result c.args.packet.now (search rules) (search rules) (search rules) c.pass_on.ensures.own

pub returns-in_default-clause-gone : goal.returns-in_default-clause-gone
returns-in_default-clause-gone g c = boxes.routed_others _ c.args.packet.now (shown g.B.App.meaning c.args.self.now) (search rules) (search rules) (search rules)
