use Rattle.std.proofs.Common.{refl, ap, ◌∙◌}
use Rattle.lc_model.specs.Events.Request.{executive_services, command_done, command_refused}
use Rattle.app_host.proofs.Draining.{cut_short, responds_short}
use Rattle.app_host.proofs.OrdersObeyed.{order_done, order_cut, order_broken, order_refused}
use Rattle.app_host.proofs.OrdersTold.{responds_broken, responds_partly, responds_done}
use Rattle.app_host.proofs.Responding.{orders_turned_away}
use Rattle.app_host.proofs.Boxes.{left_obeyed, none_left}
use Rattle.app_host.specs.Hosted.{shown}
use Rattle.app_host.proofs.host.Host.obey_orders.Goals as goal

pub returns-in_err-sent-in-Ok-clause-handled : goal.returns-in_err-sent-in-Ok-clause-handled
returns-in_err-sent-in-Ok-clause-handled g c =
    cut_short _ _ _ _ _ _ _ _ c.from_residual.result c.in_err-sent-in-Ok.field-0.0 c.from_residual.ensures.1
    (order_broken c.args.packet.now _ _ _ c.requires.whole c.requires.quiet c.requires.none_yet c.in-Ok.ensures.prepared c.in_err-sent-in-Ok.field-0.0.sent _ _ _ c.in_err-sent-in-Ok.ensures.comes c.in_err-sent-in-Ok.ensures.own)

pub returns-in_err-total-in-Ok-clause-handled : goal.returns-in_err-total-in-Ok-clause-handled
returns-in_err-total-in-Ok-clause-handled g c =
    cut_short _ _ _ _ _ _ _ _ c.from_residual-in_err-total-in-Ok.result c.in_err-total-in-Ok.field-0.0 c.from_residual-in_err-total-in-Ok.ensures.1
    (order_cut c.args.packet.now _ _ _ c.requires.whole c.requires.quiet c.requires.none_yet c.in-Ok.ensures.prepared c.in_ok-sent-in-Ok.sent _ _ _ _ _ _ c.in_ok-sent-in-Ok.ensures.comes c.in_ok-sent-in-Ok.ensures.own _
    (c.command_done-text.ensures ∙ ap (command_done executive_services) c.function_code.ensures) c.tell.ensures c.flush.ensures.flushed c.in_err-total-in-Ok.field-0.0.sent c.in_err-total-in-Ok.ensures.sent)

pub returns-in_ok-total-in-Ok-clause-handled : goal.returns-in_ok-total-in-Ok-clause-handled
returns-in_ok-total-in-Ok-clause-handled g c =
    order_done c.args.packet.now _ _ _ c.requires.whole c.requires.quiet c.requires.none_yet c.in-Ok.ensures.prepared c.in_ok-sent-in-Ok.sent _ _ _ _ _ _ c.in_ok-sent-in-Ok.ensures.comes c.in_ok-sent-in-Ok.ensures.own _
    (c.command_done-text.ensures ∙ ap (command_done executive_services) c.function_code.ensures) c.tell.ensures c.flush.ensures.flushed c.in_ok-total-in-Ok.total c.in_ok-total-in-Ok.ensures.sent

pub returns-in-Err-clause-handled : goal.returns-in-Err-clause-handled
returns-in-Err-clause-handled g c =
    order_refused c.args.packet.now _ _ _ c.in-Err.numbers c.in-Err.ensures.prepared.0 c.in-Err.ensures.prepared.1 _ (c.command_refused-text.ensures ∙ ap (command_refused executive_services) c.as_slice.ensures.numbers) _ _
    c.tell_alone.result c.tell_alone.ensures.handled

pub returns-in_err-sent-in-Ok-clause-own : goal.returns-in_err-sent-in-Ok-clause-own
returns-in_err-sent-in-Ok-clause-own g c =
    responds_short _ _ _ _ _ _ c.from_residual.result c.in_err-sent-in-Ok.field-0.0 c.from_residual.ensures.1
    (responds_broken c.args.packet.now _ _ _ _ _ c.in-Ok.ensures.own _ _ _ c.in_err-sent-in-Ok.field-0.0.sent c.in_err-sent-in-Ok.ensures.own
    (c.in_err-sent-in-Ok.ensures.comes.calls ∙ c.in-Ok.ensures.prepared.whole.calls ∙ c.requires.none_yet))

pub returns-in_err-total-in-Ok-clause-own : goal.returns-in_err-total-in-Ok-clause-own
returns-in_err-total-in-Ok-clause-own g c =
    responds_short _ _ _ _ _ _ c.from_residual-in_err-total-in-Ok.result c.in_err-total-in-Ok.field-0.0 c.from_residual-in_err-total-in-Ok.ensures.1
    (responds_partly c.args.packet.now _ _ _ _ _ c.in-Ok.ensures.own _ _ _ _ _ _ _ c.in_ok-sent-in-Ok.sent c.in_ok-sent-in-Ok.ensures.own c.in_ok-sent-in-Ok.ensures.comes.small refl
    (c.in_ok-sent-in-Ok.ensures.comes.whole.moment ∙ c.in-Ok.ensures.prepared.whole.moment) _ (c.command_done-text.ensures ∙ ap (command_done executive_services) c.function_code.ensures)
    c.tell.ensures c.flush.ensures.flushed
    (c.in_ok-sent-in-Ok.ensures.comes.whole.calls ∙ c.in-Ok.ensures.prepared.whole.calls ∙ c.requires.none_yet) c.in_err-total-in-Ok.field-0.0.sent c.in_err-total-in-Ok.ensures.sent)

pub returns-in_ok-total-in-Ok-clause-own : goal.returns-in_ok-total-in-Ok-clause-own
returns-in_ok-total-in-Ok-clause-own g c =
    responds_done c.args.packet.now _ _ _ _ _ c.in-Ok.ensures.own _ _ _ _ _ _ _ c.in_ok-sent-in-Ok.sent c.in_ok-sent-in-Ok.ensures.own c.in_ok-sent-in-Ok.ensures.comes.small refl
    (c.in_ok-sent-in-Ok.ensures.comes.whole.moment ∙ c.in-Ok.ensures.prepared.whole.moment) _ (c.command_done-text.ensures ∙ ap (command_done executive_services) c.function_code.ensures)
    c.tell.ensures c.flush.ensures.flushed
    (c.in_ok-sent-in-Ok.ensures.comes.whole.calls ∙ c.in-Ok.ensures.prepared.whole.calls ∙ c.requires.none_yet) c.in_ok-total-in-Ok.total c.in_ok-total-in-Ok.ensures.sent

pub returns-in-Err-clause-own : goal.returns-in-Err-clause-own
returns-in-Err-clause-own g c =
    orders_turned_away c.args.packet.now _ _ _ _ c.in-Err.ensures.own.1 c.in-Err.numbers c.in-Err.ensures.own.0 _
    (c.command_refused-text.ensures ∙ ap (command_refused executive_services) c.as_slice.ensures.numbers) _ _ c.tell_alone.result c.tell_alone.ensures.own

pub returns-in_err-sent-in-Ok-clause-gone : goal.returns-in_err-sent-in-Ok-clause-gone
returns-in_err-sent-in-Ok-clause-gone g c = left_obeyed _ c.args.packet.now (shown g.B.App.meaning c.args.self.now) _ c.in-Ok.ensures.own.succession c.in-Ok.ensures.own.is c.in-Ok.ensures.own.box

pub returns-in_err-total-in-Ok-clause-gone : goal.returns-in_err-total-in-Ok-clause-gone
returns-in_err-total-in-Ok-clause-gone g c = left_obeyed _ c.args.packet.now (shown g.B.App.meaning c.args.self.now) _ c.in-Ok.ensures.own.succession c.in-Ok.ensures.own.is c.in-Ok.ensures.own.box

pub returns-in_ok-total-in-Ok-clause-gone : goal.returns-in_ok-total-in-Ok-clause-gone
returns-in_ok-total-in-Ok-clause-gone g c = left_obeyed _ c.args.packet.now (shown g.B.App.meaning c.args.self.now) _ c.in-Ok.ensures.own.succession c.in-Ok.ensures.own.is c.in-Ok.ensures.own.box

pub returns-in-Err-clause-gone : goal.returns-in-Err-clause-gone
returns-in-Err-clause-gone g c = none_left _ c.args.packet.now (shown g.B.App.meaning c.args.self.now) _ c.in-Err.numbers c.in-Err.ensures.own.0
