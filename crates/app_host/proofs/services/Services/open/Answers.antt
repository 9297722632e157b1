use Rattle.std.proofs.Common.{◌<◌, length, ◌∙◌, refl, arith}
use Rattle.app_host.proofs.Seats.{may_register, is_answered, answered_by, opened, new_pipe_there, subscribed_all}
use Rattle.lc_model.proofs.Services.SenderLaws.{registering_by_name}
use Rattle.app_host.proofs.services.Services.open.Goals as goal

pub unwrap-requires-2 : goal.unwrap-requires-2
unwrap-requires-2 c =
    is_answered c.register.result c.register.new.self _
    (c.register.ensures.answer ∙ may_register c.args.seat c.args.name.now c.args.self.now.events c.requires.name.own c.requires.free.sender c.requires.unused.sender)

pub returns : goal.returns
returns c =
    let registers = may_register c.args.seat c.args.name.now c.args.self.now.events c.requires.name.own c.requires.free.sender c.requires.unused.sender in
    let inside : c.args.seat < length c.args.self.now.bus = let eight = c.add_pipe.ensures.eight in let below = c.requires.seat in omega (arith, eight, below) in
    let begun = new_pipe_there c.args.seat c.args.self.now.bus c.add_pipe.new.self inside c.requires.free.pipe c.add_pipe.ensures.after in
    opened c.args.seat c.args.name.now _ c.args.self.now _ registering_by_name
    (record { seats = c.is_service.ensures.seats; names = c.is_service.ensures.names; count = c.is_service.ensures.count }) c.requires.seat inside registers
    (subscribed_all c.args.seat c.args.message_ids.now c.args.self.now.bus c.add_pipe.new.self c.subscribe.new.bus begun.0 begun.1 c.subscribe.ensures)
    (answered_by c.register.result c.register.new.self _ (c.register.ensures.answer ∙ registers))
    refl refl refl refl
