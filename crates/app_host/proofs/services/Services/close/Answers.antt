use Rattle.std.proofs.Common.{◌∙◌, ap, refl}
use Rattle.lc_model.specs.Services.Bus.{after}
use Rattle.lc_model.proofs.Services.SenderLaws.{name_is_gone, unregistering_by_name}
use Rattle.app_host.proofs.Seats.{pipe_is_removed, may_unregister, answered_by}
use Rattle.app_host.proofs.services.Services.close.Goals as goal

pub returns : goal.returns
returns c =
    let goes = may_unregister c.args.seat c.args.self.now.events c.requires.sender in
    let gone = answered_by c.unregister.result c.unregister.new.self _ (c.unregister.ensures.answer ∙ goes) in
    record {
      bus = c.remove_pipe.ensures.after ∙ ap (after c.args.self.now.bus) (pipe_is_removed c.args.seat c.args.self.now.bus c.requires.pipe);
      events = gone;
      names = name_is_gone c.args.seat c.args.self.now.events c.unregister.new.self unregistering_by_name
          (record { seats = c.is_service.ensures.seats; names = c.is_service.ensures.names; count = c.is_service.ensures.count }) gone goes;
      tables = c.unregister-2.ensures;
      counts = refl;
      moment = refl;
      outgoing = refl;
    }
