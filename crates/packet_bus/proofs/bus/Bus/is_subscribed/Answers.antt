use Rattle.std.proofs.Common.{◌∙◌, ap, sym, arith}
use Rattle.lc_model.specs.Services.Bus.{pipe_at}
use Rattle.packet_bus.specs.Inside.{hears_in, place_at}
use Rattle.packet_bus.proofs.Places.{in_places, shown_pipe}
use Rattle.packet_bus.proofs.Heard.{row_says}
use Rattle.packet_bus.proofs.Calls.{heard_in}
use Rattle.packet_bus.proofs.bus.Bus.is_subscribed.Goals as goal

pub returns-then-mid-lt-MESSAGE_IDS : goal.returns-then-mid-lt-MESSAGE_IDS
returns-then-mid-lt-MESSAGE_IDS c =
    let bus = c.self.invariant.0 in
    let places = c.self.inside.places.items in
    let in_seats = in_places _ _ _ _ _ bus c.args.seat c.contains.ensures.below in
    c.contains.ensures.inside
    ∙ row_says _ _ _ _ _ bus c.args.seat c.args.mid c.index.result.now c.contains.ensures.below (omega (arith, c.if-mid-lt-MESSAGE_IDS.true)) c.index.ensures
    ∙ sym (heard_in c.self.inside.pool c.args.mid (place_at places c.args.seat))
    ∙ ap (hears_in c.args.mid) (sym (shown_pipe c.self.inside.pool places c.args.seat in_seats) ∙ ap (pipe_at c.args.seat) c.self.view_is)
