use Rattle.std.proofs.Common.{◌≡◌, ◌<◌, ◌∙◌, ap, sym, subst, true≢false, true, length, arith}
use Rattle.std.specs.Prelude.{is_some}
use Rattle.packet_bus.specs.Line.{AreOnce, line_if, hears_mid, mids_in}
use Rattle.packet_bus.proofs.Once.{once_more, mids_lack, is_open_then, mids_are}
use Rattle.packet_bus.proofs.pipe.PipePlace.subscribe.Goals as goal

pub invariant_of-self : goal.invariant_of-self
invariant_of-self c =
    let is = c.self.invariant in
    let is_open = c.self.inside.is_open in
    let mids = c.self.inside.subscriptions.items in
    let slots = c.self.inside.waiting.items in
    let some : is_some (line_if is_open mids slots) ≡ true = ap is_some c.self.view_is ∙ c.requires.open in
    let room : length mids < 256 = omega (arith, c.requires.room, ap (λ place. length (mids_in place)) c.self.view_is, ap length (mids_are is_open mids slots some)) in
    record {
      depth = is.depth;
      short = is.short;
      few = omega (arith, room, c.push_reserved.ensures.len, c.push_reserved.new.self.ok.0, c.self.inside.subscriptions.ok.0);
      once = subst AreOnce (sym c.push_reserved.ensures.items)
          (once_more c.args.mid mids is.once (mids_lack is_open c.args.mid mids slots some (ap (hears_mid c.args.mid) c.self.view_is ∙ c.requires.anew)));
      has_room = omega (arith, is.has_room, c.push_reserved.ensures.capacity);
      closed = λ shut. absurd (true≢false (sym (is_open_then is_open mids slots some) ∙ shut));
    }
