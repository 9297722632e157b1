use Rattle.std.proofs.Common.{◌∙◌, arith, length-take, subst, take, List, ℕ}
use Rattle.run_stepper.specs.Stepping.{HandlesAlone, Waits, host_in, written_by}
use Rattle.run_stepper.proofs.Pieces.{more_fed}
use Rattle.run_stepper.proofs.watching.handle_next.Goals as goal

pub loop-is_ended-preserved : goal.loop-is_ended-preserved
loop-is_ended-preserved g c =
    let piece : List ℕ = take c.in_ok-count-in-Part.count c.read_piece.new.room in
    let waits : Waits (host_in c.loop-is_ended.stepping) (host_in c.handle.new.stepping) (written_by c.handle.new.stepping) =
    subst (HandlesAlone (host_in c.loop-is_ended.stepping) (host_in c.handle.new.stepping) (written_by c.handle.new.stepping)) c.in-Part.is (c.in_ok-handle.ensures.alone c.loop-is_ended.invariant.goes_on) in
    let more = more_fed g.O.Observer.has_seen (g.R.ByteSource.source c.args.reader.now).rest (g.R.ByteSource.source c.loop-is_ended.reader).rest (g.R.ByteSource.source c.read_piece.new.reader).rest
    c.args.is_ended.now c.loop-is_ended.is_ended c.read_piece.new.is_ended c.args.observer.now c.loop-is_ended.observer c.read_piece.new.observer
    (host_in c.args.stepping.now) (host_in c.loop-is_ended.stepping) (host_in c.handle.new.stepping) (host_in c.feed-taken.new.self)
    piece (written_by c.handle.new.stepping) c.loop-is_ended.invariant.came c.loop-is_ended.invariant.goes_on waits
    (omega (arith, length-take c.in_ok-count-in-Part.count c.read_piece.new.room, c.in_ok-count-in-Part.ensures.fits, c.loop-is_ended.invariant.room))
    c.in_ok-count-in-Part.ensures.took c.in_ok-count-in-Part.ensures.sees c.feed-taken.ensures.fed in
    record {
      ready = c.feed-taken.ensures.ready;
      goes_on = more.1;
      room = c.in_ok-count-in-Part.ensures.room ∙ c.loop-is_ended.invariant.room;
      came = more.0;
    }
