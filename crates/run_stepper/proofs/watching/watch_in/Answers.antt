use Rattle.std.proofs.Common.{◌+◌, ap, refl}
use Rattle.run_stepper.specs.Stepping.{host_in, written_by}
use Rattle.run_stepper.proofs.Passing.{Laws, laws_of}
use Rattle.run_stepper.proofs.Shown.{ends_in_none, ends_in_part, goes_on, new_goes_on, nothing_shown, one_more}
use Rattle.run_stepper.proofs.watching.watch_in.Goals as goal

pub loop-init : goal.loop-init
loop-init g c =
    let laws : Laws = laws_of c.records_are_handed_out.ensures.begins c.records_are_handed_out.ensures.comes c.records_are_handed_out.ensures.goes c.the_rest_says_the_end.ensures.bad
    c.the_rest_says_the_end.ensures.whole c.the_rest_says_the_end.ensures.cut in
    record {
      ready = c.requires.rest;
      goes_on = new_goes_on (host_in c.args.stepping.now) c.requires.new;
      number = refl;
      room = c.requires.room;
      shown = λ seen. nothing_shown laws (host_in c.args.stepping.now) (g.R.ByteSource.source c.args.reader.now).rest (g.O.Observer.has_seen c.args.observer.now c.args.observer.now) c.requires.new seen;
    }

pub returns-in-NoRecord-clause-watched : goal.returns-in-NoRecord-clause-watched
returns-in-NoRecord-clause-watched g c = λ seen.
    let laws : Laws = laws_of c.records_are_handed_out.ensures.begins c.records_are_handed_out.ensures.comes c.records_are_handed_out.ensures.goes c.the_rest_says_the_end.ensures.bad
    c.the_rest_says_the_end.ensures.whole c.the_rest_says_the_end.ensures.cut in
    ends_in_none g.O.Observer.has_seen laws (host_in c.args.stepping.now) (host_in c.loop.stepping) (host_in c.handle_next.new.stepping)
    (g.R.ByteSource.source c.args.reader.now).rest (g.R.ByteSource.source c.loop.reader).rest (g.R.ByteSource.source c.handle_next.new.reader).rest c.loop.is_ended c.handle_next.new.is_ended
    c.args.observer.now c.loop.observer c.handle_next.new.observer c.loop.number (c.loop.invariant.shown seen)
    (written_by c.handle_next.new.stepping) c.in_ok-handle_next.field-0 c.in_ok-handle_next.ensures.arrives c.in-NoRecord.is (c.loop.number + 1) refl

pub returns-in-Part-clause-watched : goal.returns-in-Part-clause-watched
returns-in-Part-clause-watched g c = λ seen.
    let laws : Laws = laws_of c.records_are_handed_out.ensures.begins c.records_are_handed_out.ensures.comes c.records_are_handed_out.ensures.goes c.the_rest_says_the_end.ensures.bad
    c.the_rest_says_the_end.ensures.whole c.the_rest_says_the_end.ensures.cut in
    ends_in_part g.O.Observer.has_seen laws (host_in c.args.stepping.now) (host_in c.loop.stepping) (host_in c.handle_next.new.stepping)
    (g.R.ByteSource.source c.args.reader.now).rest (g.R.ByteSource.source c.loop.reader).rest (g.R.ByteSource.source c.handle_next.new.reader).rest c.loop.is_ended c.handle_next.new.is_ended
    c.args.observer.now c.loop.observer c.handle_next.new.observer c.loop.number (c.loop.invariant.shown seen)
    (written_by c.handle_next.new.stepping) c.in_ok-handle_next.field-0 c.in_ok-handle_next.ensures.arrives c.in-Part.is c.ending_at_end.result c.ending_at_end.ensures

pub loop-preserved : goal.loop-preserved
loop-preserved g c =
    let laws : Laws = laws_of c.records_are_handed_out.ensures.begins c.records_are_handed_out.ensures.comes c.records_are_handed_out.ensures.goes c.the_rest_says_the_end.ensures.bad
    c.the_rest_says_the_end.ensures.whole c.the_rest_says_the_end.ensures.cut in
    record {
      ready = c.handle_next.ensures.rest;
      goes_on = goes_on g.O.Observer.has_seen (g.R.ByteSource.source c.loop.reader).rest (g.R.ByteSource.source c.handle_next.new.reader).rest c.loop.is_ended c.handle_next.new.is_ended
          c.loop.observer c.handle_next.new.observer (host_in c.loop.stepping) (host_in c.handle_next.new.stepping)
          (written_by c.handle_next.new.stepping) c.in_ok-handle_next.field-0 c.in_ok-handle_next.ensures.arrives c.in-Whole.is;
      number = ap (λ n. n + 1) c.loop.invariant.number;
      room = c.handle_next.ensures.room;
      shown = λ seen. one_more g.O.Observer.has_seen laws (host_in c.args.stepping.now) (host_in c.loop.stepping) (host_in c.handle_next.new.stepping)
          (g.R.ByteSource.source c.args.reader.now).rest (g.R.ByteSource.source c.loop.reader).rest (g.R.ByteSource.source c.handle_next.new.reader).rest c.loop.is_ended c.handle_next.new.is_ended
          c.args.observer.now c.loop.observer c.handle_next.new.observer c.loop.number (c.loop.invariant.shown seen)
          (written_by c.handle_next.new.stepping) c.in_ok-handle_next.field-0 c.in_ok-handle_next.ensures.arrives c.in-Whole.is
          (g.O.Observer.has_seen c.args.observer.now c.show.new.self) (c.in_ok-show.ensures c.args.observer.now);
    }
