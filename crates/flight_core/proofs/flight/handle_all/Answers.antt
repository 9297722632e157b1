use Rattle.std.proofs.Common.{rules, ◌<◌, ◌∙◌, ap, refl, arith}
use Rattle.lc_model.specs.Tables.InForce.{layouts}
use Rattle.flight_core.specs.Flight.{stopped_by}
use Rattle.flight_core.proofs.Courses.{goes_on_board, takes_on_board, one_more, idle, comes_more}
use Rattle.flight_core.proofs.Cutting.{begins, comes, goes, ends_badly, ends_whole, ends_cut}
use Rattle.flight_core.proofs.Exits.{begins_so, shows_device, goes_on_behind, profile_stops, profile_reads, profile_ends}
use Rattle.flight_core.proofs.Reasons.{reason_to_stop, reason_to_read_no_more, reason_to_end}
use Rattle.flight_core.proofs.Retries.{stops_untried, reads_untried, ends_untried}
use Rattle.flight_core.proofs.flight.handle_all.Goals as goal

pub loop-total-init : goal.loop-total-init
loop-total-init g c = record {
  room = c.requires.room;
  bounded = omega (arith, c.requires.unread);
  far = begins_so _ _ _ begins (g.R.ByteSource.source c.args.reader.now) (g.O.Outlet.device c.args.out.now) (g.T.ByteSink.sink c.args.out.now) _
      (shows_device _ _ _ (g.met.O.Outlet.shows c.args.out.now) c.requires.empty) c.requires.nothing c.requires.between c.requires.open c.requires.unread c.requires.readable c.requires.writable;
}

pub loop-total-preserved-in-Ok-Some : goal.loop-total-preserved-in-Ok-Some
loop-total-preserved-in-Ok-Some g c =
    let handled = rw c.in-Ok-Some.field-0-is at c.in-Ok-Some.ensures.next in
    let fits : c.in-Ok-Some.total < 18446744073709551616 = search rules in
    record {
      room = c.loop-total.invariant.room;
      bounded = c.loop-total.invariant.bounded;
      far = one_more _ _ _ (goes_on_board (c.goes_on.ensures layouts)) goes _ _ _ _ _ _ _ _ c.loop-total.invariant.far _ _ _ _ fits handled c.in-Ok-Some.ensures.not_retried;
    }

pub loop-total-preserved : goal.loop-total-preserved
loop-total-preserved g c =
    let none = rw c.in-Ok-None.field-0-is at c.in-Ok-None.ensures.next in
    let far = idle _ _ _ _ _ _ _ _ _ _ _ c.loop-total.invariant.far _ _ _ none in
    let came = rw c.in-Ok-true.field-0-test at c.in-Ok-true.ensures.refilled in
    let behind = goes_on_behind _ _ _ _ _ _ _ _ _ _ _ far _ _ _ _ (g.met.O.Outlet.shows c.handle_next.new.writer) came.settled _ (g.met.O.Outlet.shows c.refill.new.out) in
    record {
      room = c.refill.ensures.room;
      bounded = c.refill.ensures.bounded;
      far = comes_more _ _ _ comes _ _ _ _ _ _ _ _ _ behind _ _ came.piece c.refill.ensures.not_retried;
    }

pub returns-in-Ok-false-clause-outcome : goal.returns-in-Ok-false-clause-outcome
returns-in-Ok-false-clause-outcome g c = λ known output same.
    let none = rw c.in-Ok-None.field-0-is at c.in-Ok-None.ensures.next in
    let over = rw c.in-Ok-false.field-0-test at c.in-Ok-false.ensures.refilled in
    profile_ends (record {
      goes_on = goes_on_board (c.goes_on.ensures layouts);
      takes = takes_on_board (c.writes_are_the_steps.ensures.taken layouts);
      brings = c.records_of_bytes_are_fine.ensures.brought;
      goes = goes;
      bad = ends_badly;
      whole = ends_whole;
      cut = ends_cut;
    }) _ _ _ _ _ _ known output same _ _ _ _ _ _ c.loop-total.invariant.far _ _ _ _ _ _ _ (g.met.O.Outlet.shows c.handle_next.new.writer)
    (g.met.O.Outlet.grows c.refill.new.out _ c.requires.had) none _ _ over c.loop-total.report refl refl c.result_at_end.result c.result_at_end.ensures.so

pub returns-in-Err-refill-clause-outcome : goal.returns-in-Err-refill-clause-outcome
returns-in-Err-refill-clause-outcome g c = λ known output same.
    let none = rw c.in-Ok-None.field-0-is at c.in-Ok-None.ensures.next in
    profile_reads (record {
      goes_on = goes_on_board (c.goes_on.ensures layouts);
      takes = takes_on_board (c.writes_are_the_steps.ensures.taken layouts);
      brings = c.records_of_bytes_are_fine.ensures.brought;
      goes = goes;
      bad = ends_badly;
      whole = ends_whole;
      cut = ends_cut;
    }) _ _ _ _ _ _ known output same _ _ _ _ _ _ c.loop-total.invariant.far _ _ _ _ _ _ _ (g.met.O.Outlet.shows c.handle_next.new.writer)
    (g.met.O.Outlet.grows c.refill.new.out _ c.requires.had) none _ _ c.in-Err-refill.halt c.in-Err-refill.ensures.refilled
    c.run_error.result (c.run_error.ensures.so ∙ ap (λ held. stopped_by c.in-Err-refill.halt c.loop-total.report.records c.loop-total.report.bytes held) c.held_in.ensures)

pub returns-in-Err-clause-outcome : goal.returns-in-Err-clause-outcome
returns-in-Err-clause-outcome g c = λ known output same.
    profile_stops (record {
      goes_on = goes_on_board (c.goes_on.ensures layouts);
      takes = takes_on_board (c.writes_are_the_steps.ensures.taken layouts);
      brings = c.records_of_bytes_are_fine.ensures.brought;
      goes = goes;
      bad = ends_badly;
      whole = ends_whole;
      cut = ends_cut;
    }) _ _ _ _ _ _ known output same _ _ _ _ _ _ c.loop-total.invariant.far _ _ _ _ _ _ _ (g.met.O.Outlet.shows c.handle_next.new.writer)
    (g.met.O.Outlet.grows c.final_reason-reason.new.out _ c.requires.had) c.in-Err.halt c.final_reason-reason.result c.in-Err.ensures.next c.final_reason-reason.ensures
    c.run_error-in-Err.result (c.run_error-in-Err.ensures.so ∙ ap (λ held. stopped_by c.final_reason-reason.result c.loop-total.report.records c.loop-total.report.bytes held) c.held_in-in-Err.ensures)

pub returns-in-Ok-false-clause-reasons : goal.returns-in-Ok-false-clause-reasons
returns-in-Ok-false-clause-reasons g c =
    let none = rw c.in-Ok-None.field-0-is at c.in-Ok-None.ensures.next in
    let over = rw c.in-Ok-false.field-0-test at c.in-Ok-false.ensures.refilled in
    reason_to_end (record {
      goes_on = goes_on_board (c.goes_on.ensures layouts);
      takes = takes_on_board (c.writes_are_the_steps.ensures.taken layouts);
      brings = c.records_of_bytes_are_fine.ensures.brought;
      goes = goes;
      bad = ends_badly;
      whole = ends_whole;
      cut = ends_cut;
    }) _ _ _ _ _ _ _ _ _ _ _ _ c.loop-total.invariant.far _ _ _ _ _ _ _ (g.met.O.Outlet.shows c.handle_next.new.writer)
    (g.met.O.Outlet.grows c.refill.new.out _ c.requires.had) none _ _ over c.loop-total.report refl refl c.result_at_end.result c.result_at_end.ensures.so

pub returns-in-Err-refill-clause-reasons : goal.returns-in-Err-refill-clause-reasons
returns-in-Err-refill-clause-reasons g c =
    let none = rw c.in-Ok-None.field-0-is at c.in-Ok-None.ensures.next in
    reason_to_read_no_more (record {
      goes_on = goes_on_board (c.goes_on.ensures layouts);
      takes = takes_on_board (c.writes_are_the_steps.ensures.taken layouts);
      brings = c.records_of_bytes_are_fine.ensures.brought;
      goes = goes;
      bad = ends_badly;
      whole = ends_whole;
      cut = ends_cut;
    }) _ _ _ _ _ _ _ _ _ _ _ _ c.loop-total.invariant.far _ _ _ _ _ _ _ (g.met.O.Outlet.shows c.handle_next.new.writer)
    (g.met.O.Outlet.grows c.refill.new.out _ c.requires.had) none _ _ c.in-Err-refill.halt c.in-Err-refill.ensures.refilled
    c.run_error.result (c.run_error.ensures.so ∙ ap (λ held. stopped_by c.in-Err-refill.halt c.loop-total.report.records c.loop-total.report.bytes held) c.held_in.ensures)

pub returns-in-Err-clause-reasons : goal.returns-in-Err-clause-reasons
returns-in-Err-clause-reasons g c =
    reason_to_stop (record {
      goes_on = goes_on_board (c.goes_on.ensures layouts);
      takes = takes_on_board (c.writes_are_the_steps.ensures.taken layouts);
      brings = c.records_of_bytes_are_fine.ensures.brought;
      goes = goes;
      bad = ends_badly;
      whole = ends_whole;
      cut = ends_cut;
    }) _ _ _ _ _ _ _ _ _ _ _ _ c.loop-total.invariant.far _ _ _ _ _ _ _ (g.met.O.Outlet.shows c.handle_next.new.writer)
    (g.met.O.Outlet.grows c.final_reason-reason.new.out _ c.requires.had) c.in-Err.halt c.final_reason-reason.result c.in-Err.ensures.next c.final_reason-reason.ensures
    c.run_error-in-Err.result (c.run_error-in-Err.ensures.so ∙ ap (λ held. stopped_by c.final_reason-reason.result c.loop-total.report.records c.loop-total.report.bytes held) c.held_in-in-Err.ensures)

pub returns-in-Ok-false-clause-not_retried : goal.returns-in-Ok-false-clause-not_retried
returns-in-Ok-false-clause-not_retried g c =
    let none = rw c.in-Ok-None.field-0-is at c.in-Ok-None.ensures.next in
    let over = rw c.in-Ok-false.field-0-test at c.in-Ok-false.ensures.refilled in
    ends_untried _ _ _ _ _ _ _ _ _ _ _ c.loop-total.invariant.far _ _ _ _ _ _ _ (g.met.O.Outlet.shows c.handle_next.new.writer) none _ _ _ over c.refill.ensures.not_retried

pub returns-in-Err-refill-clause-not_retried : goal.returns-in-Err-refill-clause-not_retried
returns-in-Err-refill-clause-not_retried g c =
    let none = rw c.in-Ok-None.field-0-is at c.in-Ok-None.ensures.next in
    reads_untried _ _ _ _ _ _ _ _ _ _ _ c.loop-total.invariant.far _ _ _ _ _ _ _ (g.met.O.Outlet.shows c.handle_next.new.writer) none _ _ _
    c.in-Err-refill.halt c.in-Err-refill.ensures.refilled c.refill.ensures.not_retried

pub returns-in-Err-clause-not_retried : goal.returns-in-Err-clause-not_retried
returns-in-Err-clause-not_retried g c =
    stops_untried _ _ _ _ _ _ _ _ _ _ _ c.loop-total.invariant.far _ _ _ _ _ _ _ (g.met.O.Outlet.shows c.handle_next.new.writer)
    c.in-Err.halt c.final_reason-reason.result c.in-Err.ensures.next c.final_reason-reason.ensures c.in-Err.ensures.not_retried
