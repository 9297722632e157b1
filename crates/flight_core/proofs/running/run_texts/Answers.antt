use Rattle.std.proofs.Common.{refl, sym, subst}
use Rattle.flight_core.specs.Brought.{AreWhole}
use Rattle.flight_core.specs.Compiled.{sources_of, AreAllCompiled}
use Rattle.flight_core.proofs.Fitting.{named, none_named, refused, taken}
use Rattle.flight_core.proofs.Known.{all_not_other}
use Rattle.flight_core.proofs.Outset.{whole_files, is_run}
use Rattle.flight_core.proofs.Reasons.{answers_for, none_answered}
use Rattle.flight_core.proofs.running.run_texts.Goals as goal

pub run_compiled-requires-clause-files : goal.run_compiled-requires-clause-files
run_compiled-requires-clause-files g c =
    subst AreWhole (sym c.as_slice.ensures.value) (whole_files (sources_of c.args.texts.now) c.in-Ok.pairs.items c.in-Ok.ensures.compiled)

pub returns-in-Ok-clause-run : goal.returns-in-Ok-clause-run
returns-in-Ok-clause-run g c = λ profile.
    is_run c.args.texts.now c.args.schedule.now _ c.args.reads _ (c.writes_a_mission.ensures.bytes _) c.len-slots.ensures.fits profile c.as_slice.result.now
    (subst (AreAllCompiled (sources_of c.args.texts.now)) (sym c.as_slice.ensures.value) c.in-Ok.ensures.compiled) _
    (c.run_compiled.ensures.run (all_not_other c.args.schedule.now _ profile)) c.run_compiled.ensures.bounded

pub returns-in-Ok-clause-refuses : goal.returns-in-Ok-clause-refuses
returns-in-Ok-clause-refuses g c = taken (sources_of c.args.texts.now) _ _ c.in-Ok.ensures.compiled _ c.run_compiled.ensures.judged

pub returns-in-Err-clause-refuses : goal.returns-in-Err-clause-refuses
returns-in-Err-clause-refuses g c = refused (sources_of c.args.texts.now) _ (record {
  left = refl;
  reads = c.requires.unread;
  no_read_failed = c.requires.readable;
  gained = refl;
  no_write_failed = c.requires.writable;
}) _ c.in-Err.ensures.refused

pub returns-in-Ok-clause-named : goal.returns-in-Ok-clause-named
returns-in-Ok-clause-named g c = none_named (sources_of c.args.texts.now) _ _ c.run_compiled.ensures.judged

pub returns-in-Err-clause-named : goal.returns-in-Err-clause-named
returns-in-Err-clause-named g c = named (sources_of c.args.texts.now) _ c.in-Err.ensures.refused

pub returns-in-Ok-clause-reasons : goal.returns-in-Ok-clause-reasons
returns-in-Ok-clause-reasons g c =
    answers_for _ _ _ _ c.as_slice.result.now (subst (AreAllCompiled (sources_of c.args.texts.now)) (sym c.as_slice.ensures.value) c.in-Ok.ensures.compiled) _ refl _ c.run_compiled.ensures.reasons

pub returns-in-Err-clause-reasons : goal.returns-in-Err-clause-reasons
returns-in-Err-clause-reasons g c = none_answered _ _ _ _ (sources_of c.args.texts.now) _ c.in-Err.ensures.refused
