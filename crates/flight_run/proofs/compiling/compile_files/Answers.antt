use Rattle.std.proofs.Common.{subst}
use Rattle.flight_core.specs.Compiled.{IsCompiled}
use Rattle.program_io.proofs.Stopping.{passes}
use Rattle.flight_run.specs.Cause.{fault_of_file}
use Rattle.flight_run.specs.Stops.{IsTextRefused}
use Rattle.flight_run.proofs.CompileCalls.{all_compared, all_done, at_adt, at_first_write, at_read, at_second_write, at_text, at_wdt}
use Rattle.flight_run.proofs.Stopping.{lifted}
use Rattle.flight_run.proofs.compiling.compile_files.Goals as goal

pub returns-in_err-text-clause-stops : goal.returns-in_err-text-clause-stops
returns-in_err-text-clause-stops g c =
    passes _ _ _ c.from_residual.ensures.1 (at_read c.args.rules.now c.args.wdt.now c.args.adt.now _ _ c.in_err-text.field-0.0 c.in_err-text.ensures.noted c.in_err-text.ensures.refused)

pub returns-in_err-pair-clause-stops : goal.returns-in_err-pair-clause-stops
returns-in_err-pair-clause-stops g c =
    passes _ _ _ c.from_residual-in_err-pair.ensures.1
    (at_text c.args.rules.now c.args.wdt.now c.args.adt.now _ c.in_ok-text.text.items _ c.in_err-pair.field-0.0 c.in_ok-text.ensures.noted
    (subst (λ text. IsTextRefused text c.in_err-pair.field-0.0) c.as_slice.ensures.value c.in_err-pair.ensures.refused))

pub returns-in_err-check_apart-clause-stops : goal.returns-in_err-check_apart-clause-stops
returns-in_err-check_apart-clause-stops g c =
    passes _ _ _ c.from_residual-in_err-check_apart.ensures.1
    (at_wdt c.args.rules.now c.args.wdt.now c.args.adt.now _ c.in_ok-text.text.items _ _ (fault_of_file c.in_err-check_apart.field-0.0) c.in_ok-text.ensures.noted (lifted _ _ _ c.in_err-check_apart.field-0.0 c.in_err-check_apart.ensures.refused))

pub returns-in_err-check_apart-2-clause-stops : goal.returns-in_err-check_apart-2-clause-stops
returns-in_err-check_apart-2-clause-stops g c =
    passes _ _ _ c.from_residual-in_err-check_apart-2.ensures.1
    (at_adt c.args.rules.now c.args.wdt.now c.args.adt.now _ c.in_ok-text.text.items _ _ _ (fault_of_file c.in_err-check_apart-2.field-0.0) c.in_ok-text.ensures.noted c.in_ok-check_apart.ensures.apart (lifted _ _ _ c.in_err-check_apart-2.field-0.0 c.in_err-check_apart-2.ensures.refused))

pub returns-in_err-write_file-clause-stops : goal.returns-in_err-write_file-clause-stops
returns-in_err-write_file-clause-stops g c =
    let compared = all_compared c.args.rules.now c.args.wdt.now c.args.adt.now _ c.in_ok-text.text.items _ _ _ c.in_ok-text.ensures.noted c.in_ok-check_apart.ensures.apart c.in_ok-check_apart-2.ensures.apart in
    passes _ _ _ c.from_residual-in_err-write_file.ensures.1
    (at_first_write c.args.rules.now c.args.wdt.now c.args.adt.now _ c.in_ok-text.text.items _ _ _ c.in_err-write_file.field-0.0 compared c.in_err-write_file.ensures.noted c.in_err-write_file.ensures.refused)

pub returns-in_err-write_file-2-clause-stops : goal.returns-in_err-write_file-2-clause-stops
returns-in_err-write_file-2-clause-stops g c =
    let compared = all_compared c.args.rules.now c.args.wdt.now c.args.adt.now _ c.in_ok-text.text.items _ _ _ c.in_ok-text.ensures.noted c.in_ok-check_apart.ensures.apart c.in_ok-check_apart-2.ensures.apart in
    passes _ _ _ c.from_residual-in_err-write_file-2.ensures.1
    (at_second_write c.args.rules.now c.args.wdt.now c.args.adt.now _ c.in_ok-text.text.items _ _ _ _ _ c.in_err-write_file-2.field-0.0 compared c.in_ok-write_file.ensures.noted c.in_err-write_file-2.ensures.noted c.in_err-write_file-2.ensures.refused)

pub returns-clause-done : goal.returns-clause-done
returns-clause-done g c =
    let compared = all_compared c.args.rules.now c.args.wdt.now c.args.adt.now _ c.in_ok-text.text.items _ _ _ c.in_ok-text.ensures.noted c.in_ok-check_apart.ensures.apart c.in_ok-check_apart-2.ensures.apart in
    all_done c.args.rules.now c.args.wdt.now c.args.adt.now _ c.in_ok-text.text.items c.in_ok-pair.pair _ _ _ _ _ (subst (λ text. IsCompiled text c.in_ok-pair.pair) c.as_slice.ensures.value (record { rules = c.in_ok-pair.ensures.compiles.0; compiles = c.in_ok-pair.ensures.compiles.1; tables = c.in_ok-pair.ensures.compiles.2 }))
    c.as_slice-2.ensures.value c.as_slice-3.ensures.value compared c.in_ok-write_file.ensures.noted c.in_ok-write_file-2.ensures.noted
