use Rattle.lc_model.specs.Tables.HalvesAndBytes.{as_halves, as_bytes}
use Rattle.lc_model.proofs.Host.AsideLaws.{asides_do_not_count}
use Rattle.lc_model.proofs.Host.RunsKept.{runs_tell_failures, runs_follow_texts, runs_write_what_is_called_for, runs_write_what_bytes_call_for, runs_write_with_fixed_tables}
use Rattle.flight_core.proofs.Failures.{tells}
use Rattle.flight_core.proofs.Asides.{by_texts, by_bytes}
use Rattle.flight_core.proofs.laws.runs_keep_their_promises.Goals as goal

pub returns : goal.returns
returns c = λ m d ending run.
    record {
      is_run = run;
      by_texts = runs_write_what_is_called_for m d ending run;
      by_bytes = runs_write_what_bytes_call_for m d ending run;
      fixed_tables = runs_write_with_fixed_tables m d ending run;
      whatever_fails = runs_follow_texts m d ending run;
      failures = tells m d ending run (runs_tell_failures m d ending run);
      asides = by_texts m d ending (runs_write_what_is_called_for m d ending run) (asides_do_not_count (as_halves m.edition.layouts));
      asides_in_bytes = by_bytes m d ending (runs_write_what_bytes_call_for m d ending run) (asides_do_not_count (as_bytes m.edition.layouts));
    }
