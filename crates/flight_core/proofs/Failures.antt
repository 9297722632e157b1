-- What the answer of a run says of failed reads and writes, and of the bound of reads.
use Rattle.std.proofs.Common.{◌≡◌, ◌∙◌, ap, ℕ, ◌≤◌, List, length, take, Option, Some, None, arith, length-append}
use Rattle.std.specs.Io.KnownBytes.{Consumes}
use Rattle.std.proofs.lemmas.List.{length-take-le}
use Rattle.lc_model.specs.Host.Outcome.{Devices, Ending, Complete, Uncompiled, MetNoRecord, MetTheEnd, FailedToRead, FailedToWrite, ReachedTheBound, NoMemory}
use Rattle.lc_model.specs.Host.Promise.{Mission, IsRun, output_by_bytes, records_in}
use Rattle.lc_model.specs.Laws.Runs.{AreFailuresTold}
use Rattle.lc_model.proofs.Host.RunsKept.{wrote_known}
use Rattle.flight_core.specs.Failures.{TellsFailures}

-- where neither a failed write nor the bound is answered
module _ (most : ℕ) (d : Devices) (ending : Ending) (told : AreFailuresTold d ending) where
  neither : ((count : ℕ) → ending ≡ FailedToWrite count → ⊥) → (ending ≡ ReachedTheBound → ⊥) → TellsFailures most d ending
  neither no_write no_bound = record {
    told = told;
    sent = λ count before is known. absurd (no_write count is);
    bound = λ is. absurd (no_bound is);
    not_ended = λ stream is known. absurd (no_bound is);
  }

-- what was taken of known bytes is no longer than they are
taken_of_known : (stream bytes : List ℕ) (left now : Option (List ℕ)) → left ≡ Some stream → Consumes left now bytes → length bytes ≤ length stream
taken_of_known stream bytes None now is took = absurd (cc is)
taken_of_known stream bytes (Some old) None is took = absurd took
taken_of_known stream bytes (Some old) (Some rest) is took =
    let same : old ≡ stream = cc is in
    omega (arith, ap length same, ap length took, length-append bytes rest)

pub tells : (m : Mission) (d : Devices) (ending : Ending) → IsRun m d ending → AreFailuresTold d ending → TellsFailures m.most_reads d ending
tells m d (Complete entries count) run told = neither m.most_reads d (Complete entries count) told (λ n is. cc is) (λ is. cc is)
tells m d (Uncompiled number refusal) run told = neither m.most_reads d (Uncompiled number refusal) told (λ n is. cc is) (λ is. cc is)
tells m d (MetNoRecord number) run told = neither m.most_reads d (MetNoRecord number) told (λ n is. cc is) (λ is. cc is)
tells m d (MetTheEnd number) run told = neither m.most_reads d (MetTheEnd number) told (λ n is. cc is) (λ is. cc is)
tells m d FailedToRead run told = neither m.most_reads d FailedToRead told (λ n is. cc is) (λ is. cc is)
tells m d NoMemory run told = neither m.most_reads d NoMemory told (λ n is. cc is) (λ is. cc is)
tells m d (FailedToWrite count) run told = record {
  told = told;
  sent = λ n before is known.
      let same : count ≡ n = cc is in
      let all : List ℕ = output_by_bytes m run.ends.compiled (records_in m run.ends.outcome.bytes).0 in
      record {
        output = take count (output_by_bytes m run.ends.compiled (records_in m run.ends.outcome.bytes).0);
        gains = wrote_known before d.sink.gained d.sink_after.gained _ known run.ends.outcome.wrote;
        count = length-take-le count (output_by_bytes m run.ends.compiled (records_in m run.ends.outcome.bytes).0) (omega (arith, run.ends.outcome.fewer)) ∙ same;
      };
  bound = λ is. absurd (let never : ⊥ = cc is in never);
  not_ended = λ stream is known. absurd (let never : ⊥ = cc is in never);
}
tells m d ReachedTheBound run told = record {
  told = told;
  sent = λ n before is known. absurd (let never : ⊥ = cc is in never);
  bound = λ is. run.ends.outcome.bound;
  not_ended = λ stream is known.
      omega (
        arith,
        run.ends.outcome.bound,
        run.ends.outcome.each,
        taken_of_known stream run.ends.outcome.bytes d.source.rest d.source_after.rest known run.ends.outcome.so.took,
      );
}
