-- A run over texts whose premises are met, on devices that don't fail: it ends with what is called for.
use Rattle.std.proofs.Common.{◌≡◌, ◌≢◌, refl, ◌∙◌, ap, ℕ, ◌<◌, List, ◌++◌, length, slice_get, Some, arith}
use Rattle.lc_model.specs.Tables.HalvesAndBytes.{Text}
use Rattle.lc_model.specs.Tables.InForce.{layouts, limits}
use Rattle.lc_model.specs.Host.Schedule.{Schedule}
use Rattle.lc_model.specs.Host.Stream.{records_of}
use Rattle.lc_model.specs.Host.Outcome.{Devices, Ending, Complete, Uncompiled, MetNoRecord, MetTheEnd, FailedToRead, FailedToWrite, ReachedTheBound, NoMemory, answer}
use Rattle.lc_model.specs.Host.Promise.{AreCompiled, CarryHalves, HaveOwnHashes, called_for, IsUndisturbed, Writes}
use Rattle.lc_model.proofs.Facts.{not_true}
use Rattle.flight_core.specs.Fitting.{Fits}
use Rattle.whole_run_tests.specs.Endings.{EndsWell}
use Rattle.whole_run_tests.specs.WithStock.{KeepsItsPromises, mission, names}

module _ (texts : List Text) (sources : List (List ℕ)) (compile : AreCompiled limits sources texts) (hashes : HaveOwnHashes texts)
    (fit : (number : ℕ) (source : List ℕ) → slice_get sources number ≡ Some source → Fits source) (schedule : Schedule) (d : Devices) where
  -- no device failed, and the reads were enough
  calm : (ending : Ending) → KeepsItsPromises sources schedule d ending → ending ≢ FailedToRead → ((sent : ℕ) → ending ≢ FailedToWrite sent) →
      ending ≢ ReachedTheBound → ending ≢ NoMemory → IsUndisturbed (mission sources schedule) d ending
  calm ending kept no_read no_write no_bound memory = record {
    no_read_failed = not_true d.source_after.failed (λ is. no_read (kept.failures.told.read is));
    no_write_failed = not_true d.sink_after.failed (λ is. (let failed = kept.failures.told.write is in no_write failed.0 failed.1));
    within_bound = no_bound;
    memory = memory;
  }

  -- a text that fits is not refused
  pub not_refused : {A : Type 0} (number : ℕ) (refusal : _) → KeepsItsPromises sources schedule d (Uncompiled number refusal) → A
  not_refused number refusal kept = absurd (kept.refuses.0.not (fit number kept.refuses.0.source kept.refuses.0.there))

  module _ (stream before : List ℕ) (carry : CarryHalves layouts texts (records_of (length sources) stream).0)
      (known : d.source.rest ≡ Some stream) (gained : d.sink.gained ≡ Some before) where
    pub wrote : (ending : Ending) → KeepsItsPromises sources schedule d ending → ending ≢ FailedToRead → ((sent : ℕ) → ending ≢ FailedToWrite sent) →
        ending ≢ ReachedTheBound → ending ≢ NoMemory → Writes (mission sources schedule) d stream before (called_for layouts texts schedule names stream) ending
    wrote ending kept no_read no_write no_bound memory =
        kept.by_texts texts stream before compile hashes carry known gained (calm ending kept no_read no_write no_bound memory)

    -- where it is known what is called for, and how the records end
    module _ (output : List ℕ) (called : called_for layouts texts schedule names stream ≡ output) (count size : ℕ)
        (answered : answer (records_of (length sources) stream) (length output) ≡ Complete count size) (few : length stream < 4_294_967_296) where
      gains : (ending : Ending) → Writes (mission sources schedule) d stream before (called_for layouts texts schedule names stream) ending →
          d.sink_after.gained ≡ Some (before ++ output)
      gains ending writes = writes.gains ∙ ap (λ bytes. Some (before ++ bytes)) called

      is : (ending : Ending) → Writes (mission sources schedule) d stream before (called_for layouts texts schedule names stream) ending → ending ≡ Complete count size
      is ending writes = writes.answers ∙ ap (λ bytes. answer (records_of (length sources) stream) (length bytes)) called ∙ answered

      pub ends_well : (ending : Ending) → KeepsItsPromises sources schedule d ending → EndsWell count size output d before ending
      ends_well (Complete records bytes) kept =
          let writes = wrote (Complete records bytes) kept (λ e. cc e) (λ sent e. cc e) (λ e. cc e) (λ e. cc e) in
          let same : Complete records bytes ≡ Complete count size = is (Complete records bytes) writes in
          record { gains = gains (Complete records bytes) writes; counted = (cc same, cc same) }
      ends_well (MetNoRecord number) kept =
          let same : MetNoRecord number ≡ Complete count size = is (MetNoRecord number) (wrote (MetNoRecord number) kept (λ e. cc e) (λ sent e. cc e) (λ e. cc e) (λ e. cc e)) in cc same
      ends_well (MetTheEnd number) kept =
          let same : MetTheEnd number ≡ Complete count size = is (MetTheEnd number) (wrote (MetTheEnd number) kept (λ e. cc e) (λ sent e. cc e) (λ e. cc e) (λ e. cc e)) in cc same
      ends_well FailedToRead kept = tt
      ends_well (FailedToWrite sent) kept = tt
      ends_well NoMemory kept = tt
      ends_well ReachedTheBound kept = omega (arith, kept.failures.not_ended stream refl known, few)
      ends_well (Uncompiled number refusal) kept = not_refused number refusal kept
