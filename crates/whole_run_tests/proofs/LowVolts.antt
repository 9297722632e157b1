-- The low-volts run: what `run` promises has its premises met, and what is called for is computed.
use Rattle.std.proofs.Common.{◌≡◌, ◌≢◌, refl, subst, ℕ, zero, suc, true, List, [], ◌∷◌, length, slice_get, Some, lit≤, lit<}
use Rattle.std.specs.Fmt.{digits}
use Rattle.std.specs.List.{list_all}
use Rattle.lc_model.specs.Tables.InForce.{layouts, limits}
use Rattle.lc_model.specs.Host.Schedule.{Schedule}
use Rattle.lc_model.specs.Host.Stream.{StreamEntry, records_of}
use Rattle.lc_model.specs.Host.Outcome.{Devices, Ending, Complete, Uncompiled, MetNoRecord, MetTheEnd, FailedToRead, FailedToWrite, ReachedTheBound, NoMemory, answer}
use Rattle.lc_model.specs.Host.Promise.{AreCompiled, CarryHalves, called_for}
use Rattle.worked_examples.proofs.Reading.{low_volts_text, low_volts_rules, low_volts_reads}
use Rattle.worked_examples.proofs.Missions.{text, own_hashes, is_no_file, carries_none}
use Rattle.flight_core.specs.Fitting.{Fits}
use Rattle.whole_run_tests.specs.LowVolts.{HaveNoFiles, EndsByItsText, FollowsItsText, WritesByItsText, two_failing_samples, what_is_called_for, WritesTwoFailures}
use Rattle.whole_run_tests.specs.WithStock.{KeepsItsPromises, names}
use Rattle.whole_run_tests.proofs.Undisturbed.{ends_well, not_refused, wrote}

-- ---- premises

abbrev pub sources : List (List ℕ)
sources = low_volts_text ∷ []

compile : AreCompiled limits sources (text ∷ [])
compile = ((refl, (low_volts_reads, refl)), tt)

no_files : list_all (λ (entry : StreamEntry). is_no_file entry.contents) (records_of 1 two_failing_samples).0 ≡ true
unfolding is_no_file
no_files = refl

carry : CarryHalves layouts (text ∷ []) (records_of 1 two_failing_samples).0
carry = carries_none layouts (text ∷ []) (records_of 1 two_failing_samples).0 no_files

no_file_no_half : (entries : List StreamEntry) → HaveNoFiles entries → CarryHalves layouts (text ∷ []) entries
no_file_no_half entries none entry name bytes among is = absurd (none entry name bytes among is)

pub low_volts_fit : Fits low_volts_text
low_volts_fit = record { rules = low_volts_rules; reads = low_volts_reads; watchpoints = lit≤ tt; actionpoints = lit≤ tt; words = (lit≤ tt, tt) }

all_fit : (number : ℕ) (source : List ℕ) → slice_get sources number ≡ Some source → Fits source
all_fit zero source there = let same : low_volts_text ≡ source = cc there in subst Fits same low_volts_fit
all_fit (suc number) source there = absurd (cc there)

-- ---- what is called for

called : (schedule : Schedule) → called_for layouts (text ∷ []) schedule names two_failing_samples ≡ what_is_called_for
unfolding digits
called schedule = refl

answered : answer (records_of 1 two_failing_samples) (length what_is_called_for) ≡ Complete 7 852
unfolding digits
answered = refl

-- ---- the run

module _ (schedule : Schedule) (d : Devices) where
  -- over any stream without raw files
  module _ (stream before : List ℕ) (none : HaveNoFiles (records_of 1 stream).0) (known : d.source.rest ≡ Some stream) (gained : d.sink.gained ≡ Some before) where
    follows : (ending : Ending) → KeepsItsPromises sources schedule d ending → ending ≢ FailedToRead → ((sent : ℕ) → ending ≢ FailedToWrite sent) →
        ending ≢ ReachedTheBound → ending ≢ NoMemory → FollowsItsText schedule d stream before ending
    follows ending kept no_read no_write no_bound memory =
        let writes = wrote (text ∷ []) sources compile own_hashes all_fit schedule d stream before (no_file_no_half (records_of 1 stream).0 none) known gained
        ending kept no_read no_write no_bound memory in
        record { rules = low_volts_rules; reads = low_volts_reads; gains = writes.gains; answers = writes.answers }

    ends_by_its_text : (ending : Ending) → KeepsItsPromises sources schedule d ending → EndsByItsText schedule d stream before ending
    ends_by_its_text (Complete records bytes) kept = follows (Complete records bytes) kept (λ e. cc e) (λ sent e. cc e) (λ e. cc e) (λ e. cc e)
    ends_by_its_text (MetNoRecord number) kept = follows (MetNoRecord number) kept (λ e. cc e) (λ sent e. cc e) (λ e. cc e) (λ e. cc e)
    ends_by_its_text (MetTheEnd number) kept = follows (MetTheEnd number) kept (λ e. cc e) (λ sent e. cc e) (λ e. cc e) (λ e. cc e)
    ends_by_its_text FailedToRead kept = tt
    ends_by_its_text (FailedToWrite sent) kept = tt
    ends_by_its_text ReachedTheBound kept = tt
    ends_by_its_text NoMemory kept = tt
    ends_by_its_text (Uncompiled number refusal) kept = not_refused (text ∷ []) sources compile own_hashes all_fit schedule d number refusal kept

  pub writes_by_its_text : (ending : Ending) → KeepsItsPromises sources schedule d ending → WritesByItsText schedule d ending
  writes_by_its_text ending kept stream before none known gained = ends_by_its_text stream before none known gained ending kept

  -- over two failing samples
  pub writes_two_failures : (ending : Ending) → KeepsItsPromises sources schedule d ending → WritesTwoFailures d ending
  writes_two_failures ending kept before known gained =
      ends_well (text ∷ []) sources compile own_hashes all_fit schedule d two_failing_samples before carry known gained
      what_is_called_for (called schedule) 7 852 answered (lit< tt) ending kept
