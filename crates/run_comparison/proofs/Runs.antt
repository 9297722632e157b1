-- The run of the new text goes beside the old one's, and both are runs of the definitions.
use Rattle.std.proofs.Common.{◌≡◌, refl, sym, ◌∙◌, ap, subst, ℕ, Bool, List, [], ◌∷◌, ◌++◌, length, map, Option, Result, Ok, Err}
use Rattle.std.specs.Prelude.{OnOk}
use Rattle.std.specs.List.{concat}
use Rattle.std.proofs.lemmas.List.{length-map, map-append}
use Rattle.std.proofs.lemmas.Slice.Zip.{AllZip-long}
use Rattle.lc_model.specs.Host.Schedule.{Schedule}
use Rattle.lc_model.specs.Host.Stream.{End, StreamEntry, records_of}
use Rattle.flight_core.specs.Compiled.{IsCompiled, sources_of}
use denote.Ref.{Bor}
use Rattle.flight_core.specs.Feeding.{Feeding}
use Rattle.run_stepper.specs.Stepping.{BeginsWith, HasStepped, host_in, one_record, written_by}
use Rattle.run_stepper.specs.Steps.{AreItsRecords, Step, StepsAreARun, Went, bytes_of, part_of}
use Rattle.run_stepper.specs.Trace.{IsTraced, ending_by}
use Rattle.run_stepper.specs.Watching.{EndsThere, GoesThrough, MeetsEnd, Watched}
use Rattle.run_stepper.specs.declared.ending.Ending.{Ending}
use Rattle.run_stepper.specs.declared.handled.Handled.TheVariants as handled
use Rattle.run_stepper.specs.declared.stepping.Stepping.{Stepping}
use Rattle.run_comparison.specs.Comparing.{AreFound, ComparesRuns, HasCompared, HasFound, IsComparison, bytes_in, packets_of, written_in}
use Rattle.run_comparison.specs.declared.asked.Asked.{Asked}
use Rattle.run_comparison.specs.declared.comparing.Found.{Found}
use Rattle.run_comparison.specs.declared.comparison.Comparison.{Comparison}
use Rattle.run_comparison.specs.declared.met.MetRecord.{MetRecord}

-- ---- a record more

went_more : (first old new : Feeding) (steps : List Step) (step : Step) → Went first steps old → HasStepped step.bytes old step.host step.written (Ok handled.Whole) → step.host ≡ new →
    Went first (steps ++ step ∷ []) new
went_more first old new [] step went stepped is = (subst (λ host. HasStepped step.bytes host step.host step.written (Ok handled.Whole)) (sym went) stepped, is)
went_more first old new (one ∷ steps) step went stepped is = (went.0, went_more one.host old new steps step went.1 stepped is)

-- on success
pub on_ok : {A E : Type 0} (r : Result A E) (P Q : Type 0) → (P → Q) → OnOk r P → OnOk r Q
on_ok (Ok it) P Q so is = so is
on_ok (Err e) P Q so is = tt

module _ (first new next shown : Stepping) (start before after : Found) (steps : List Step) (step : Step) (bytes : List ℕ) (has : HasCompared first new start before steps) where
  abbrev beside : Step
  beside = record { bytes = step.bytes; host = host_in next; written = written_by next }

  pub compared_more : bytes ≡ step.bytes → HasStepped bytes (host_in new) (host_in next) (written_by next) (Ok handled.Whole) → shown ≡ next → after.keeps_all ≡ before.keeps_all →
      HasFound after (written_in steps ++ step.written ∷ []) (written_in has.news ++ written_by shown ∷ []) → HasCompared first next start after (steps ++ step ∷ [])
  compared_more same stepped is keeps found = record {
    news = has.news ++ beside ∷ [];
    went = went_more (host_in first) (host_in new) (host_in next) has.news beside has.went
        (subst (λ b. HasStepped b (host_in new) (host_in next) (written_by next) (Ok handled.Whole)) same stepped) refl;
    bytes =
        map-append (λ (step : Step). step.bytes) has.news (beside ∷ [])
        ∙ ap (λ bytes. bytes ++ step.bytes ∷ []) has.bytes
        ∙ sym (map-append (λ (step : Step). step.bytes) steps (step ∷ []));
    keeps = keeps ∙ has.keeps;
    has = subst (HasFound after (written_in (steps ++ step ∷ []))) (sym (map-append (λ (step : Step). step.written) has.news (beside ∷ [])))
        (subst (λ olds. HasFound after olds (written_in has.news ++ written_by next ∷ [])) (sym (map-append (λ (step : Step). step.written) steps (step ∷ [])))
        (subst (λ it. HasFound after (written_in steps ++ step.written ∷ []) (written_in has.news ++ written_by it ∷ [])) is found));
  }

pub nothing_compared : (first : Stepping) (start : Found) → HasFound start [] [] → HasCompared first first start start []
nothing_compared first start found = record { news = []; went = refl; bytes = refl; keeps = refl; has = found }

-- ---- both runs

joined : (steps : List Step) → bytes_of steps ≡ concat (bytes_in steps)
joined [] = refl
joined (step ∷ steps) = ap (λ more. step.bytes ++ more) (joined steps)

records_by : (texts : ℕ) (steps : List Step) → map (λ (step : Step). records_of texts step.bytes) steps ≡ map (records_of texts) (bytes_in steps)
records_by texts [] = refl
records_by texts (step ∷ steps) = ap (λ more. records_of texts step.bytes ∷ more) (records_by texts steps)

packets_by : (steps : List Step) → written_in steps ≡ packets_of (map part_of steps)
packets_by [] = refl
packets_by (step ∷ steps) = ap (λ more. step.written ∷ more) (packets_by steps)

-- the same bytes are the same records
same_records : (texts others : ℕ) (stream : List ℕ) (steps news : List Step) (ending : Ending) → others ≡ texts → bytes_in news ≡ bytes_in steps → AreItsRecords texts stream steps ending →
    AreItsRecords others stream news ending
same_records texts others stream steps news ending is same are =
    let as_many : length news ≡ length steps = sym (length-map news (λ (step : Step). step.bytes)) ∙ ap length same ∙ length-map steps (λ (step : Step). step.bytes) in
    subst (λ n. AreItsRecords n stream news ending) (sym is) (record {
      each = records_by texts news ∙ ap (map (records_of texts)) same ∙ sym (records_by texts steps) ∙ are.each;
      ends = are.ends ∙ ap (λ n. ending_by n (records_of texts stream).1) (sym as_many);
    })

-- the texts of both runs are as many, so are their files
as_many_files : (olds news : List (List ℕ)) (schedule : Schedule) (old new : Feeding) → length olds ≡ length news → BeginsWith olds schedule old → BeginsWith news schedule new →
    length new.files ≡ length old.files
as_many_files olds news schedule old new even one other =
    AllZip-long IsCompiled news new.files other.begun.compiled ∙ sym even ∙ sym (AllZip-long IsCompiled olds old.files one.begun.compiled)

module _ (law : StepsAreARun) (olds news : List (List ℕ)) (schedule : Schedule) (keeps_all : Bool) (first : Feeding) (new_first new_last : Stepping) (start last : Found) (before now : Option (List ℕ)) (ending : Ending)
    (even : length olds ≡ length news) (old_begins : BeginsWith olds schedule first) (new_begins : BeginsWith news schedule (host_in new_first)) (keeps : start.keeps_all ≡ keeps_all)
    (watched : Watched first before now (λ taken steps. HasCompared new_first new_last start last steps) ending) where
  seen : HasCompared new_first new_last start last watched.steps
  seen = watched.seen

  are_found : AreFound keeps_all last.records.items last.asked (packets_of (map part_of watched.steps)) (packets_of (map part_of seen.news))
  are_found =
      subst (λ keeps. AreFound keeps last.records.items last.asked (packets_of (map part_of watched.steps)) (packets_of (map part_of seen.news))) (seen.keeps ∙ keeps)
      (subst (λ packets. AreFound last.keeps_all last.records.items last.asked packets (packets_of (map part_of seen.news))) (packets_by watched.steps)
      (subst (AreFound last.keeps_all last.records.items last.asked (written_in watched.steps)) (packets_by seen.news) seen.has.are))

  compares : (stream : List ℕ) → GoesThrough first stream watched.steps ending → (found : Comparison) → found.records ≡ last.records → found.asked ≡ last.asked → found.ending ≡ ending →
      ComparesRuns olds news schedule keeps_all stream found
  compares stream through found records asked ends = record {
    old = map part_of watched.steps;
    new = map part_of seen.news;
    old_run = subst (λ e. IsTraced olds schedule stream (record { parts = map part_of watched.steps; ending = e })) (sym ends) (_, law olds schedule stream first through.last watched.steps through.rest ending old_begins through.went through.bytes through.are_records);
    new_run = subst (λ e. IsTraced news schedule stream (record { parts = map part_of seen.news; ending = e })) (sym ends) (
      _,
      law news schedule stream (host_in new_first) (host_in new_last) seen.news through.rest ending new_begins seen.went
          (ap (λ bytes. bytes ++ through.rest) (joined seen.news ∙ ap concat seen.bytes ∙ sym (joined watched.steps)) ∙ through.bytes)
          (same_records (length first.files) (length (host_in new_first).files) stream watched.steps seen.news ending (as_many_files olds news schedule first (host_in new_first) even old_begins new_begins) seen.bytes through.are_records),
    );
    are = subst (λ records. AreFound keeps_all records found.asked (packets_of (map part_of watched.steps)) (packets_of (map part_of seen.news))) (ap (λ r. r.items) (sym records))
        (subst (λ asked. AreFound keeps_all last.records.items asked (packets_of (map part_of watched.steps)) (packets_of (map part_of seen.news))) (sym asked) are_found);
  }

  pub is_comparison : (found : Comparison) → found.records ≡ last.records → found.asked ≡ last.asked → found.ending ≡ ending → IsComparison olds news schedule keeps_all before now found
  is_comparison found records asked ends = record {
    taken = watched.taken;
    consumes = watched.consumes;
    at_end = subst (λ e. MeetsEnd e now) (sym ends) watched.at_end;
    compares = λ behind there. compares (watched.taken ++ behind) (watched.through behind (subst (λ e. EndsThere e behind) ends there)) found records asked ends;
  }

-- the sources of as many texts are as many
pub as_long : (olds news : List (Bor (List ℕ))) → length olds ≡ length news → length (sources_of olds) ≡ length (sources_of news)
as_long olds news even = length-map olds (λ (text : Bor (List ℕ)). text.now) ∙ even ∙ sym (length-map news (λ (text : Bor (List ℕ)). text.now))
