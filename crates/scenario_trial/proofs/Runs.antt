-- The run of a trial, and what its lines found.
use Rattle.std.proofs.Common.{◌≡◌, refl, sym, ◌∙◌, ap, subst, ℕ, zero, suc, ◌+◌, ◌-◌, ◌<◌, true, List, [], ◌∷◌, ◌++◌, length, take, append-nil, Option, Some, None, Result, Ok, Err, slice_index, arith}
use Rattle.std.specs.Prelude.{IfOk, OnOk}
use Rattle.std.specs.List.{AllZip}
use Rattle.std.proofs.lemmas.List.{map-append}
use Rattle.app_host.specs.Delivered.{executive_in}
use Rattle.flight_core.specs.Compiled.{sources_of}
use Rattle.flight_core.specs.Feeding.{Feeding}
use Rattle.flight_profile.specs.Force.{text_in_force}
use Rattle.lc_model.specs.Host.Schedule.{Schedule}
use Rattle.lc_model.specs.Kept.Executive.{Executive}
use Rattle.rpn_compiler.specs.declared.files.TablePair.{TablePair}
use Rattle.scenarios.specs.Declarations.{Declarations}
use Rattle.stream_script.specs.ByLines.{AreStarts}
use Rattle.run_account.specs.Account.{IsAccountOf, schedule_of}
use Rattle.run_stepper.specs.Places.{RunsAreSeenThrough, StandsBehind, host_after}
use Rattle.run_stepper.specs.Stepping.{BeginsWith}
use Rattle.run_stepper.specs.Steps.{Step, StepsAreARun, Went, bytes_of, part_of}
use Rattle.run_stepper.specs.Trace.{IsTraced, Part, engine_in}
use Rattle.run_stepper.specs.Watching.{GoesThrough, Watched}
use Rattle.run_stepper.specs.declared.ending.Ending.{Ending}
use Rattle.run_stepper.specs.declared.ending.Ending.TheVariants as ended
use Rattle.scenario_trial.specs.declared.probe.Finding.{Finding}
use Rattle.scenario_trial.specs.declared.probing.Trial.{Trial}
use Rattle.scenario_trial.specs.declared.probing.TrialRun.{TrialRun}
use Rattle.scenario_trial.specs.Arrivals.{is_whole, standing_named}
use Rattle.scenario_trial.specs.ProbedLine.{ProbedLine}
use Rattle.scenario_trial.specs.Probes.{AreAhead}
use Rattle.scenario_trial.specs.Probing.{AreFoundThere, HasGoneOver, HasProbed, HasSeen, HasTraced, HasWatched, IsFoundThere, IsProbed, findings_there}
use Rattle.scenario_trial.proofs.Probed.{all_probed, first_probed, from_ahead, length_more, more_probed}
use Rattle.scenario_trial.proofs.WholeStream.{whole_stream}

-- ---- before the first record

pub begun : (it : Trial) (start : Feeding) (run : TrialRun) (none : List Finding) → AreAhead 0 it.starts.now it.probes.now → IsAccountOf run.account [] → schedule_of run.account ≡ it.inputs.schedule.now →
    run.place ≡ 0 → run.trace.parts ≡ [] → none ≡ [] → run.findings.items ≡ none ++ findings_there it 0 start none → HasProbed it start run []
begun it start run none ahead counts under place parts nothing are = record {
  place = place;
  parts = parts;
  account = counts;
  under = under;
  probed = first_probed it.declared.now it.stream.now start it.probes.now run.findings.items (from_ahead 0 it.starts.now it.probes.now ahead) (are ∙ ap (λ them. them ++ findings_there it 0 start them) nothing);
}

-- ---- a record more

pub added : (it : Trial) (start : Feeding) (old new : TrialRun) (steps : List Step) (step : Step) (place : ℕ) → HasProbed it start old steps →
    old.place < length it.stream.now → place ≡ old.place + length step.bytes → new.place ≡ place → new.trace.parts ≡ old.trace.parts ++ part_of step ∷ [] →
    ((steps : List Step) → IsAccountOf old.account steps → IsAccountOf new.account (steps ++ step ∷ [])) → schedule_of new.account ≡ schedule_of old.account →
    new.findings.items ≡ old.findings.items ++ findings_there it place step.host old.findings.items → HasProbed it start new (steps ++ step ∷ [])
added it start old new steps step place has goes_on same new_place parts counts under are =
    let long : place ≡ length (bytes_of steps) + length step.bytes = same ∙ ap (λ k. k + length step.bytes) has.place in
    record {
      place = new_place ∙ long ∙ sym (length_more steps step);
      parts = parts ∙ ap (λ them. them ++ part_of step ∷ []) has.parts ∙ sym (map-append part_of steps (step ∷ []));
      account = counts steps has.account;
      under = under ∙ has.under;
      probed = more_probed it.declared.now it.stream.now start steps step it.probes.now old.findings.items has.probed (omega (arith, goes_on, has.place)) place new.findings.items long are;
    }

pub if_ok : {A E : Type 0} (r : Result A E) (P Q : A → Type 0) → ((a : A) → P a → Q a) → IfOk r P → IfOk r Q
if_ok (Ok a) P Q so is = so a is
if_ok (Err e) P Q so is = tt

pub seen_more : {A E : Type 0} (r : Result A E) (first it : Trial) (start old new : TrialRun) (steps : List Step) (step : Step) → HasSeen first it start old steps →
    ((host : Feeding) (steps : List Step) → HasProbed it host old steps → OnOk r (HasProbed it host new (steps ++ step ∷ []))) → OnOk r (HasSeen first it start new (steps ++ step ∷ []))
seen_more (Err e) first it start old new steps step has more = tt
seen_more (Ok a) first it start old new steps step has more = record {
  same = has.same;
  run = λ host begun.
      subst (λ t. HasProbed t host new (steps ++ step ∷ [])) has.same
      (more host steps (subst (λ t. HasProbed t host old steps) (sym has.same) (has.run host begun)));
}

-- ---- the end

-- the stream was gone through to its end, or to the first bytes that are no record
through_all : (first : Feeding) (stream : List ℕ) (left : Option (List ℕ)) (seen : List ℕ → List Step → Type 0) (ending : Ending) (watched : Watched first (Some stream) left seen ending) →
    GoesThrough first stream watched.steps ending
through_all first stream None seen ending watched = absurd watched.consumes
through_all first stream (Some left) seen (ended.Whole records) watched =
    let all : watched.taken ++ [] ≡ stream = ap (λ rest. watched.taken ++ rest) (sym watched.at_end) ∙ sym watched.consumes in
    subst (λ it. GoesThrough first it watched.steps (ended.Whole records)) all (watched.through [] refl)
through_all first stream (Some left) seen (ended.Cut n) watched =
    let all : watched.taken ++ [] ≡ stream = ap (λ rest. watched.taken ++ rest) (sym watched.at_end) ∙ sym watched.consumes in
    subst (λ it. GoesThrough first it watched.steps (ended.Cut n)) all (watched.through [] refl)
through_all first stream (Some left) seen (ended.NoRecord n) watched =
    subst (λ it. GoesThrough first it watched.steps (ended.NoRecord n)) (sym watched.consumes) (watched.through left tt)
through_all first stream (Some left) seen ended.Bound watched = absurd watched.at_end

-- a run whose trace is told how the stream ended has the same steps
pub watched_so : (it now : Trial) (first : Feeding) (before left : Option (List ℕ)) (begun old new : TrialRun) (ending : Ending) → HasProbed it first begun [] →
    Watched first before left (λ taken steps. HasSeen it now begun old steps) ending → before ≡ Some it.stream.now →
    new.place ≡ old.place → new.findings ≡ old.findings → new.account ≡ old.account → new.trace ≡ record { parts = old.trace.parts; ending = ending } → HasWatched it first new
watched_so it now first before left begun old new ending begins over known place findings account trace =
    let watched : Watched first (Some it.stream.now) left (λ taken steps. HasSeen it now begun old steps) ending =
    subst (λ source. Watched first source left (λ taken steps. HasSeen it now begun old steps) ending) known over in
    let has : HasProbed it first old watched.steps = watched.seen.run first begins in
    record {
      steps = watched.steps;
      has = record {
        place = place ∙ has.place;
        parts = ap (λ t. t.parts) trace ∙ has.parts;
        account = rw account has.account;
        under = ap schedule_of account ∙ has.under;
        probed = rw findings has.probed;
      };
      through = subst (GoesThrough first it.stream.now watched.steps) (sym (ap (λ t. t.ending) trace)) (through_all first it.stream.now left _ ending watched);
    }

-- ---- what lines found

files_stay : (first last : Feeding) (steps : List Step) (count : ℕ) → Went first steps last → (host_after first steps count).files ≡ first.files
files_stay first last steps zero went = refl
files_stay first last [] (suc count) went = refl
files_stay first last (step ∷ steps) (suc count) went = files_stay step.host last steps count went.1 ∙ went.0.one.files

module _ (law : RunsAreSeenThrough) (sources : List (List ℕ)) (schedule : Schedule) (declared : Declarations) (script stream starts : List ℕ) (begin : AreStarts script stream starts)
    (first : Feeding) (steps : List Step) (ending : Ending) (begins : BeginsWith sources schedule first) (through : GoesThrough first stream steps ending) where
  found_there : (line : ProbedLine) (finding : Finding) → line.n - 1 < length starts → line.place ≡ slice_index starts (line.n - 1) → IsProbed declared stream first steps line finding →
      IsFoundThere sources schedule declared script line finding
  found_there line finding inside at is =
      let host : Feeding = host_after first steps is.count in
      let now : Executive (List ℕ) = executive_in host.host in
      let forced : finding.force ≡ text_in_force host.files now = ap (λ (f : Finding). f.force) is.finds in
      let stands : finding.standing ≡ standing_named declared (text_in_force host.files now) (engine_in now.seats) line.rule = ap (λ (f : Finding). f.standing) is.finds in
      record {
        stream = take (slice_index starts (line.n - 1)) stream;
        says = begin.front (line.n - 1) inside;
        now = now;
        behind = subst (λ k. StandsBehind sources schedule (take k stream) now) at (law sources schedule stream first steps ending is.count line.place begins through is.reached);
        in_force = (first.files, begins.begun.compiled, forced ∙ ap (λ (files : List TablePair). text_in_force files now) (files_stay first through.last steps is.count through.went));
        stands = stands ∙ ap (λ force. standing_named declared force (engine_in now.seats) line.rule) (sym forced);
      }

  all_there : (place : ℕ) (lines : List ProbedLine) (findings : List Finding) → AreAhead place starts lines → AllZip (IsProbed declared stream first steps) lines findings →
      AllZip (IsFoundThere sources schedule declared script) lines findings
  all_there place [] [] ahead all = tt
  all_there place [] (finding ∷ findings) ahead all = absurd all
  all_there place (line ∷ lines) [] ahead all = absurd all
  all_there place (line ∷ lines) (finding ∷ findings) ahead all = (found_there line finding ahead.0 ahead.1 all.0, all_there line.place lines findings ahead.3 all.1)

-- ---- a trial's run

module _ (it : Trial) (first : Feeding) (run : TrialRun) (begins : BeginsWith (sources_of it.inputs.texts.now) it.inputs.schedule.now first) (watched : HasWatched it first run) where
  pub gone_over : HasGoneOver it run
  gone_over = record {
    first = first;
    begins = begins;
    steps = watched.steps;
    through = watched.through;
    parts = watched.has.parts;
    counts = watched.has.account;
    under = watched.has.under;
  }

  pub traced : StepsAreARun → HasTraced it run
  traced law =
      let through = watched.through in
      subst (λ (parts : List Part). IsTraced (sources_of it.inputs.texts.now) it.inputs.schedule.now it.stream.now (record { parts = parts; ending = run.trace.ending })) (sym watched.has.parts)
      (executive_in through.last.host, law (sources_of it.inputs.texts.now) it.inputs.schedule.now it.stream.now first through.last watched.steps through.rest run.trace.ending begins through.went through.bytes through.are_records)

  pub found_all : RunsAreSeenThrough → AreStarts it.script.now it.stream.now it.starts.now → AreAhead 0 it.starts.now it.probes.now → is_whole run.trace.ending ≡ true → AreFoundThere it run.findings.items
  found_all law begin ahead whole =
      let through = watched.through in
      let none : through.rest ≡ [] = whole_stream (length first.files) it.stream.now through.rest watched.steps run.trace.ending through.bytes through.are_records whole in
      let all : bytes_of watched.steps ≡ it.stream.now = sym (append-nil (bytes_of watched.steps)) ∙ ap (λ rest. bytes_of watched.steps ++ rest) (sym none) ∙ through.bytes in
      all_there law (sources_of it.inputs.texts.now) it.inputs.schedule.now it.declared.now it.script.now it.stream.now it.starts.now begin first watched.steps run.trace.ending begins through
      0 it.probes.now run.findings.items ahead
      (all_probed it.declared.now it.stream.now first watched.steps it.probes.now run.findings.items watched.has.probed (omega (arith, ap length all)))
