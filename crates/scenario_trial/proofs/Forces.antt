-- The text in force at the marked lines of a script.
use Rattle.std.proofs.Common.{◌≡◌, refl, sym, ◌∙◌, ap, subst, ℕ, ◌+◌, ◌-◌, ◌<◌, ◌≤◌, Bool, true, false, List, [], ◌∷◌, length, map, slice_index, arith}
use Rattle.std.specs.List.{AllByRecursion, AllZip, list_any}
use Rattle.std.proofs.lemmas.List.{length-map}
use Rattle.lc_model.specs.Host.Schedule.{Schedule}
use Rattle.lc_model.specs.Host.ScheduleText.{lines_of}
use Rattle.scenarios.specs.Declarations.{Declarations}
use Rattle.scenarios.specs.declared.force.ForceChange.{ForceChange}
use Rattle.stream_script.specs.ByLines.{AreStarts}
use Rattle.scenario_trial.specs.declared.probe.Finding.{Finding}
use Rattle.scenario_trial.specs.ProbedLine.{ProbedLine}
use Rattle.scenario_trial.specs.Probes.{AreAhead, changes_by, state_line}
use Rattle.scenario_trial.specs.Probing.{IsFoundThere}
use Rattle.scenario_trial.specs.Settled.{AreShown, IsShown, line_in, marked_from, sets_state}

-- ---- where no line is marked

none_marked : (marks : List Bool) (n : ℕ) → list_any (λ mark. mark) marks ≡ false → marked_from n marks ≡ []
none_marked [] n none = refl
none_marked (true ∷ marks) n none = absurd (cc none)
none_marked (false ∷ marks) n none = none_marked marks (n + 1) none

none_shown : (sources : List (List ℕ)) (schedule : Schedule) (script : List ℕ) (marks : List Bool) → marks ≡ map sets_state (lines_of script) → list_any (λ mark. mark) marks ≡ false →
    AreShown sources schedule script []
none_shown sources schedule script marks are none = record {
  lines = sym (none_marked marks 1 none) ∙ ap (marked_from 1) are;
  shown = tt;
}

-- where what is the same has several names
pub nothing_shown : (sources : List (List ℕ)) (schedule : Schedule) (script quiet : List ℕ) (marks marks' : List Bool) (changes : List ForceChange) →
    quiet ≡ script → marks ≡ map sets_state (lines_of quiet) → marks' ≡ marks → list_any (λ mark. mark) marks' ≡ false → changes ≡ [] → AreShown sources schedule script changes
nothing_shown sources schedule script quiet marks marks' changes silent are same none nothing =
    subst (AreShown sources schedule script) (sym nothing)
    (none_shown sources schedule script marks (are ∙ ap (λ it. map sets_state (lines_of it)) silent) (ap (list_any (λ (mark : Bool). mark)) (sym same) ∙ none))

-- ---- the marked lines

module _ (script stream starts : List ℕ) (begin : AreStarts script stream starts) where
  marks_ahead : (marks : List Bool) (k place : ℕ) → length marks + k ≡ length starts → (k < length starts → place ≤ slice_index starts k) →
      AreAhead place starts (map (state_line starts) (marked_from (k + 1) marks))
  marks_ahead [] k place each near = tt
  marks_ahead (false ∷ marks) k place each near =
      marks_ahead marks (k + 1) place (omega (arith, each)) (λ more. omega (arith, near (omega (arith, more)), begin.ascend k more))
  marks_ahead (true ∷ marks) k place each near =
      let here : k < length starts = omega (arith, each) in
      let same : slice_index starts (k + 1 - 1) ≡ slice_index starts k = ap (slice_index starts) (omega arith) in (
        omega (arith, here),
        refl,
        omega (arith, near here, same),
        marks_ahead marks (k + 1) (slice_index starts (k + 1 - 1)) (omega (arith, each)) (λ more. omega (arith, same, begin.ascend k more)),
      )

  pub states_ahead : (marks : List Bool) → length marks ≡ length starts → AreAhead 0 starts (map (state_line starts) (marked_from 1 marks))
  states_ahead marks each = marks_ahead marks 0 0 (omega (arith, each)) (λ some. omega arith)

-- as many lines are marked or not as begin somewhere
pub each_marked : (script stream starts : List ℕ) (marks : List Bool) → AreStarts script stream starts → marks ≡ map sets_state (lines_of script) → length marks ≡ length starts
each_marked script stream starts marks begin are = ap length are ∙ length-map (lines_of script) sets_state ∙ sym begin.each

-- ---- what they found

lines_in : (R : ProbedLine → Finding → Type 0) (lines : List ProbedLine) (findings : List Finding) → AllZip R lines findings → map line_in (changes_by lines findings) ≡ map (λ (line : ProbedLine). line.n) lines
lines_in R [] [] all = refl
lines_in R [] (finding ∷ findings) all = absurd all
lines_in R (line ∷ lines) [] all = absurd all
lines_in R (line ∷ lines) (finding ∷ findings) all = ap (λ more. line.n ∷ more) (lines_in R lines findings all.1)

numbers_of : (starts numbers : List ℕ) → map (λ (line : ProbedLine). line.n) (map (state_line starts) numbers) ≡ numbers
numbers_of starts [] = refl
numbers_of starts (n ∷ numbers) = ap (λ more. n ∷ more) (numbers_of starts numbers)

module _ (sources : List (List ℕ)) (schedule : Schedule) (declared : Declarations) (script : List ℕ) where
  changes_shown : (lines : List ProbedLine) (findings : List Finding) → AllZip (IsFoundThere sources schedule declared script) lines findings → AllByRecursion (IsShown sources schedule script) (changes_by lines findings)
  changes_shown [] [] all = tt
  changes_shown [] (finding ∷ findings) all = absurd all
  changes_shown (line ∷ lines) [] all = absurd all
  changes_shown (line ∷ lines) (finding ∷ findings) all = (
    record { stream = all.0.stream; says = all.0.says; now = all.0.now; behind = all.0.behind; in_force = all.0.in_force },
    changes_shown lines findings all.1,
  )

  pub all_shown : (starts : List ℕ) (marks : List Bool) (lines : List ProbedLine) (findings : List Finding) → marks ≡ map sets_state (lines_of script) → lines ≡ map (state_line starts) (marked_from 1 marks) →
      AllZip (IsFoundThere sources schedule declared script) lines findings → AreShown sources schedule script (changes_by lines findings)
  all_shown starts marks lines findings are of all = record {
    lines =
        lines_in (IsFoundThere sources schedule declared script) lines findings all
        ∙ ap (map (λ (line : ProbedLine). line.n)) of
        ∙ numbers_of starts (marked_from 1 marks)
        ∙ ap (marked_from 1) are;
    shown = changes_shown lines findings all;
  }

-- ---- where what is the same has several names

pub ahead_as : (script stream starts starts' there : List ℕ) (marks : List Bool) (lines : List ProbedLine) → AreStarts script stream starts → marks ≡ map sets_state (lines_of script) →
    starts' ≡ starts → there ≡ starts → lines ≡ map (state_line starts') (marked_from 1 marks) → AreAhead 0 there lines
ahead_as script stream starts starts' there marks lines begin are same as_well of =
    subst (λ them. AreAhead 0 them lines) (sym as_well)
    (subst (AreAhead 0 starts) (sym (of ∙ ap (λ them. map (state_line them) (marked_from 1 marks)) same))
    (states_ahead script stream starts begin marks (each_marked script stream starts marks begin are)))

pub shown_as : (sources : List (List ℕ)) (schedule : Schedule) (declared : Declarations) (script quiet starts : List ℕ) (marks : List Bool) (lines lines' : List ProbedLine) (findings findings' : List Finding)
    (changes : List ForceChange) → quiet ≡ script → marks ≡ map sets_state (lines_of quiet) → lines ≡ map (state_line starts) (marked_from 1 marks) → lines' ≡ lines → findings' ≡ findings →
    AllZip (IsFoundThere sources schedule declared quiet) lines findings → changes ≡ changes_by lines' findings' → AreShown sources schedule script changes
shown_as sources schedule declared script quiet starts marks lines lines' findings findings' changes silent are of same as_well all changed =
    subst (λ it. AreShown sources schedule it changes) silent
    (subst (AreShown sources schedule quiet) (sym (changed ∙ ap (λ them. changes_by them findings') same ∙ ap (changes_by lines) as_well))
    (all_shown sources schedule declared quiet starts marks lines findings are of all))
