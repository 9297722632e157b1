-- What the next line finds.
use Rattle.std.proofs.Common.{◌≡◌, sym, ◌∙◌, ap, ℕ, ◌+◌, Bool, true, false, List, [], ◌∷◌, ◌++◌, length, drop, append_assoc, Option, Some, None, if◌then◌else◌, arith}
use Rattle.std.proofs.lemmas.List.{drop-drop, length-append}
use Rattle.scenario_trial.specs.declared.probe.Finding.{Finding}
use Rattle.scenario_trial.specs.ProbedLine.{ProbedLine}
use Rattle.scenario_trial.specs.Probes.{findings_before, is_before, next_before}

module _ (find : ProbedLine → Finding) (end : Option ℕ) where
  first_found : (rest : List ProbedLine) (line : ProbedLine) → next_before end rest ≡ Some line → findings_before find end rest ≡ find line ∷ findings_before find end (drop 1 rest)
  first_found [] line is = absurd (cc is)
  first_found (first ∷ rest) line is = by_test (is_before end first.place) is
    where
      by_test : (b : Bool) → (if b then Some first else None) ≡ Some line → (if b then find first ∷ findings_before find end rest else []) ≡ find line ∷ findings_before find end rest
      by_test true same = let one : first ≡ line = cc same in ap (λ it. find it ∷ findings_before find end rest) one
      by_test false same = absurd (cc same)

  pub one_found : (lines : List ProbedLine) (line : ProbedLine) (old new : List Finding) (finding : Finding) → next_before end (drop (length old) lines) ≡ Some line → finding ≡ find line → new ≡ old ++ finding ∷ [] →
      new ++ findings_before find end (drop (length new) lines) ≡ old ++ findings_before find end (drop (length old) lines)
  one_found lines line old new finding is finds are =
      let many : length new ≡ length old + 1 = omega (arith, ap length are, length-append old (finding ∷ [])) in
      let rest : drop (length new) lines ≡ drop 1 (drop (length old) lines) = ap (λ k. drop k lines) many ∙ sym (drop-drop 1 (length old) lines) in
      ap (λ these. these ++ findings_before find end (drop (length new) lines)) are
      ∙ append_assoc old (finding ∷ []) (findings_before find end (drop (length new) lines))
      ∙ ap (λ left. old ++ finding ∷ findings_before find end left) rest
      ∙ ap (λ it. old ++ it ∷ findings_before find end (drop 1 (drop (length old) lines))) finds
      ∙ ap (λ these. old ++ these) (sym (first_found (drop (length old) lines) line is))
