-- Expectations stand in the order of their lines, and these begin one after the other in the stream.
use Rattle.std.proofs.Common.{◌≡◌, refl, sym, ◌∙◌, ap, subst, ℕ, zero, suc, ◌+◌, ◌-◌, ◌<◌, ◌≤◌, List, [], ◌∷◌, ◌++◌, length, map, append_assoc, append-nil, Option, Some, None, Result, Ok, Err, slice_index, arith}
use Rattle.std.specs.Prelude.{⊤}
use Rattle.std.specs.List.{AllByRecursion}
use Rattle.std.proofs.lemmas.List.{length-map}
use Rattle.lc_model.specs.Host.ScheduleText.{lines_of, words_of}
use Rattle.stream_script.specs.ByLines.{AreStarts}
use Rattle.scenario_trial.specs.declared.expectation_lines.Placed.{Placed}
use Rattle.scenario_trial.specs.declared.fault.ExpectationFault.{ExpectationFault}
use Rattle.scenario_trial.specs.Expected.{Expected}
use Rattle.scenario_trial.specs.ProbedLine.{ProbedLine}
use Rattle.scenario_trial.specs.Probes.{AreAhead, IsOfLine, expected_line}
use Rattle.scenario_trial.specs.Reading.{PlacedExpected, ReadFault, expectations_in, line_expected, lines_expected, placed_of, silenced_in, silenced_line, with_expected}
use Rattle.scenario_trial.proofs.Comments.{lines_again}

-- ---- the order of lines

-- these expectations are of lines from one number on, before another, one after the other
abbrev AreInOrder : ℕ → ℕ → List PlacedExpected → Type 0
AreInOrder from to [] = ⊤
AreInOrder from to (p ∷ ps) = (from ≤ p.n) × (p.n < to) × AreInOrder (p.n + 1) to ps

-- what lines expect comes behind what was expected before them
record Others (found : List PlacedExpected) (n to : ℕ) (all : List PlacedExpected) : Type 0 where
  more : List PlacedExpected
  are : all ≡ found ++ more
  ordered : AreInOrder n to more

from_before : (from before to : ℕ) (ps : List PlacedExpected) → before ≤ from → AreInOrder from to ps → AreInOrder before to ps
from_before from before to [] on is = tt
from_before from before to (p ∷ ps) on is = (omega (arith, on, is.0), is.1, is.2)

-- what is expected by the lines from this number on, behind the answer to the first
abbrev expected_by : List PlacedExpected → ℕ → List (List ℕ) → Result (Option Expected) ExpectationFault → Result (List PlacedExpected) ReadFault
expected_by found n lines (Err fault) = Err (record { line = n; fault = fault })
expected_by found n lines (Ok expected) = lines_expected (with_expected found n expected) (n + 1) lines

one_line : (found : List PlacedExpected) (n : ℕ) (line : List ℕ) (lines : List (List ℕ)) → lines_expected found n (line ∷ lines) ≡ expected_by found n lines (line_expected (words_of line))
one_line found n line lines = by_answer (line_expected (words_of line))
  where
    by_answer : (r : Result (Option Expected) ExpectationFault) →
        elim r [ Err fault ↦ Err (record { line = n; fault = fault }) | Ok expected ↦ lines_expected (with_expected found n expected) (n + 1) lines ] ≡ expected_by found n lines r
    by_answer (Err fault) = refl
    by_answer (Ok expected) = refl

by_first : (found : List PlacedExpected) (n : ℕ) (lines : List (List ℕ)) (all : List PlacedExpected) →
    ((before : List PlacedExpected) → lines_expected before (n + 1) lines ≡ Ok all → Others before (n + 1) (n + 1 + length lines) all) →
    (r : Result (Option Expected) ExpectationFault) → expected_by found n lines r ≡ Ok all → Others found n (n + suc (length lines)) all
by_first found n lines all rest (Err fault) is = absurd (cc is)
by_first found n lines all rest (Ok None) is =
    let others : Others found (n + 1) (n + 1 + length lines) all = rest found is in
    let to : n + 1 + length lines ≡ n + suc (length lines) = omega arith in
    record {
      more = others.more;
      are = others.are;
      ordered = from_before (n + 1) n (n + suc (length lines)) others.more (omega arith) (subst (λ (to : ℕ). AreInOrder (n + 1) to others.more) to others.ordered);
    }
by_first found n lines all rest (Ok (Some e)) is =
    let p : PlacedExpected = record { n = n; expected = e } in
    let others : Others (found ++ p ∷ []) (n + 1) (n + 1 + length lines) all = rest (found ++ p ∷ []) is in
    let to : n + 1 + length lines ≡ n + suc (length lines) = omega arith in
    record {
      more = p ∷ others.more;
      are = others.are ∙ append_assoc found (p ∷ []) others.more;
      ordered = (omega arith, omega arith, subst (λ (to : ℕ). AreInOrder (n + 1) to others.more) to others.ordered);
    }

in_order : (lines : List (List ℕ)) (found : List PlacedExpected) (n : ℕ) (all : List PlacedExpected) → lines_expected found n lines ≡ Ok all → Others found n (n + length lines) all
in_order [] found n all is = let same : found ≡ all = cc is in record { more = []; are = sym same ∙ sym (append-nil found); ordered = tt }
in_order (line ∷ lines) found n all is =
    by_first found n lines all (λ before rest. in_order lines before (n + 1) all rest) (line_expected (words_of line)) (sym (one_line found n line lines) ∙ is)

-- ---- where they begin

module _ (starts : List ℕ) (ascend : (place : ℕ) → place + 1 < length starts → slice_index starts place ≤ slice_index starts (place + 1)) where
  no_less : (a k : ℕ) → a + k < length starts → slice_index starts a ≤ slice_index starts (a + k)
  no_less a zero less = let same : a ≡ a + 0 = omega arith in omega (arith, ap (slice_index starts) same)
  no_less a (suc k) less =
      let same : a + k + 1 ≡ a + suc k = omega arith in
      omega (arith, no_less a k (omega (arith, less)), ascend (a + k) (omega (arith, less)), ap (slice_index starts) same)

  later : (a b : ℕ) → a ≤ b → b < length starts → slice_index starts a ≤ slice_index starts b
  later a b on less =
      let same : a + (b - a) ≡ b = omega (arith, on) in
      omega (arith, no_less a (b - a) (omega (arith, less, same)), ap (slice_index starts) same)

  ahead : (ps : List Placed) (from place : ℕ) → 0 < from → (from - 1 < length starts → place ≤ slice_index starts (from - 1)) → AreInOrder from (1 + length starts) (map placed_of ps) →
      AreAhead place starts (map (expected_line starts) ps)
  ahead [] from place some near is = tt
  ahead (p ∷ ps) from place some near is =
      let inside : p.n - 1 < length starts = omega (arith, is.0, is.1, some) in
      let first : from - 1 < length starts = omega (arith, is.0, inside) in
      let next : p.n + 1 - 1 ≡ p.n = omega arith in (
        inside,
        refl,
        omega (arith, near first, later (from - 1) (p.n - 1) (omega (arith, is.0)) inside),
        ahead ps (p.n + 1) (slice_index starts (p.n - 1)) (omega arith)
            (λ within. later (p.n - 1) (p.n + 1 - 1) (omega arith) within) is.2,
      )

inside : (starts : List ℕ) (ps : List Placed) (from : ℕ) → 0 < from → AreInOrder from (1 + length starts) (map placed_of ps) → AllByRecursion (IsOfLine starts) ps
inside starts [] from some is = tt
inside starts (p ∷ ps) from some is = ((omega (arith, is.0, some), omega (arith, is.0, is.1, some)), inside starts ps (p.n + 1) (omega arith) is.2)

-- ---- those of a script

module _ (script stream starts : List ℕ) (found : List Placed) (says : expectations_in script ≡ Ok (map placed_of found)) (begin : AreStarts (silenced_in script) stream starts) where
  ordered : AreInOrder 1 (1 + length starts) (map placed_of found)
  ordered =
      let others : Others [] 1 (1 + length (lines_of script)) (map placed_of found) = in_order (lines_of script) [] 1 (map placed_of found) says in
      let many : length (lines_of script) ≡ length starts = sym (begin.each ∙ ap length (lines_again script) ∙ length-map (lines_of script) silenced_line) in
      subst (λ (all : List PlacedExpected). AreInOrder 1 (1 + length starts) all) (sym others.are)
      (subst (λ (count : ℕ). AreInOrder 1 (1 + count) others.more) many others.ordered)

  pub all_inside : AllByRecursion (IsOfLine starts) found
  all_inside = inside starts found 1 (omega arith) ordered

  pub all_ahead : AreAhead 0 starts (map (expected_line starts) found)
  all_ahead = ahead starts begin.ascend found 1 0 (omega arith) (λ within. omega arith) ordered

-- ---- where what is the same has several names

pub inside_as : (script quiet stream starts starts' : List ℕ) (found : List Placed) → expectations_in script ≡ Ok (map placed_of found) → quiet ≡ silenced_in script → AreStarts quiet stream starts →
    starts' ≡ starts → AllByRecursion (IsOfLine starts') found
inside_as script quiet stream starts starts' found says silent begin same =
    subst (λ them. AllByRecursion (IsOfLine them) found) (sym same)
    (all_inside script stream starts found says (subst (λ q. AreStarts q stream starts) silent begin))

pub ahead_as : (script quiet stream starts starts' there : List ℕ) (found : List Placed) (lines : List ProbedLine) → expectations_in script ≡ Ok (map placed_of found) → quiet ≡ silenced_in script →
    AreStarts quiet stream starts → starts' ≡ starts → there ≡ starts → lines ≡ map (expected_line starts') found → AreAhead 0 there lines
ahead_as script quiet stream starts starts' there found lines says silent begin same as_well of =
    subst (λ them. AreAhead 0 them lines) (sym as_well)
    (subst (AreAhead 0 starts) (sym (of ∙ ap (λ them. map (expected_line them) found) same))
    (all_ahead script stream starts found says (subst (λ q. AreStarts q stream starts) silent begin)))
