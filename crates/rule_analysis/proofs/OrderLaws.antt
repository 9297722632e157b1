-- Each pair is told once, and each comparison.
use Rattle.std.proofs.Common.{◌≡◌, ◌≢◌, ℕ, ◌+◌, ◌<◌, List, [], ◌∷◌, ◌++◌, slice_get, sym, ◌∙◌, ap, subst, arith, Some, inl, inr, ◌⊎◌}
use Rattle.std.specs.List.{AllByRecursion, AllPairs}
use Rattle.std.proofs.lemmas.List.Elements.{All-from_recursion, All-get_or}
use Rattle.std.proofs.lemmas.List.Quantifiers.{all_pairs_push}
use Rattle.lc_model.specs.declared.field.Term.{Term}
use Rattle.rule_analysis.specs.declared.finding.PairJudgement.{PairJudgement}
use Rattle.rule_analysis.specs.declared.finding.SpareComparison.{SpareComparison}
use Rattle.rule_analysis.specs.Findings.{AreBefore, IsBefore}
use Rattle.rule_analysis.specs.Spare.{AreOfRulesBefore, AreOfTermsBefore, IsAmongFirst, IsAnother, IsToldAtMost}
use Rattle.rule_analysis.proofs.Each.{both, each}

pushed_in_order : {A : Type 0} (R : A → A → Type 0) (xs : List A) (x : A) → AllPairs R xs → AllByRecursion (λ y. R y x) xs → AllPairs R (xs ++ x ∷ [])
pushed_in_order R xs x pairs before =
    all_pairs_push R xs x pairs (λ k d below. All-get_or (λ y. R y x) xs k d below (All-from_recursion (λ y. R y x) xs before))

-- ---- pairs

past : (first second : ℕ) (p : PairJudgement) → IsBefore first second p → IsBefore (first + 1) second p
past first second p (inl less) = inl less
past first second p (inr same) = inr (same.0, omega (arith, same.1))

pub none_comes : (pairs : List PairJudgement) (first second : ℕ) → AreBefore pairs first second → AreBefore pairs (first + 1) second
none_comes pairs first second are = record { in_order = are.in_order; before = each pairs (past first second) are.before }

pub one_comes : (old new : List PairJudgement) (p : PairJudgement) (first second : ℕ) → p.first ≡ first → p.second ≡ second → new ≡ old ++ p ∷ [] →
    AreBefore old first second → AreBefore new (first + 1) second
one_comes old new p first second is_first is_second pushed are = subst (λ pairs. AreBefore pairs (first + 1) second) (sym pushed) (record {
  in_order = pushed_in_order (λ (a b : PairJudgement). IsBefore b.first b.second a) old p are.in_order (each old before_it are.before);
  before = both (IsBefore (first + 1) second) old (p ∷ []) (each old (past first second) are.before) (inr (is_second, omega (arith, is_first)), tt);
})
  where
    before_it : (q : PairJudgement) → IsBefore first second q → IsBefore p.first p.second q
    before_it q (inl less) = inl (omega (arith, less, is_second))
    before_it q (inr same) = inr (same.0 ∙ sym is_second, omega (arith, same.1, is_first))

-- all with one second rule have come
pub second_is_done : (pairs : List PairJudgement) (first second : ℕ) → AreBefore pairs first second → AreBefore pairs 0 (second + 1)
second_is_done pairs first second are = record { in_order = are.in_order; before = each pairs done are.before }
  where
    done : (p : PairJudgement) → IsBefore first second p → IsBefore 0 (second + 1) p
    done p (inl less) = inl (omega (arith, less))
    done p (inr same) = inl (omega (arith, same.0))

-- ---- comparisons

-- what was told of a rule stands among the comparisons so far
abbrev IsEarlier : ℕ → List Term → ℕ → SpareComparison → Type 0
IsEarlier rule terms count s = (s.rule < rule) ⊎ ((s.rule ≡ rule) × IsAmongFirst terms count s.term)

later : (rule : ℕ) (terms : List Term) (count : ℕ) (s : SpareComparison) → IsEarlier rule terms count s → IsEarlier rule terms (count + 1) s
later rule terms count s (inl less) = inl less
later rule terms count s (inr own) = inr (own.0, (own.1.0, omega (arith, own.1.1), own.1.2))

pub none_is_told : (spare : List SpareComparison) (rule : ℕ) (terms : List Term) (at : ℕ) → AreOfTermsBefore spare rule terms at → AreOfTermsBefore spare rule terms (at + 1)
none_is_told spare rule terms at are = record { once = are.once; before = each spare (later rule terms at) are.before }

pub one_is_told : (old new : List SpareComparison) (rule : ℕ) (terms : List Term) (at : ℕ) (t : Term) → slice_get terms at ≡ Some t →
    ((i : ℕ) → i < at → slice_get terms i ≢ slice_get terms at) → IsToldAtMost old new rule t → AreOfTermsBefore old rule terms at →
    AreOfTermsBefore new rule terms (at + 1)
one_is_told old new rule terms at t is first (inl same) are = subst (λ spare. AreOfTermsBefore spare rule terms (at + 1)) (sym same) (none_is_told old rule terms at are)
one_is_told old new rule terms at t is first (inr (s, of_rule, of_term, pushed)) are = subst (λ spare. AreOfTermsBefore spare rule terms (at + 1)) (sym pushed) (record {
  once = pushed_in_order IsAnother old s are.once (each old before_it are.before);
  before = both (IsEarlier rule terms (at + 1)) old (s ∷ []) (each old (later rule terms at) are.before)
      (inr (of_rule, (at, omega arith, is ∙ ap Some (sym of_term))), tt);
})
  where
    before_it : (u : SpareComparison) → IsEarlier rule terms at u → IsAnother u s
    before_it u (inl less) = inl (omega (arith, less, of_rule))
    before_it u (inr own) = inr (
      own.0 ∙ sym of_rule,
      λ same. first own.1.0 own.1.1 (own.1.2 ∙ ap Some (same ∙ of_term) ∙ sym is),
    )

-- a rule begins, and ends
pub rule_begins : (spare : List SpareComparison) (rule : ℕ) (terms : List Term) → AreOfRulesBefore spare rule → AreOfTermsBefore spare rule terms 0
rule_begins spare rule terms are = record { once = are.once; before = each spare (λ s less. inl less) are.before }

pub rule_is_done : (spare : List SpareComparison) (rule : ℕ) (terms : List Term) (count : ℕ) → AreOfTermsBefore spare rule terms count →
    AreOfRulesBefore spare (rule + 1)
rule_is_done spare rule terms count are = record { once = are.once; before = each spare done are.before }
  where
    done : (s : SpareComparison) → IsEarlier rule terms count s → s.rule < rule + 1
    done s (inl less) = omega (arith, less)
    done s (inr own) = omega (arith, own.0)
