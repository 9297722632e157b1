-- What the tables always are stays so.
use Rattle.std.proofs.Common.{◌≡◌, refl, sym, ◌∙◌, ap, ℕ, zero, suc, List, [], ◌∷◌, ◌++◌, length, take, drop, slice_get, Some, option_map, append-nil, arith}
use Rattle.std.proofs.Math.ListN.{drop_of_length-le}
use Rattle.std.proofs.Math.Seq.{take_all}
use Rattle.lc_model.specs.declared.field.Term.{Term}
use Rattle.lc_model.specs.LimitChecker.Steps.{Point}
use Rattle.lc_model.specs.Kept.Summary.{WatchResult, Tally}
use Rattle.lc_model.specs.Kept.Next.{results_by}
use Rattle.limit_engine.specs.declared.actionpoint.RuleEntry.{RuleEntry}
use Rattle.limit_engine.specs.Tables.{AreTables}

module _ (f : Term → WatchResult → WatchResult) where
  pub length-results_by : (terms : List Term) (results : List WatchResult) → length results ≡ length terms → length (results_by f terms results) ≡ length terms
  length-results_by [] results long = refl
  length-results_by (t ∷ terms) [] long = absurd (omega (arith, long))
  length-results_by (t ∷ terms) (r ∷ results) long = omega (arith, length-results_by terms results (omega (arith, long)))

  by_number : (terms : List Term) (results : List WatchResult) (j : ℕ) (t : Term) → length results ≡ length terms → slice_get terms j ≡ Some t →
      slice_get (results_by f terms results) j ≡ option_map (f t) (slice_get results j)
  by_number [] results j t long there = absurd (cc there)
  by_number (u ∷ terms) [] j t long there = absurd (omega (arith, long))
  by_number (u ∷ terms) (r ∷ results) zero t long there = let one : u ≡ t = cc there in ap (λ v. Some (f v r)) one
  by_number (u ∷ terms) (r ∷ results) (suc j) t long there = by_number terms results j t (omega (arith, long)) there

  -- results that depend on the watchpoint and its old result alone
  pub results_kept : (terms : List Term) (watch : List WatchResult) (entries : List RuleEntry) (points : List (Point Tally)) (words : List ℕ) →
      AreTables terms watch entries points words → AreTables terms (results_by f terms watch) entries points words
  results_kept terms watch entries points words tables = record {
    few = tables.few;
    few_rules = tables.few_rules;
    found = length-results_by terms watch tables.found;
    counted = tables.counted;
    shared = λ j k t at_j at_k.
        by_number terms watch j t tables.found at_j ∙ ap (option_map (f t)) (tables.shared j k t at_j at_k) ∙ sym (by_number terms watch k t tables.found at_k);
    runnable = tables.runnable;
  }

-- a slice of the whole vector, written back
pub written_back : {A : Type 0} (new old : List A) (n : ℕ) → length new ≡ n → length old ≡ n → take n (new ++ drop (length new) old) ≡ new
written_back new old n e f =
    rw (drop_of_length-le old {i = length new} (omega (arith, e, f)), append-nil new) (take_all n new (omega (arith, e)))
