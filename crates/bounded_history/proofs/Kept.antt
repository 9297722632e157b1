-- What reducing by columns keeps of each column.
use Rattle.std.proofs.Common.{◌≡◌, ℕ, List, [], ◌∷◌, Bool, true, false, ◌-◌, ◌/◌, ◌&&◌, ◌*◌, refl, ap, sym, ◌∙◌, subst, bit_or, Some, if◌then◌else◌}
use Rattle.std.specs.Prelude.{nat_eq, unwrap_or}
use Rattle.std.specs.Int.{int_min, int_max}
use Rattle.std.proofs.lemmas.Bool.{eqb-true}
use Rattle.bounded_history.specs.declared.entry.Entry.{Entry}
use Rattle.bounded_history.specs.Changes.{in_front, is_one_column, joined, reduced}
use Rattle.bounded_history.specs.Laws.{KeepsGreatest, KeepsLast, KeepsLeast, KeepsResults, KeepsStates, KeepsWider, greatest_of, in_column, last_of, least_of, results_of, states_of}
use Rattle.bounded_history.proofs.Grown.{wider}
use Rattle.bounded_history.proofs.Joining.{bits_thrice, greatest_thrice, least_thrice}
use Rattle.bounded_history.proofs.Reduced.{twice}

-- what is computed of the entries of a column from the last one on, where two in a row count as both
module _ {A : Type 0} (of : List Entry → A)
    (front : (entry : Entry) (one other : List Entry) → of one ≡ of other → of (entry ∷ one) ≡ of (entry ∷ other))
    (as_both : (entry one other : Entry) (entries : List Entry) → of (joined entry one ∷ other ∷ entries) ≡ of (entry ∷ one ∷ other ∷ entries)) where
  -- where an entry is in front
  keeps_front : (width at : ℕ) (entry : Entry) (one other : List Entry) → of (in_column width at one) ≡ of (in_column width at other) →
      of (in_column width at (entry ∷ one)) ≡ of (in_column width at (entry ∷ other))
  keeps_front width at entry one other same = by_both (nat_eq ((entry.from - 1) / width) at) where
    by_both : (b : Bool) → of (if b then entry ∷ in_column width at one else in_column width at one) ≡ of (if b then entry ∷ in_column width at other else in_column width at other)
    by_both true = front entry (in_column width at one) (in_column width at other) same
    by_both false = same

  -- where two become one, in front of a third of their column
  abbrev Both : ℕ → Entry → Entry → Entry → List Entry → ℕ → ℕ → ℕ → Type 0
  Both at entry one other rest c d e =
      of (if nat_eq c at then joined entry one ∷ (if nat_eq e at then other ∷ rest else rest) else (if nat_eq e at then other ∷ rest else rest))
      ≡ of (if nat_eq c at then entry ∷ (if nat_eq d at then one ∷ (if nat_eq e at then other ∷ rest else rest) else (if nat_eq e at then other ∷ rest else rest))
      else (if nat_eq d at then one ∷ (if nat_eq e at then other ∷ rest else rest) else (if nat_eq e at then other ∷ rest else rest)))

  both_of : (at : ℕ) (entry one other : Entry) (rest : List Entry) (c d e : ℕ) → c ≡ d → d ≡ e → Both at entry one other rest c d e
  both_of at entry one other rest c d e near far =
      subst (Both at entry one other rest c d) far (subst (λ place. Both at entry one other rest c place place) near (by_both (nat_eq c at))) where
        by_both : (b : Bool) → of (if b then joined entry one ∷ (if b then other ∷ rest else rest) else (if b then other ∷ rest else rest))
            ≡ of (if b then entry ∷ (if b then one ∷ (if b then other ∷ rest else rest) else (if b then other ∷ rest else rest))
            else (if b then one ∷ (if b then other ∷ rest else rest) else (if b then other ∷ rest else rest)))
        by_both true = as_both entry one other rest
        by_both false = refl

  keeps_in_front : (width at : ℕ) (entry : Entry) (entries : List Entry) → of (in_column width at (in_front width entry entries)) ≡ of (in_column width at (entry ∷ entries))
  keeps_in_front width at entry [] = refl
  keeps_in_front width at entry (one ∷ []) = refl
  keeps_in_front width at entry (one ∷ other ∷ entries) =
      by_test (is_one_column width entry.from one.from) (is_one_column width one.from other.from) refl refl where
        by_test : (near far : Bool) → near ≡ is_one_column width entry.from one.from → far ≡ is_one_column width one.from other.from →
            of (in_column width at (if near && far then joined entry one ∷ other ∷ entries else entry ∷ one ∷ other ∷ entries))
            ≡ of (in_column width at (entry ∷ one ∷ other ∷ entries))
        by_test true true near far =
            both_of at entry one other (in_column width at entries) _ _ _ (eqb-true _ _ (sym near)) (eqb-true _ _ (sym far))
        by_test true false near far = refl
        by_test false far near far_is = refl

  pub keeps : (width at : ℕ) (entries : List Entry) → of (in_column width at (reduced width entries)) ≡ of (in_column width at entries)
  keeps width at [] = refl
  keeps width at (entry ∷ entries) =
      keeps_in_front width at entry (reduced width entries)
      ∙ keeps_front width at entry (reduced width entries) entries (keeps width at entries)

pub no_result_is_lost : KeepsResults
no_result_is_lost width at entries =
    keeps results_of (λ entry one other same. ap (bit_or entry.told.results) same)
    (λ entry one other entries. bits_thrice entry.told.results one.told.results (results_of (other ∷ entries))) width at entries

pub no_state_is_lost : KeepsStates
no_state_is_lost width at entries =
    keeps states_of (λ entry one other same. ap (bit_or entry.told.states) same)
    (λ entry one other entries. bits_thrice entry.told.states one.told.states (states_of (other ∷ entries))) width at entries

pub the_least_stays : KeepsLeast
the_least_stays width at value entries =
    keeps (least_of value) (λ entry one other same. ap (int_min entry.told.low) same)
    (λ entry one other entries. least_thrice entry.told.low one.told.low (least_of value (other ∷ entries))) width at entries

pub the_greatest_stays : KeepsGreatest
the_greatest_stays width at value entries =
    keeps (greatest_of value) (λ entry one other same. ap (int_max entry.told.high) same)
    (λ entry one other entries. greatest_thrice entry.told.high one.told.high (greatest_of value (other ∷ entries))) width at entries

-- there is a last one behind an entry
some_last : (one : Entry) (entries : List Entry) (other : Entry) → last_of (one ∷ entries) ≡ Some (unwrap_or (last_of (one ∷ entries)) other)
some_last one [] other = refl
some_last one (next ∷ entries) other = some_last next entries other

last_front : (entry : Entry) (entries : List Entry) → last_of (entry ∷ entries) ≡ Some (unwrap_or (last_of entries) entry)
last_front entry [] = refl
last_front entry (one ∷ entries) = some_last one entries entry

pub the_last_stands : KeepsLast
the_last_stands width at entries =
    keeps last_of
    (λ entry one other same. last_front entry one ∙ ap (λ last. Some (unwrap_or last entry)) same ∙ sym (last_front entry other))
    (λ entry one other entries. refl) width at entries

pub the_width_says_it_all : KeepsWider
the_width_says_it_all width entries = twice width (width * 2) (wider width) entries
