-- The tables of a sound pair of images are what the images spell.
use Rattle.std.proofs.Common.{◌≡◌, refl, sym, ◌∙◌, ap, ℕ, zero, suc, ◌+◌, ◌-◌, ◌<◌, ◌≤◌, List, [], ◌∷◌, ◌++◌, length, map, flat_map, slice_range, Option, Some, option_map, unwrap_or, All, append-nil, append_assoc, length-append, arith}
use Rattle.std.specs.List.{AllByRecursion}
use Rattle.std.proofs.Math.Seq.{take-append-le, take_all, drop-append_seam}
use Rattle.std.proofs.lemmas.List.{length-map, map-append}
use Rattle.std.proofs.lemmas.List.Concat.{flat_map-append}
use Rattle.std.proofs.lemmas.Option.{slice_get-map}
use Rattle.lc_model.specs.declared.field.Term.{Term}
use Rattle.lc_model.specs.Condition.{Condition}
use Rattle.lc_model.specs.Rule.{Actionpoint}
use Rattle.lc_model.specs.Tables.Half.{IsMatch}
use Rattle.lc_model.specs.Tables.Image.{Layout, own_count, watchpoint_count, entry_at, numbers_below}
use Rattle.lc_model.specs.Tables.InForce.{layouts}
use Rattle.lc_model.specs.Tables.Spelled.{spelled_terms, spelled_condition, spelled_rule_if, spelled_by_layout, spelled_rules}
use Rattle.lc_model.specs.Laws.Equations.{IsSpelled}
use Rattle.lc_model.specs.LimitChecker.Steps.{Point}
use Rattle.lc_model.specs.Kept.Summary.{Tally}
use Rattle.lc_model.specs.Kept.Next.{unseen_result, by_counts}
use Rattle.lc_model.proofs.Tables.ImageParts.{length_listed}
use Rattle.lc_model.proofs.Tables.SaidLaws.{all_append}
use Rattle.lc_model.proofs.Tables.SpelledEquations.{condition_of_equation}
use Rattle.lc_model.proofs.Tables.SpellsOnce.{computed}
use Rattle.table_validator.specs.Sound.{adt_layout, IsSoundEquation, HasSoundWatchpoints, HasSoundActionpoints}
use Rattle.limit_engine.specs.declared.actionpoint.RuleEntry.{RuleEntry}
use Rattle.limit_engine.specs.Entry.{rule_with, rule_in, no_condition, IsRunnable}
use Rattle.limit_engine.specs.Layout.{entry_for, point_for, words_for, entries_below, points_below, words_below}
use Rattle.limit_engine.specs.Tables.{AreTables}
use Rattle.limit_engine.specs.Engine.{fresh_point}
use Rattle.limit_engine.proofs.Laying.{has_place}

-- ---- lists

-- what lies between two parts
between : (before ws after : List ℕ) → slice_range (before ++ (ws ++ after)) (length before) (length before + length ws) ≡ ws
between before ws after =
    let long : length before + length ws - length before ≡ length ws = omega arith in
    rw (long, drop-append_seam before (ws ++ after), take-append-le (length ws) ws after (omega arith)) (take_all (length ws) ws (omega arith))

-- one item of a list for each number
one_each : {A : Type 0} (g : ℕ → List A) (h : ℕ → A) (k : ℕ) → ((n : ℕ) → n < k → g n ≡ h n ∷ []) → flat_map g (numbers_below k) ≡ map h (numbers_below k)
one_each g h zero same = refl
one_each g h (suc k) same =
    flat_map-append g (numbers_below k) (k ∷ [])
    ∙ (λ i. one_each g h k (λ n below. same n (omega (arith, below))) i ++ (append-nil (g k) ∙ same k (omega arith)) i)
    ∙ sym (map-append h (numbers_below k) (k ∷ []))

pub each : {A : Type 0} (P : A → Type 0) (xs : List A) → AllByRecursion P xs → All P xs
each P [] all k d inside = absurd (omega (arith, inside))
each P (x ∷ xs) all zero d inside = all.0
each P (x ∷ xs) all (suc k) d inside = each P xs all.1 k d (omega (arith, inside))

-- ---- actionpoints

module _ (l : Layout) (terms : List Term) (adt : List ℕ) where
  entry : ℕ → RuleEntry
  entry n = entry_for (entry_at l adt n) (length (words_below l adt n)) (length (words_below l adt n) + length (words_for (entry_at l adt n)))

  -- the rule of an actionpoint
  rule_at : ℕ → Actionpoint
  rule_at n =
      let bytes : List ℕ = entry_at l adt n in
      rule_with (entry_for bytes 0 0) (unwrap_or (spelled_condition terms (words_for bytes)) no_condition)

  entry_says : (n : ℕ) (after : List ℕ) → rule_in terms (words_below l adt n ++ (words_for (entry_at l adt n) ++ after)) (entry n) ≡ rule_at n
  unfolding entry rule_at
  entry_says n after =
      ap (λ us. rule_with (entry n) (unwrap_or (spelled_condition terms us) no_condition)) (between (words_below l adt n) (words_for (entry_at l adt n)) after)

  -- whatever words stand behind
  rules_laid : (k : ℕ) (after : List ℕ) → map (rule_in terms (words_below l adt k ++ after)) (entries_below l adt k) ≡ map rule_at (numbers_below k)
  unfolding entry
  rules_laid zero after = refl
  rules_laid (suc k) after =
      let before : List ℕ = words_below l adt k in
      let ws : List ℕ = words_for (entry_at l adt k) in
      let all : before ++ ws ++ after ≡ before ++ (ws ++ after) = append_assoc before ws after in
      map-append (rule_in terms (before ++ ws ++ after)) (entries_below l adt k) (entry k ∷ [])
      ∙ (λ i. map (rule_in terms (all i)) (entries_below l adt k) ++ rule_in terms (all i) (entry k) ∷ [])
      ∙ (λ i. rules_laid k (ws ++ after) i ++ entry_says k after i ∷ [])
      ∙ sym (map-append rule_at (numbers_below k) (k ∷ []))

  entry_runs : (n : ℕ) (after : List ℕ) → length (words_for (entry_at l adt n)) ≤ 31 → IsSoundEquation (length terms) (words_for (entry_at l adt n)) →
      IsRunnable terms (words_below l adt n ++ (words_for (entry_at l adt n) ++ after)) (entry n)
  unfolding entry
  entry_runs n after few sound =
      let before : List ℕ = words_below l adt n in
      let ws : List ℕ = words_for (entry_at l adt n) in
      record {
        from = omega arith;
        to = omega (arith, length-append before (ws ++ after), length-append ws after);
        short = omega (arith, few);
        sound = rw (between before ws after) sound;
      }

  entries_run : (k : ℕ) (after : List ℕ) → ((n : ℕ) → n < k → length (words_for (entry_at l adt n)) ≤ 31) →
      ((n : ℕ) → n < k → IsSoundEquation (length terms) (words_for (entry_at l adt n))) →
      AllByRecursion (IsRunnable terms (words_below l adt k ++ after)) (entries_below l adt k)
  unfolding entry
  entries_run zero after few all = tt
  entries_run (suc k) after few all =
      let before : List ℕ = words_below l adt k in
      let ws : List ℕ = words_for (entry_at l adt k) in
      rw (append_assoc before ws after)
      (all_append (IsRunnable terms (before ++ (ws ++ after))) (entries_below l adt k) (entry k ∷ [])
      (entries_run k (ws ++ after) (λ n below. few n (omega (arith, below))) (λ n below. all n (omega (arith, below))))
      (entry_runs k after (few k (omega arith)) (all k (omega arith)), tt))

  points_laid : (k : ℕ) → points_below l adt k ≡ map fresh_point (map rule_at (numbers_below k))
  unfolding rule_at
  points_laid zero = refl
  points_laid (suc k) =
      ap (λ (points : List (Point Tally)). points ++ point_for (entry_at l adt k) ∷ []) (points_laid k)
      ∙ sym (map-append fresh_point (map rule_at (numbers_below k)) (rule_at k ∷ []))
      ∙ ap (map fresh_point) (sym (map-append rule_at (numbers_below k) (k ∷ [])))

  as_many : (k : ℕ) → length (points_below l adt k) ≡ length (entries_below l adt k)
  unfolding entry
  as_many zero = refl
  as_many (suc k) =
      length-append (points_below l adt k) (point_for (entry_at l adt k) ∷ [])
      ∙ ap (λ n. n + 1) (as_many k)
      ∙ sym (length-append (entries_below l adt k) (entry k ∷ []))

  many_entries : (k : ℕ) → length (entries_below l adt k) ≡ k
  unfolding entry
  many_entries zero = refl
  many_entries (suc k) = omega (arith, many_entries k, length-append (entries_below l adt k) (entry k ∷ []))

  -- the rules that are spelled are those
  rules_spelled : length terms ≤ 176 → (k : ℕ) → ((n : ℕ) → n < k → IsSoundEquation (length terms) (words_for (entry_at l adt n))) →
      flat_map (λ n. spelled_rule_if (entry_at l adt n) (spelled_condition terms (words_for (entry_at l adt n)))) (numbers_below k)
      ≡ map rule_at (numbers_below k)
  unfolding rule_at
  rules_spelled few k all = one_each _ rule_at k (λ n below.
      let bytes : List ℕ = entry_at l adt n in
      let said : IsSpelled terms (words_for bytes) (all n below).need = condition_of_equation terms (all n below).spells in
      let spelled : spelled_condition terms (words_for bytes) ≡ Some said.0 = computed terms (omega (arith, few)) said.1 in
      ap (spelled_rule_if bytes) spelled ∙ sym (ap (λ (c : Option Condition). rule_with (entry_for bytes 0 0) (unwrap_or c no_condition) ∷ []) spelled))

-- ---- the tables

module _ (wdt adt : List ℕ) (watches : HasSoundWatchpoints wdt) (actions : HasSoundActionpoints adt) (match : IsMatch wdt adt) where
  many : length (spelled_terms wdt) ≡ watchpoint_count adt
  many = length_listed _ (own_count wdt) ∙ sym watches.same ∙ match.watchpoints

  pub few : length (spelled_terms wdt) ≤ 176
  few = omega (arith, many, actions.watchpoints)

  equations : (n : ℕ) → n < own_count adt → IsSoundEquation (length (spelled_terms wdt)) (words_for (entry_at (adt_layout adt) adt n))
  equations n used = rw many (actions.each n used).equation

  short : (n : ℕ) → n < own_count adt → length (words_for (entry_at (adt_layout adt) adt n)) ≤ 31
  short n used = (has_place adt (entry_at (adt_layout adt) adt n) n actions used refl).words

  pub tables_set : AreTables (spelled_terms wdt) (by_counts.unseen (spelled_terms wdt)) (entries_below (adt_layout adt) adt (own_count adt)) (points_below (adt_layout adt) adt (own_count adt)) (words_below (adt_layout adt) adt (own_count adt))
  tables_set = record {
    few = few;
    few_rules = omega (arith, many_entries (adt_layout adt) (spelled_terms wdt) adt (own_count adt), actions.own);
    found = length-map (spelled_terms wdt) (λ (t : Term). unseen_result);
    counted = as_many (adt_layout adt) (spelled_terms wdt) adt (own_count adt);
    shared = λ j k t at_j at_k.
        slice_get-map (λ (u : Term). unseen_result) (spelled_terms wdt) j ∙ ap (option_map (λ (u : Term). unseen_result)) (at_j ∙ sym at_k)
        ∙ sym (slice_get-map (λ (u : Term). unseen_result) (spelled_terms wdt) k);
    runnable = each _ _ (rw (append-nil (words_below (adt_layout adt) adt (own_count adt))) at (entries_run (adt_layout adt) (spelled_terms wdt) adt (own_count adt) [] short equations));
  }

  pub rules_set : map (rule_in (spelled_terms wdt) (words_below (adt_layout adt) adt (own_count adt))) (entries_below (adt_layout adt) adt (own_count adt)) ≡ spelled_rules layouts wdt adt
  rules_set =
      ap (λ words. map (rule_in (spelled_terms wdt) words) (entries_below (adt_layout adt) adt (own_count adt))) (sym (append-nil (words_below (adt_layout adt) adt (own_count adt))))
      ∙ rules_laid (adt_layout adt) (spelled_terms wdt) adt (own_count adt) []
      ∙ sym (rules_spelled (adt_layout adt) (spelled_terms wdt) adt few (own_count adt) equations)
      ∙ ap (λ (l : Option Layout). spelled_by_layout l (spelled_terms wdt) adt) (sym actions.layout)

  pub points_set : points_below (adt_layout adt) adt (own_count adt) ≡ map fresh_point (spelled_rules layouts wdt adt)
  points_set =
      points_laid (adt_layout adt) (spelled_terms wdt) adt (own_count adt)
      ∙ ap (map fresh_point)
      (sym (rules_spelled (adt_layout adt) (spelled_terms wdt) adt few (own_count adt) equations)
      ∙ ap (λ (l : Option Layout). spelled_by_layout l (spelled_terms wdt) adt) (sym actions.layout))
