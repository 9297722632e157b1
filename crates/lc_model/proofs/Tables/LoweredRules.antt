-- The words of rules within the limits can be run.
use Rattle.std.proofs.Common.{◌≡◌, refl, sym, ℕ, zero, suc, ◌+◌, ◌^◌, ◌≤◌, Bool, true, false, List, [], ◌∷◌, ◌++◌, length, flat_map, slice_get, filter_map, Option, Some, None, option_map, IsTrue, true≢false, nat_lt, Contains, arith, length-append}
use Rattle.std.specs.List.{list_any, enumerate_from, AllByRecursion}
use Rattle.lc_model.specs.declared.field.Term.{Term}
use Rattle.lc_model.specs.Condition.{Condition, Watch, Not, Join}
use Rattle.lc_model.specs.Rule.{NamedRule}
use Rattle.lc_model.specs.Codes.{table_entries}
use Rattle.lc_model.specs.Text.Reading.{ForText, ForRule}
use Rattle.lc_model.specs.Tables.Equation.{IsRearranged, same_term, mentions, terms_of, words, size, operator_word, need}
use Rattle.lc_model.specs.Tables.Image.{most_waiting}
use Rattle.lc_model.specs.Tables.Compiling.{equation_fault}
use Rattle.lc_model.specs.Tables.InForce.{limits, arranged}
use Rattle.lc_model.specs.Laws.Equations.{WordsSpell, RuleRuns, LoweredWordsRun}
use Rattle.lc_model.proofs.Tables.Arrangements.{same_size, still_all}
use Rattle.lc_model.proofs.Tables.Light.{light}
use Rattle.lc_model.proofs.LimitChecker.ResultLaws.{one_term, front, back}
use Rattle.lc_model.proofs.Tables.SensibleLaws.{all_among}
use Rattle.lc_model.proofs.Tables.SoundWords.{sound_words_spell}
use Rattle.lc_model.proofs.Tables.SpellsOnce.{computed}
use Rattle.lc_model.proofs.Tables.WordsSpell.{words_spell_in}
use Rattle.lc_model.proofs.Facts.{tested_not_less, none_of_if}

-- ---- limits

-- no rule is refused
none_refused : (n : ℕ) (rules : List NamedRule) →
    slice_get (filter_map (λ (m : ℕ × NamedRule). option_map (λ code. ForRule code m.0) (equation_fault limits m.1)) (enumerate_from n rules)) 0 ≡ None →
    AllByRecursion (λ (rule : NamedRule). equation_fault limits rule ≡ None) rules
none_refused n [] e = tt
none_refused n (rule ∷ rules) e = go (equation_fault limits rule) refl (none_refused (n + 1) rules)
  where
    go : (fault : Option ℕ) → equation_fault limits rule ≡ fault →
        (slice_get (filter_map (λ (m : ℕ × NamedRule). option_map (λ code. ForRule code m.0) (equation_fault limits m.1)) (enumerate_from (n + 1) rules)) 0 ≡ None →
        AllByRecursion (λ (rule : NamedRule). equation_fault limits rule ≡ None) rules) →
        AllByRecursion (λ (rule : NamedRule). equation_fault limits rule ≡ None) (rule ∷ rules)
    go None is others = (is, others (rw is at e))
    go (Some code) is others = absurd (cc (rw is at e))

-- few words, of which few wait
record Fits (c : Condition) : Type 0 where
  short : size c + 1 ≤ limits.words
  same : IsRearranged c (arranged c)
  power : 2 ^ need (arranged c) ≤ limits.words
  light : need (arranged c) ≤ most_waiting

fits : (rule : NamedRule) → equation_fault limits rule ≡ None → Fits rule.action.condition
fits rule e =
    let c : Condition = rule.action.condition in
    let short : size c + 1 ≤ limits.words = tested_not_less limits.words (size c + 1) (none_of_if (nat_lt limits.words (size c + 1)) 42 None e).0 in
    record {
      short = short;
      same = (light c).same;
      power = omega (arith, (light c).power, short);
      light = omega (arith, (light c).thirty_two (omega (arith, short)));
    }

-- ---- words

length-words : (terms : List Term) (c : Condition) → length (words terms c) ≡ size c
length-words terms (Watch t) = refl
length-words terms (Not c) = omega (arith, length-append (words terms c) (0xFF04 ∷ []), length-words terms c)
length-words terms (Join o a b) =
    omega (arith, length-append (words terms a ++ words terms b) (operator_word o ∷ []), length-append (words terms a) (words terms b), length-words terms a, length-words terms b)

-- a term that is among others is one of them
one_of : (t : Term) (terms : List Term) → IsTrue (list_any (same_term t) terms) → Contains terms t
one_of t [] among = absurd (true≢false (sym among))
one_of t (u ∷ terms) among = go (same_term t u) refl (one_of t terms)
  where
    go : (b : Bool) → same_term t u ≡ b → (IsTrue (list_any (same_term t) terms) → Contains terms t) → Contains (u ∷ terms) t
    go true same others = (zero, omega arith, sym (one_term t u same))
    go false other others =
        let there : Contains terms t = others (rw other at among) in
        (suc there.0, omega (arith, there.1), there.2)

all-map : {P Q : Term → Type 0} → ((t : Term) → P t → Q t) → (ts : List Term) → AllByRecursion P ts → AllByRecursion Q ts
all-map f [] all = tt
all-map f (t ∷ ts) all = (f t all.0, all-map f ts all.1)

-- the terms that rules mention are among theirs
pub over_own : (rules : List NamedRule) → AllByRecursion (Contains (terms_of rules)) (flat_map (λ (rule : NamedRule). mentions rule.action.condition) rules)
over_own rules =
    let all : List Term = flat_map (λ (rule : NamedRule). mentions rule.action.condition) rules in
    all-map (λ t among. one_of t (terms_of rules) among) all (all_among all)

-- each rule runs
each_runs : (terms : List Term) → length terms ≤ table_entries → (rules : List NamedRule) →
    AllByRecursion (λ (rule : NamedRule). equation_fault limits rule ≡ None) rules →
    AllByRecursion (Contains terms) (flat_map (λ (rule : NamedRule). mentions rule.action.condition) rules) → AllByRecursion (RuleRuns terms) rules
each_runs terms few [] none over = tt
each_runs terms few (rule ∷ rules) none over = (
  record {
    few = omega (arith, length-words terms (arranged c), same_size own.same, own.short);
    light = own.power;
    runs = record {
      sound = (sound_words_spell (length terms) (words terms (arranged c)) few).1 (need (arranged c), own.light, spelled.equation);
      spelled = computed terms (omega (arith, few)) spelled.spell;
    };
  },
  each_runs terms few rules none.1 (back (Contains terms) (mentions c) others over),
)
  where
    c : Condition
    c = rule.action.condition

    others : List Term
    others = flat_map (λ (rule : NamedRule). mentions rule.action.condition) rules

    own : Fits c
    own = fits rule none.0

    spelled : WordsSpell terms (arranged c)
    spelled = words_spell_in terms (arranged c) (still_all (Contains terms) own.same (front (Contains terms) (mentions c) others over))

pub lowered_words_run : LoweredWordsRun
lowered_words_run rules within =
    let one = none_of_if (nat_lt table_entries (length (terms_of rules))) (ForText 31) _ within in
    let two = none_of_if (nat_lt table_entries (length rules)) (ForText 41) _ one.1 in
    let few : length (terms_of rules) ≤ table_entries = tested_not_less _ _ one.0 in
    record {
      watchpoints = few;
      actionpoints = tested_not_less _ _ two.0;
      each = each_runs (terms_of rules) few rules (none_refused 0 rules two.1) (over_own rules);
    }
