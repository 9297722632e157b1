-- The bytes of a sound pair that belongs together say rules in range over their own watchpoints.
use Rattle.std.proofs.Common.{◌≡◌, ap, subst, sym, ℕ, zero, suc, ◌<◌, ◌^◌, ◌&&◌, ◌==◌, List, [], ◌∷◌, slice_get, Some, IsTrue, bytes_eq}
use Rattle.std.specs.List.{AllByRecursion, AllZip, list_any}
use Rattle.std.proofs.lemmas.Slice.Eq.{bytes_eq-Decides}
use Rattle.std.proofs.lemmas.Bool.Decides.{Decides-eqb}
use Rattle.lc_model.specs.declared.field.Term.{Term}
use Rattle.lc_model.specs.Condition.{Condition}
use Rattle.lc_model.specs.Rule.{Actionpoint}
use Rattle.lc_model.specs.Tables.Equation.{same_term, mentions, SpellsInOrder}
use Rattle.lc_model.specs.Tables.Image.{Layout, TableEntry, FitsEntry, EndsOnce, hash_of, watchpoint_count}
use Rattle.lc_model.specs.Tables.Half.{IsEntryOf, IsMatch, Says}
use Rattle.lc_model.specs.Tables.Spelled.{spelled_terms, spelled_rules}
use Rattle.lc_model.specs.Laws.Watch.{IsOver}
use Rattle.lc_model.specs.Laws.Past.{IsInRange}
use Rattle.lc_model.specs.Laws.LimitChecker.{SoundBytesAreSensible}
use Rattle.lc_model.proofs.Tables.SensibleLaws.{or_one, or_other, same_as}
use Rattle.lc_model.proofs.Tables.SaidLaws.{all_append, what_is_said}
use Rattle.lc_model.proofs.Facts.{and_both}

-- ---- a rule of an entry

-- a term with a number is among the terms
among : (terms : List Term) (n : ℕ) (t : Term) → slice_get terms n ≡ Some t → IsTrue (list_any (same_term t) terms)
among [] n t is = absurd (cc is)
among (u ∷ terms) zero t is = let same : u ≡ t = cc is in or_one (same_term t u) (list_any (same_term t) terms) (same_as t u (sym same))
among (u ∷ terms) (suc n) t is = or_other (same_term t u) (list_any (same_term t) terms) (among terms n t is)

-- what is spelled over some terms mentions those alone
over : (terms : List Term) {ws : List ℕ} {c : Condition} → SpellsInOrder terms ws c → IsOver terms c
over terms (SpellsInOrder.mention {n = n} {t = t} is) = (among terms n t is, tt)
over terms (SpellsInOrder.negation spells) = over terms spells
over terms (SpellsInOrder.binary {a = a} {b = b} o first second) =
    all_append (λ t. IsTrue (list_any (same_term t) terms)) (mentions a) (mentions b) (over terms first) (over terms second)

module _ (l : Layout) (terms : List Term) where
  -- the numbers of an entry that fits are in range
  in_range : (a : Actionpoint) (e : TableEntry) → FitsEntry l e → IsEntryOf (SpellsInOrder terms) a e → IsInRange a
  in_range a e fits said = record {
    fails = subst (λ n. n < 2 ^ 16) (ap (λ (x : TableEntry). x.fails) said.0) fits.fails;
    passive = subst (λ n. n < 2 ^ 8) (ap (λ (x : TableEntry). x.report.passive) said.0) fits.passive;
    pass_to_fail = subst (λ n. n < 2 ^ 16) (ap (λ (x : TableEntry). x.report.pass_to_fail) said.0) fits.pass_to_fail;
    fail_to_pass = subst (λ n. n < 2 ^ 16) (ap (λ (x : TableEntry). x.report.fail_to_pass) said.0) fits.fail_to_pass;
  }

  -- what holds of the rule of each entry
  each_rule : (P : Actionpoint → Type 0) → ((a : Actionpoint) (e : TableEntry) → FitsEntry l e → IsEntryOf (SpellsInOrder terms) a e → P a) →
      (rules : List Actionpoint) (entries : List TableEntry) → AllByRecursion (λ e. FitsEntry l e × EndsOnce e) entries →
      AllZip (IsEntryOf (SpellsInOrder terms)) rules entries → AllByRecursion P rules
  each_rule P holds [] [] fit said = tt
  each_rule P holds [] (e ∷ entries) fit said = absurd said
  each_rule P holds (a ∷ rules) [] fit said = absurd said
  each_rule P holds (a ∷ rules) (e ∷ entries) fit said = (holds a e fit.0.0 said.0, each_rule P holds rules entries fit.1 said.1)

-- ---- the pair

matching : (wdt adt : List ℕ) → IsTrue (bytes_eq (hash_of wdt) (hash_of adt) && watchpoint_count wdt == watchpoint_count adt) → IsMatch wdt adt
matching wdt adt is =
    let tests = and_both (bytes_eq (hash_of wdt) (hash_of adt)) (watchpoint_count wdt == watchpoint_count adt) is in
    record {
      hash = (bytes_eq-Decides (hash_of wdt) (hash_of adt)).0 tests.0;
      watchpoints = (Decides-eqb (watchpoint_count wdt) (watchpoint_count adt)).0 tests.1;
    }

pub sound_bytes_are_sensible : SoundBytesAreSensible
sound_bytes_are_sensible layouts pair wdt_bytes adt_bytes wdt_sound adt_sound matches =
    let says : Says pair.wdt pair.adt (spelled_terms pair.wdt) (spelled_rules layouts pair.wdt pair.adt) =
    what_is_said layouts pair.wdt pair.adt wdt_bytes adt_bytes wdt_sound adt_sound (matching pair.wdt pair.adt matches) in
    let terms : List Term = spelled_terms pair.wdt in
    let rules : List Actionpoint = spelled_rules layouts pair.wdt pair.adt in
    let actions = says.actionpoints in
    record {
      in_range = each_rule actions.0 terms IsInRange (in_range actions.0 terms) rules actions.1 actions.3 actions.4;
      over = each_rule actions.0 terms (λ (a : Actionpoint). IsOver terms a.condition) (λ a e fits said. over terms said.1) rules actions.1 actions.3 actions.4;
    }
