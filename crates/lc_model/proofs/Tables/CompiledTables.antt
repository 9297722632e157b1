-- The tables that are computed of a text that compiles are its halves.
use Rattle.std.proofs.Common.{◌≡◌, ◌≢◌, refl, sym, ◌∙◌, ap, subst, ℕ, ◌<◌, ◌≤◌, ◌^◌, Bool, true, false, not, ◌&&◌, ◌||◌, nat_lt, nat_le, List, [], ◌∷◌, length, map, IsTrue, Some, arith}
use Rattle.std.specs.List.{AllByRecursion, AllZip, list_any}
use Rattle.std.specs.Int.{is_in_range}
use Rattle.std.proofs.lemmas.List.{length-map}
use Rattle.sha2.specs.Sha256.{sha256}
use Rattle.sha2.proofs.Facts256.{length-sha256}
use Rattle.lc_model.specs.declared.field.Term.{Term}
use Rattle.lc_model.specs.Condition.{Operator, And, Or, Xor, Condition}
use Rattle.lc_model.specs.Rule.{NamedRule, actions}
use Rattle.lc_model.specs.Codes.{table_entries}
use Rattle.lc_model.specs.Text.Token.{is_text_byte}
use Rattle.lc_model.specs.Tables.Equation.{terms_of, words, equal_word, operator_word, SpellsInOrder, Spells}
use Rattle.lc_model.specs.Tables.InForce.{limits, layouts, arranged, compiled_actionpoints}
use Rattle.lc_model.specs.Tables.Lowering.{words_in, NeedsFew}
use Rattle.lc_model.specs.Tables.Image.{Watchpoints, filled, term_bytes, TableEntry, FitsEntry, EndsOnce, entry_bytes, HasPreamble, adt_image, equation_tests}
use Rattle.lc_model.specs.Tables.Half.{entry_over, IsEntryOf}
use Rattle.lc_model.specs.Tables.Spelled.{spelled_condition}
use Rattle.lc_model.specs.Laws.Reading.{IsWithinRanges}
use Rattle.lc_model.specs.Laws.Equations.{IsSpelled, RuleRuns, RulesRun}
use Rattle.lc_model.specs.Laws.Tables.{CompiledTablesAreHalves, compiled_entries}
use Rattle.lc_model.proofs.Tables.TermsFit.{all_fit, terms_fit}
use Rattle.lc_model.proofs.Tables.RulesFit.{within_ranges}
use Rattle.lc_model.proofs.Tables.SoundWords.{none_stands, sound_words_spell, IsWord, number, negated, joined, classified}
use Rattle.lc_model.proofs.Facts.{or_second, or_first, and_first, tested_at_most}
use Rattle.lc_model.proofs.Tables.SpelledEquations.{condition_of_equation}
use Rattle.lc_model.proofs.Tables.SpellsOnce.{computed}
use Rattle.lc_model.proofs.Tables.Light.{light}
use Rattle.lc_model.proofs.Tables.LoweredRules.{lowered_words_run}
use Rattle.lc_model.proofs.Tables.EntryLengths.{wdt_long, adt_long}
use Rattle.lc_model.proofs.Tables.EntriesAgain.{preamble_again}
use Rattle.lc_model.proofs.Tables.WrittenEntries.{IsSoundEntry}
use Rattle.lc_model.proofs.Tables.WrittenTables.{sound_wdt, sound_adt, each_once, each_fits}

-- ---- words

small_operator : (o : Operator) → (operator_word o < 2 ^ 16) × (operator_word o ≢ equal_word)
small_operator And = (omega arith, λ e. omega (arith, e))
small_operator Or = (omega arith, λ e. omega (arith, e))
small_operator Xor = (omega arith, λ e. omega (arith, e))

small_word : (count w : ℕ) → count ≤ table_entries → IsWord count w → (w < 2 ^ 16) × (w ≢ equal_word)
small_word count w few (number below) = (omega (arith, few, below), λ e. omega (arith, few, below, e))
small_word count w few negated = (omega arith, λ e. omega (arith, e))
small_word count w few (joined o) = small_operator o

each_word : (count : ℕ) → count ≤ table_entries → (ws : List ℕ) →
    list_any (λ w. not (nat_lt w table_entries || is_in_range 0xFF01 0xFF04 w)) ws ≡ false →
    list_any (λ w. nat_lt w table_entries && nat_le count w) ws ≡ false → AllByRecursion (λ w. w < 2 ^ 16) ws × AllByRecursion (λ w. w ≢ equal_word) ws
each_word count few [] known below = (tt, tt)
each_word count few (w ∷ ws) known below =
    let unknown : Bool = not (nat_lt w table_entries || is_in_range 0xFF01 0xFF04 w) in
    let others : Bool = list_any (λ v. not (nat_lt v table_entries || is_in_range 0xFF01 0xFF04 v)) ws in
    let beyond : Bool = nat_lt w table_entries && nat_le count w in
    let more : Bool = list_any (λ v. nat_lt v table_entries && nat_le count v) ws in
    let here = small_word count w few (classified count w (or_first unknown others known) (or_first beyond more below)) in
    let rest = each_word count few ws (or_second unknown others known) (or_second beyond more below) in
    ((here.0, rest.0), (here.1, rest.1))

-- ---- texts

text_byte : (b : ℕ) → IsTrue (is_text_byte b) → (0 < b) × (b < 2 ^ 8)
text_byte b e =
    let range : (nat_le 0x20 b && nat_le b 0x7E) ≡ true = and_first (nat_le 0x20 b && nat_le b 0x7E) _ e in
    let low : 0x20 ≤ b = tested_at_most 0x20 b (and_first (nat_le 0x20 b) (nat_le b 0x7E) range) in
    let high : b ≤ 0x7E = tested_at_most b 0x7E (behind (nat_le 0x20 b) (nat_le b 0x7E) range) in
    (omega (arith, low), omega (arith, high))
  where
    behind : (a b : Bool) → (a && b) ≡ true → b ≡ true
    behind true b e = e
    behind false b e = absurd (cc e)

text_bytes : (text : List ℕ) → AllByRecursion (λ b. IsTrue (is_text_byte b)) text → AllByRecursion (λ b. (0 < b) × (b < 2 ^ 8)) text
text_bytes [] all = tt
text_bytes (b ∷ text) all = (text_byte b all.0, text_bytes text all.1)

-- ---- rules

sound_entry : (terms : List Term) (rule : NamedRule) → length terms ≤ table_entries → IsWithinRanges rule.action → RuleRuns terms rule →
    IsSoundEntry compiled_actionpoints (length terms) (entry_over arranged terms rule)
sound_entry terms rule few ranges runs =
    let ws : List ℕ = words_in arranged terms rule in
    let tests : AllByRecursion (λ t. t.0 ≡ false) (equation_tests (length terms) ws) = none_stands (equation_tests (length terms) ws) runs.runs.sound in
    let each = each_word (length terms) few ws tests.0 tests.1.0 in
    record {
      fits = record {
        passive = ranges.passive;
        pass_to_fail = ranges.pass_to_fail;
        fail_to_pass = ranges.fail_to_pass;
        sequence = ranges.sequence.1;
        fails = ranges.fails.1;
        event_id = ranges.event_id.1;
        text_length = ranges.text_length;
        text = text_bytes rule.action.text ranges.text;
        words_length = omega (arith, runs.few);
        words = each.0;
      };
      once = each.1;
      begins = ranges.state;
      event_id = ranges.event_id.0;
      text = ranges.text;
      sequence = ranges.sequence.0;
      fails = ranges.fails.0;
      equation = runs.runs.sound;
    }

sound_entries : (terms : List Term) (rules : List NamedRule) → length terms ≤ table_entries →
    AllByRecursion (λ (rule : NamedRule). IsWithinRanges rule.action) rules → AllByRecursion (RuleRuns terms) rules →
    AllByRecursion (IsSoundEntry compiled_actionpoints (length terms)) (map (entry_over arranged terms) rules)
sound_entries terms [] few ranges runs = tt
sound_entries terms (rule ∷ rules) few ranges runs =
    (sound_entry terms rule few ranges.0 runs.0, sound_entries terms rules few ranges.1 runs.1)

-- the words of a rule spell its condition, arranged
spelled : (terms : List Term) (rule : NamedRule) → length terms ≤ table_entries → RuleRuns terms rule →
    SpellsInOrder terms (words_in arranged terms rule) (arranged rule.action.condition)
spelled terms rule few runs =
    let ws : List ℕ = words_in arranged terms rule in
    let equation = (sound_words_spell (length terms) ws few).0 runs.runs.sound in
    let some : IsSpelled terms ws equation.0 = condition_of_equation terms equation.2 in
    let read : spelled_condition terms ws ≡ Some some.0 = computed terms (omega (arith, few)) some.1 in
    let whole : Some some.0 ≡ Some (arranged rule.action.condition) = sym read ∙ runs.runs.spelled in
    let same : some.0 ≡ arranged rule.action.condition = cc whole in
    subst (λ (c : Condition). SpellsInOrder terms ws c) same some.1

entries_spell : (terms : List Term) (rules : List NamedRule) → length terms ≤ table_entries → AllByRecursion (RuleRuns terms) rules →
    AllZip (IsEntryOf (Spells terms)) (actions rules) (map (entry_over arranged terms) rules)
entries_spell terms [] few runs = tt
entries_spell terms (rule ∷ rules) few runs =
    ((refl, (arranged rule.action.condition, (light rule.action.condition).same, spelled terms rule few runs.0)), entries_spell terms rules few runs.1)

entries_have_words : (terms : List Term) (rules : List NamedRule) →
    AllZip (IsEntryOf (λ ws c. ws ≡ words terms (arranged c))) (actions rules) (map (entry_over arranged terms) rules)
entries_have_words terms [] = tt
entries_have_words terms (rule ∷ rules) = ((refl, refl), entries_have_words terms rules)

each_light : (terms : List Term) (rules : List NamedRule) → AllByRecursion (RuleRuns terms) rules → AllByRecursion (NeedsFew limits arranged) rules
each_light terms [] runs = tt
each_light terms (rule ∷ rules) runs = (runs.0.light, each_light terms rules runs.1)

-- ---- the tables of a text

pub compiled_tables_are_halves : CompiledTablesAreHalves
compiled_tables_are_halves text rules compiles = record {
  watchpoints_fit = terms_fit text rules compiles.0;
  entries_fit = each_fits compiled_actionpoints (length terms) entries sound;
  light = each_light terms rules run.each;
  tables = record {
    watchpoints = (rules, compiles.0, sound_wdt layouts refl (sha256 text) terms long run.watchpoints (all_fit text rules compiles.0), refl);
    actionpoints = (
      rules,
      compiles.0,
      sound_adt layouts compiled_actionpoints refl refl (sha256 text) (length terms) entries long run.watchpoints few sound,
      (compiled_actionpoints, entries, refl, once, entries_spell terms rules run.watchpoints run.each),
    );
    words =
        (compiled_actionpoints, entries, ap (λ (h : List ℕ). adt_image compiled_actionpoints h (length terms) entries) (sym front.hash_is), once, entries_have_words terms rules);
    wdt_length = wdt_long (sha256 text) terms long run.watchpoints;
    adt_length = adt_long compiled_actionpoints refl (sha256 text) (length terms) entries long few (each_fits compiled_actionpoints (length terms) entries sound);
    wdt_preamble = preamble_again Watchpoints (length terms) (length terms) (sha256 text) (filled Watchpoints (map term_bytes terms)) long run.watchpoints (omega (arith, run.watchpoints));
    adt_preamble = record { hash_is = front.hash_is; own_is = front.own_is ∙ length-map rules (entry_over arranged terms); watchpoints_are = front.watchpoints_are };
  };
}
  where
    terms : List Term
    terms = terms_of rules

    entries : List TableEntry
    entries = compiled_entries rules

    ranges : AllByRecursion (λ (rule : NamedRule). IsWithinRanges rule.action) rules
    ranges = within_ranges text rules compiles.0

    run : RulesRun rules terms
    run = lowered_words_run rules compiles.1

    long : length (sha256 text) ≡ 32
    long = length-sha256 text

    sound : AllByRecursion (IsSoundEntry compiled_actionpoints (length terms)) entries
    sound = sound_entries terms rules run.watchpoints ranges run.each

    once : AllByRecursion (λ e. FitsEntry compiled_actionpoints e × EndsOnce e) entries
    once = each_once compiled_actionpoints (length terms) entries sound

    few : length entries ≤ table_entries
    few = omega (arith, length-map rules (entry_over arranged terms), run.actionpoints)

    front : HasPreamble (adt_image compiled_actionpoints (sha256 text) (length terms) entries) (sha256 text) (length entries) (length terms)
    front =
        preamble_again compiled_actionpoints (length entries) (length terms) (sha256 text)
        (filled compiled_actionpoints (map (entry_bytes compiled_actionpoints) entries)) long few (omega (arith, run.watchpoints))
