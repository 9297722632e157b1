-- The rules that a text says fit the fields of a table.
use Rattle.std.proofs.Common.{◌≡◌, ◌≢◌, refl, subst, ℕ, zero, suc, ◌+◌, ◌-◌, ◌<◌, ◌≤◌, ◌^◌, Bool, true, false, cond, ◌&&◌, ◌==◌, nat_le, IsTrue, List, [], ◌∷◌, ◌++◌, length, take, flat_map, Option, Some, None, option_map, codes, bytes_eq, arith}
use Rattle.std.specs.List.{AllByRecursion}
use Rattle.std.specs.Option.{option_map_or}
use Rattle.std.proofs.lemmas.List.{length-take-le}
use Rattle.lc_model.specs.declared.mode.ApMode.{ApMode}
use Rattle.lc_model.specs.declared.mode.ApMode.TheVariants.{Active, Passive, Disabled, PermOff}
use Rattle.lc_model.specs.declared.rule.ReportMaxima.{ReportMaxima}
use Rattle.lc_model.specs.Condition.{Condition}
use Rattle.lc_model.specs.Rule.{NamedRule}
use Rattle.lc_model.specs.Text.Token.{Token, is_text_byte, is_string, is_closed, quote, string_text}
use Rattle.lc_model.specs.Text.Syntax.{ReportItem, RuleItem, Item, Packet, Field, Rule}
use Rattle.lc_model.specs.Text.Class.{Text, Fits, Phrase, next, state}
use Rattle.lc_model.specs.Text.Grammar as grammar
use Rattle.lc_model.specs.Text.Grammar.{rule_phrase, DerivesItem, DerivesFile}
use Rattle.lc_model.specs.Text.Meaning.{fault_outside, name_faults, faults_of, condition_faults, rule_faults, report_faults, report_of, option_map_two, condition_in, named_rule, rules_in, Means}
use Rattle.lc_model.specs.Laws.Reading.{IsWithinRanges, RulesAreWithinRanges}
use Rattle.lc_model.proofs.Texts.ItemsInRange.{IsBetween, number_fits}
use Rattle.lc_model.proofs.Facts.{append_none_second, append_none_first, and_first, and_second}

-- ---- states and texts

state_found : (a b c : Bool) (mode : ApMode) →
    option_map (λ (row : List ℕ × ApMode). row.1)
    (cond a (Some (codes "active", Active)) (cond b (Some (codes "passive", Passive)) (cond c (Some (codes "disabled", Disabled)) None))) ≡ Some mode →
    mode ≢ PermOff
state_found true b c mode is off = cc
state_found false true c mode is off = cc
state_found false false true mode is off = cc
state_found false false false mode is off = cc

no_state_is_off : (text : List ℕ) (mode : ApMode) → state text ≡ Some mode → mode ≢ PermOff
no_state_is_off text mode is =
    state_found (bytes_eq (codes "active") text) (bytes_eq (codes "passive") text) (bytes_eq (codes "disabled") text) mode is

abbrev IsText : ℕ → Type 0
IsText byte = IsTrue (is_text_byte byte)

-- what stands in front of the last quote is text
text_in_front : (cs : List ℕ) (n : ℕ) → n + 1 ≡ length cs → is_closed cs ≡ true → AllByRecursion IsText (take n cs)
text_in_front cs zero e closed = tt
text_in_front [] (suc n) e closed = absurd (cc closed)
text_in_front (c ∷ []) (suc n) e closed = absurd (omega (arith, e))
text_in_front (c ∷ d ∷ ds) (suc n) e closed =
    (and_first (is_text_byte c) (is_closed (d ∷ ds)) closed, text_in_front (d ∷ ds) n (omega (arith, e)) (and_second (is_text_byte c) (is_closed (d ∷ ds)) closed))

record IsShortText (text : List ℕ) : Type 0 where
  short : length text < 32
  each : AllByRecursion IsText text

at_most_32 : (n : ℕ) → nat_le n 32 ≡ true → n ≤ 32
at_most_32 n e = grind (arith, e)

closed_text : (cs : List ℕ) → is_closed cs ≡ true → length cs ≤ 32 → IsShortText (take (length cs - 1) cs)
closed_text [] closed few = absurd (cc closed)
closed_text (c ∷ cs) closed few =
    let n : ℕ = length (c ∷ cs) - 1 in
    let within : length (c ∷ cs) - 1 ≤ length (c ∷ cs) = omega arith in
    record {
      short = omega (arith, few, length-take-le (length (c ∷ cs) - 1) (c ∷ cs) within);
      each = text_in_front (c ∷ cs) (length (c ∷ cs) - 1) (omega arith) closed;
    }

string_is_short : (text : List ℕ) → is_string text ≡ true → IsShortText (string_text text)
string_is_short [] is = absurd (cc is)
string_is_short (c ∷ cs) is =
    let closed : is_closed cs ≡ true = and_second (c == quote) (is_closed cs) (and_first ((c == quote) && is_closed cs) (nat_le (length cs) 32) is) in
    let few : length cs ≤ 32 = at_most_32 (length cs) (and_second ((c == quote) && is_closed cs) (nat_le (length cs) 32) is) in
    let same : length cs - 1 ≡ length (c ∷ cs) - 2 = omega arith in
    subst (λ (n : ℕ). IsShortText (take n cs)) same (closed_text cs closed few)

-- ---- items

record FitsRuleItem (r : RuleItem) : Type 0 where
  on : r.mode ≢ PermOff
  text : IsShortText r.text

abbrev HasFitRule : Item → Type 0
HasFitRule (Packet p) = Unit {0}
HasFitRule (Field f) = Unit {0}
HasFitRule (Rule r) = FitsRuleItem r

text_of_phrase : {a b c d e f g h i j t : Token} → Phrase rule_phrase (a ∷ b ∷ c ∷ d ∷ e ∷ f ∷ g ∷ h ∷ i ∷ j ∷ t ∷ []) → Fits Text t
text_of_phrase (next q0 (next q1 (next q2 (next q3 (next q4 (next q5 (next q6 (next q7 (next q8 (next q9 (next is end))))))))))) = is

item_fits : {ts : List Token} {item : Item} → DerivesItem ts item → HasFitRule item
item_fits (grammar.DerivesItem.packet phrase) = tt
item_fits (grammar.DerivesItem.field e phrase type masks stales end) = tt
item_fits (grammar.DerivesItem.rule {s = s} {t = t} {mode = mode} w e phrase is_state level report is_when condition end) =
    record { on = no_state_is_off s.text mode is_state; text = string_is_short t.text (text_of_phrase phrase) }

items_fit : {ts : List Token} {items : List Item} → DerivesFile ts items → AllByRecursion HasFitRule items
items_fit grammar.DerivesFile.done = tt
items_fit (grammar.DerivesFile.next item others) = (item_fits item, items_fit others)

-- ---- numbers

record FitsReport (report : ReportMaxima) : Type 0 where
  passive : report.passive < 2 ^ 8
  pass_to_fail : report.pass_to_fail < 2 ^ 16
  fail_to_pass : report.fail_to_pass < 2 ^ 16

report_fits : (o : Option ReportItem) → option_map_or report_faults o [] ≡ [] →
    FitsReport (option_map_or report_of o (record { passive = 0; pass_to_fail = 0; fail_to_pass = 0 }))
report_fits None e = record { passive = omega arith; pass_to_fail = omega arith; fail_to_pass = omega arith }
report_fits (Some r) e =
    let first_two : fault_outside 0 255 28 r.passive ++ fault_outside 0 65_535 28 r.pass_to_fail ≡ [] =
    append_none_first (fault_outside 0 255 28 r.passive ++ fault_outside 0 65_535 28 r.pass_to_fail) (fault_outside 0 65_535 28 r.fail_to_pass) e in
    let a : IsBetween 0 255 r.passive.value =
    number_fits 0 255 28 r.passive (append_none_first (fault_outside 0 255 28 r.passive) (fault_outside 0 65_535 28 r.pass_to_fail) first_two) in
    let b : IsBetween 0 65_535 r.pass_to_fail.value =
    number_fits 0 65_535 28 r.pass_to_fail (append_none_second (fault_outside 0 255 28 r.passive) (fault_outside 0 65_535 28 r.pass_to_fail) first_two) in
    let c : IsBetween 0 65_535 r.fail_to_pass.value =
    number_fits 0 65_535 28 r.fail_to_pass
    (append_none_second (fault_outside 0 255 28 r.passive ++ fault_outside 0 65_535 28 r.pass_to_fail) (fault_outside 0 65_535 28 r.fail_to_pass) e) in
    record { passive = omega (arith, a.most); pass_to_fail = omega (arith, b.most); fail_to_pass = omega (arith, c.most) }

module _ (items : List Item) where
  rule_fits : (r : RuleItem) (c : Condition) → FitsRuleItem r → rule_faults items r ≡ [] → IsWithinRanges (named_rule r c).action
  rule_fits r c fits none =
      let fails : List _ = fault_outside 1 65_535 28 r.fails in
      let sequences : List _ = fault_outside 1 65_535 28 r.sequence in
      let ids : List _ = fault_outside 1_000 65_535 28 r.event_id in
      let reports : List _ = option_map_or report_faults r.report [] in
      let four : fails ++ sequences ++ ids ++ reports ≡ [] = append_none_first (fails ++ sequences ++ ids ++ reports) (condition_faults items r.condition) none in
      let three : fails ++ sequences ++ ids ≡ [] = append_none_first (fails ++ sequences ++ ids) reports four in
      let two : fails ++ sequences ≡ [] = append_none_first (fails ++ sequences) ids three in
      let a : IsBetween 1 65_535 r.fails.value = number_fits 1 65_535 28 r.fails (append_none_first fails sequences two) in
      let b : IsBetween 1 65_535 r.sequence.value = number_fits 1 65_535 28 r.sequence (append_none_second fails sequences two) in
      let d : IsBetween 1_000 65_535 r.event_id.value = number_fits 1_000 65_535 28 r.event_id (append_none_second (fails ++ sequences) ids three) in
      let report : FitsReport (option_map_or report_of r.report (record { passive = 0; pass_to_fail = 0; fail_to_pass = 0 })) =
      report_fits r.report (append_none_second (fails ++ sequences ++ ids) reports four) in
      record {
        state = fits.on;
        fails = (a.least, omega (arith, a.most));
        sequence = (b.least, omega (arith, b.most));
        event_id = (d.least, omega (arith, d.most));
        passive = report.passive;
        pass_to_fail = report.pass_to_fail;
        fail_to_pass = report.fail_to_pass;
        text_length = fits.text.short;
        text = fits.text.each;
      }

  abbrev AllFit : List NamedRule → Type 0
  AllFit rules = AllByRecursion (λ (rule : NamedRule). IsWithinRanges rule.action) rules

  rules_fit : (others : List Item) (rules : List NamedRule) → AllByRecursion HasFitRule others → flat_map (faults_of items) others ≡ [] →
      rules_in items others ≡ Some rules → AllFit rules
  rules_fit [] rules fit none is = let same : [] ≡ rules = cc is in subst AllFit same tt
  rules_fit (Packet p ∷ others) rules fit none is =
      rules_fit others rules fit.1 (append_none_second (faults_of items (Packet p)) (flat_map (faults_of items) others) none) is
  rules_fit (Field f ∷ others) rules fit none is =
      rules_fit others rules fit.1 (append_none_second (faults_of items (Field f)) (flat_map (faults_of items) others) none) is
  rules_fit (Rule r ∷ others) rules fit none is = by_parts (condition_in items r.condition) (rules_in items others)
      (λ rs same. rules_fit others rs fit.1 (append_none_second (faults_of items (Rule r)) (flat_map (faults_of items) others) none) same) is
    where
      here : rule_faults items r ≡ []
      here = append_none_second (name_faults items (Rule r)) (rule_faults items r)
          (append_none_first (faults_of items (Rule r)) (flat_map (faults_of items) others) none)

      by_parts : (p : Option Condition) (q : Option (List NamedRule)) → ((rs : List NamedRule) → q ≡ Some rs → AllFit rs) →
          option_map_two (λ c rs. named_rule r c ∷ rs) p q ≡ Some rules → AllFit rules
      by_parts None q rest is = absurd (cc is)
      by_parts (Some c) None rest is = absurd (cc is)
      by_parts (Some c) (Some rs) rest is =
          let whole : named_rule r c ∷ rs ≡ rules = cc is in
          subst AllFit whole (rule_fits r c fit.0 here, rest rs refl)

pub within_ranges : RulesAreWithinRanges
within_ranges text rules reads =
    let items : List Item = reads.1 in
    let means : Means items rules = reads.4 in
    rules_fit items items rules (items_fit reads.3.0) means.accepted means.meant
