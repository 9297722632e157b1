-- Tokens and items at other places: the same derivation, and the same rules.
use Rattle.std.proofs.Common.{◌≡◌, refl, sym, ◌∙◌, ap, subst, ℕ, ◌+◌, ◌≤◌, Bool, true, false, cond, not, ◌&&◌, ◌||◌, List, [], ◌∷◌, ◌++◌, map, Option, Some, None, option_map, option_and_then, fold, find, filter_map, flat_map, is_none, pos, ◌+ℤ◌, int_lt, nat_abs, arith}
use Rattle.std.specs.Prelude.{IsFalse, bytes_eq, nat_lt, if◌then◌else◌, count_by}
use Rattle.std.specs.List.{list_any, sum_by}
use Rattle.std.specs.Option.{option_map_or}
use Rattle.std.specs.Ordering.{int_eq}
use Rattle.std.proofs.lemmas.List.{map-append}
use Rattle.lc_model.proofs.Facts.{and_first, and_second, or_first, or_second, or_neither}
use Rattle.lc_model.specs.Condition.{Condition, Watch}
use Rattle.lc_model.specs.declared.field.CmpOp.{CmpOp}
use Rattle.lc_model.specs.declared.rule.ReportMaxima.{ReportMaxima}
use Rattle.lc_model.specs.Condition as condition
use Rattle.lc_model.specs.Packet.{reserved_mids}
use Rattle.lc_model.specs.Field.{full_mask, is_in_type, width}
use Rattle.lc_model.specs.Rule.{NamedRule}
use Rattle.lc_model.specs.Text.Token.{Token, string_text}
use Rattle.lc_model.specs.Text.Class.{Class, Fits, Phrase, done, next, word}
use Rattle.lc_model.specs.Text.Syntax as syntax
use Rattle.lc_model.specs.Text.Syntax.{Expression, Compare, FieldItem, Item, Join, Not, Number, PacketItem, ReportItem, RuleItem, Packet, Field, Rule}
use Rattle.lc_model.specs.Text.Grammar as grammar
use Rattle.lc_model.specs.Text.Grammar.{Derives, DerivesFile, DerivesItem, DerivesOption, DerivesReport, Part, cond_one, cond_or, xors_one, xors_xor, ands_one, ands_and, nots_not, nots_parentheses, nots_compare, packet, field, rule, number_of}
use Rattle.lc_model.specs.Text.Meaning.{Means, TextFault, compare_faults, compared_range, duplicate_name, field_outside, mask_range, number_range, unknown_name, condition_faults, condition_in, fault_if, fault_outside, faults, faults_of, field_faults, field_named, field_of, is_earlier, is_outside, name_faults, name_of, named_rule, option_map_two, packet_faults, packet_named, packet_of, report_faults, report_of, rule_faults, rules_in, term_of}
use Rattle.lc_model.specs.Text.Reading.{IsShallow, ends_item, most_nested, nests}

-- ---- what is moved

abbrev pub token_to : (ℕ → ℕ) → Token → Token
token_to f t = record { at = f t.at; text = t.text }

abbrev number_to : (ℕ → ℕ) → Number → Number
number_to f n = record { at = f n.at; value = n.value }

abbrev expression_to : (ℕ → ℕ) → Expression → Expression
expression_to f (Compare name op n) = Compare (token_to f name) op (number_to f n)
expression_to f (Not e) = Not (expression_to f e)
expression_to f (Join o a b) = Join o (expression_to f a) (expression_to f b)

abbrev packet_to : (ℕ → ℕ) → PacketItem → PacketItem
packet_to f p = record { name = token_to f p.name; mid = number_to f p.mid; length = number_to f p.length }

abbrev field_to : (ℕ → ℕ) → FieldItem → FieldItem
field_to f x = record {
  name = token_to f x.name;
  packet = token_to f x.packet;
  kind = x.kind;
  offset = number_to f x.offset;
  mask = option_map (number_to f) x.mask;
  stale = option_map (number_to f) x.stale;
}

abbrev report_to : (ℕ → ℕ) → ReportItem → ReportItem
report_to f r = record { passive = number_to f r.passive; pass_to_fail = number_to f r.pass_to_fail; fail_to_pass = number_to f r.fail_to_pass }

abbrev rule_to : (ℕ → ℕ) → RuleItem → RuleItem
rule_to f r = record {
  name = token_to f r.name;
  mode = r.mode;
  fails = number_to f r.fails;
  sequence = number_to f r.sequence;
  event_kind = r.event_kind;
  event_id = number_to f r.event_id;
  text = r.text;
  report = option_map (report_to f) r.report;
  condition = expression_to f r.condition;
}

abbrev pub item_to : (ℕ → ℕ) → Item → Item
item_to f (Packet p) = Packet (packet_to f p)
item_to f (Field x) = Field (field_to f x)
item_to f (Rule r) = Rule (rule_to f r)

-- ---- derivations

phrase_to : (f : ℕ → ℕ) {classes : List Class} {ts : List Token} → Phrase classes ts → Phrase classes (map (token_to f) ts)
phrase_to f done = done
phrase_to f (next fits phrase) = next fits (phrase_to f phrase)

derives_to : (f : ℕ → ℕ) {part : Part} {ts : List Token} {e : Expression} → Derives part ts e → Derives part (map (token_to f) ts) (expression_to f e)
derives_to f (cond_one d) = cond_one (derives_to f d)
derives_to f (cond_or {ts = ts} {us = us} {a = a} {b = b} t d is e) =
    subst (λ (xs : List Token). Derives grammar.cond xs (Join condition.Or (expression_to f a) (expression_to f b))) (sym (map-append (token_to f) ts (t ∷ us))) (cond_or (token_to f t) (derives_to f d) is (derives_to f e))
derives_to f (xors_one d) = xors_one (derives_to f d)
derives_to f (xors_xor {ts = ts} {us = us} {a = a} {b = b} t d is e) =
    subst (λ (xs : List Token). Derives grammar.xors xs (Join condition.Xor (expression_to f a) (expression_to f b))) (sym (map-append (token_to f) ts (t ∷ us))) (xors_xor (token_to f t) (derives_to f d) is (derives_to f e))
derives_to f (ands_one d) = ands_one (derives_to f d)
derives_to f (ands_and {ts = ts} {us = us} {a = a} {b = b} t d is e) =
    subst (λ (xs : List Token). Derives grammar.ands xs (Join condition.And (expression_to f a) (expression_to f b))) (sym (map-append (token_to f) ts (t ∷ us))) (ands_and (token_to f t) (derives_to f d) is (derives_to f e))
derives_to f (nots_not is d) = nots_not is (derives_to f d)
derives_to f (nots_parentheses {ts = ts} {e = e} t u is d ends) =
    subst (λ (xs : List Token). Derives grammar.nots xs (expression_to f e)) (sym (map-append (token_to f) (t ∷ ts) (u ∷ [])))
    (nots_parentheses (token_to f t) (token_to f u) is (derives_to f d) ends)
derives_to f (nots_compare phrase op) = nots_compare (phrase_to f phrase) op

option_to : (f : ℕ → ℕ) {word : Class} {ts : List Token} {n : Option Number} → DerivesOption word ts n →
    DerivesOption word (map (token_to f) ts) (option_map (number_to f) n)
option_to f grammar.DerivesOption.absent = grammar.DerivesOption.absent
option_to f (grammar.DerivesOption.present phrase) = grammar.DerivesOption.present (phrase_to f phrase)

reports_to : (f : ℕ → ℕ) {ts : List Token} {r : Option ReportItem} → DerivesReport ts r →
    DerivesReport (map (token_to f) ts) (option_map (report_to f) r)
reports_to f grammar.DerivesReport.absent = grammar.DerivesReport.absent
reports_to f (grammar.DerivesReport.present phrase) = grammar.DerivesReport.present (phrase_to f phrase)

pub derives_item_to : (f : ℕ → ℕ) {ts : List Token} {item : Item} → DerivesItem ts item → DerivesItem (map (token_to f) ts) (item_to f item)
derives_item_to f (packet phrase) = packet (phrase_to f phrase)
derives_item_to f (field {a = a} {name = name} {b = b} {packet = p} {k = k} {c = c} {o = o} {masks = masks} {stales = stales} {kind = kind} {mask = mask} {stale = stale} e phrase is masked staled ends) =
    subst (λ (xs : List Token). DerivesItem xs (item_to f (Field (record {
      name = name;
      packet = p;
      kind = kind;
      offset = number_of o;
      mask = mask;
      stale = stale;
    }))))
    (sym (map-append (token_to f) ((a ∷ name ∷ b ∷ p ∷ k ∷ c ∷ o ∷ masks) ++ stales) (e ∷ [])
    ∙ ap (λ (xs : List Token). xs ++ (token_to f e ∷ [])) (map-append (token_to f) (a ∷ name ∷ b ∷ p ∷ k ∷ c ∷ o ∷ masks) stales)))
    (field (token_to f e) (phrase_to f phrase) is (option_to f masked) (option_to f staled) ends)
derives_item_to f (rule {a = a} {name = name} {s = s} {b = b} {f = n} {c = c} {q = q} {d = d} {l = l} {i = i} {t = t} {reports = reports} {conditions = conditions} {mode = mode} {kind = kind} {report = report} {condition = e'} w e phrase has_state has_kind reported when derived ends) =
    subst (λ (xs : List Token). DerivesItem xs (item_to f (Rule (record {
      name = name;
      mode = mode;
      fails = number_of n;
      sequence = number_of q;
      event_kind = kind;
      event_id = number_of i;
      text = string_text t.text;
      report = report;
      condition = e';
    }))))
    (sym (map-append (token_to f) ((a ∷ name ∷ s ∷ b ∷ n ∷ c ∷ q ∷ d ∷ l ∷ i ∷ t ∷ reports) ++ (w ∷ conditions)) (e ∷ [])
    ∙ ap (λ (xs : List Token). xs ++ (token_to f e ∷ [])) (map-append (token_to f) (a ∷ name ∷ s ∷ b ∷ n ∷ c ∷ q ∷ d ∷ l ∷ i ∷ t ∷ reports) (w ∷ conditions))))
    (rule (token_to f w) (token_to f e) (phrase_to f phrase) has_state has_kind (reports_to f reported) when (derives_to f derived) ends)

pub derives_file_to : (f : ℕ → ℕ) {ts : List Token} {items : List Item} → DerivesFile ts items →
    DerivesFile (map (token_to f) ts) (map (item_to f) items)
derives_file_to f grammar.DerivesFile.done = grammar.DerivesFile.done
derives_file_to f (grammar.DerivesFile.next {ts = ts} {us = us} {item = item} {items = items} d e) =
    subst (λ (xs : List Token). DerivesFile xs (item_to f item ∷ map (item_to f) items)) (sym (map-append (token_to f) ts us))
    (grammar.DerivesFile.next (derives_item_to f d) (derives_file_to f e))

-- ---- nesting

-- what lies before and behind a cut of moved tokens
cut_back : (f : ℕ → ℕ) (ts front back : List Token) → map (token_to f) ts ≡ front ++ back →
    (us : List Token) × (vs : List Token) × (ts ≡ us ++ vs) × (map (token_to f) us ≡ front) × (map (token_to f) vs ≡ back)
cut_back f ts [] back e = ([], ts, refl, refl, e)
cut_back f [] (x ∷ front) back e = absurd (cc e)
cut_back f (t ∷ ts) (x ∷ front) back e =
    let others = cut_back f ts front back (cc e) in
    let same : token_to f t ≡ x = cc e in
    (t ∷ others.0, others.1, ap (λ (xs : List Token). t ∷ xs) others.2, (λ i. same i ∷ others.3 i), others.4)

ends_alike : (f : ℕ → ℕ) (ts : List Token) → list_any ends_item (map (token_to f) ts) ≡ list_any ends_item ts
ends_alike f [] = refl
ends_alike f (t ∷ ts) = ap (λ b. ends_item t || b) (ends_alike f ts)

nest_alike_from : (f : ℕ → ℕ) (ts : List Token) (sum : ℕ) →
    fold (λ n t. n + cond (nests t) 1 0) sum (map (token_to f) ts) ≡ fold (λ n t. n + cond (nests t) 1 0) sum ts
nest_alike_from f [] sum = refl
nest_alike_from f (t ∷ ts) sum = nest_alike_from f ts (sum + cond (nests t) 1 0)

nest_alike : (f : ℕ → ℕ) (ts : List Token) → count_by nests (map (token_to f) ts) ≡ count_by nests ts
nest_alike f ts = nest_alike_from f ts 0

pub shallow_to : (f : ℕ → ℕ) (ts : List Token) → IsShallow ts → IsShallow (map (token_to f) ts)
shallow_to f ts shallow = go
  where
    go : (front inside back : List Token) (w : Token) → map (token_to f) ts ≡ front ++ w ∷ inside ++ back →
        Fits (word "when") w → IsFalse (list_any ends_item inside) → count_by nests inside ≤ most_nested
    go front inside back w e when plain = subst (λ n. n ≤ most_nested) (sym (nest_alike f cut.1) ∙ ap (count_by nests) (sym inner)) few
      where
        outer : (us : List Token) × (vs : List Token) × (ts ≡ us ++ vs) × (map (token_to f) us ≡ front ++ w ∷ inside) × (map (token_to f) vs ≡ back)
        outer = cut_back f ts (front ++ w ∷ inside) back e

        middle : (us : List Token) × (vs : List Token) × (outer.0 ≡ us ++ vs) × (map (token_to f) us ≡ front) × (map (token_to f) vs ≡ w ∷ inside)
        middle = cut_back f outer.0 front (w ∷ inside) outer.3

        first : (us : List Token) → map (token_to f) us ≡ w ∷ inside → (t : Token) × (vs : List Token) × (us ≡ t ∷ vs) × (token_to f t ≡ w) × (map (token_to f) vs ≡ inside)
        first [] h = absurd (cc h)
        first (t ∷ vs) h = (t, vs, refl, cc h, cc h)

        cut : (t : Token) × (vs : List Token) × (middle.1 ≡ t ∷ vs) × (token_to f t ≡ w) × (map (token_to f) vs ≡ inside)
        cut = first middle.1 middle.4

        inner : inside ≡ map (token_to f) cut.1
        inner = sym cut.4

        whole : ts ≡ middle.0 ++ cut.0 ∷ cut.1 ++ outer.1
        whole = outer.2 ∙ ap (λ (xs : List Token). xs ++ outer.1) (middle.2 ∙ ap (λ (xs : List Token). middle.0 ++ xs) cut.2)

        few : count_by nests cut.1 ≤ most_nested
        few = shallow middle.0 cut.1 outer.1 cut.0 whole
            (subst (λ (t : Token). Fits (word "when") t) (sym cut.3) when)
            (sym (ends_alike f cut.1) ∙ ap (list_any ends_item) (sym inner) ∙ plain)

-- ---- names

packets_to : (f : ℕ → ℕ) (items : List Item) (name : Token) →
    packet_named (map (item_to f) items) (token_to f name) ≡ option_map (packet_to f) (packet_named items name)
packets_to f [] name = refl
packets_to f (Field x ∷ items) name = packets_to f items name
packets_to f (Rule r ∷ items) name = packets_to f items name
packets_to f (Packet p ∷ items) name =
    step (bytes_eq p.name.text name.text) (packet_named (map (item_to f) items) (token_to f name)) (packet_named items name) (packets_to f items name)
  where
    step : (b : Bool) (others found : Option PacketItem) → others ≡ option_map (packet_to f) found →
        cond b (Some (packet_to f p)) others ≡ option_map (packet_to f) (cond b (Some p) found)
    step true others found e = refl
    step false others found e = e

fields_to : (f : ℕ → ℕ) (items : List Item) (name : Token) →
    field_named (map (item_to f) items) (token_to f name) ≡ option_map (field_to f) (field_named items name)
fields_to f [] name = refl
fields_to f (Packet p ∷ items) name = fields_to f items name
fields_to f (Rule r ∷ items) name = fields_to f items name
fields_to f (Field x ∷ items) name =
    step (bytes_eq x.name.text name.text) (field_named (map (item_to f) items) (token_to f name)) (field_named items name) (fields_to f items name)
  where
    step : (b : Bool) (others found : Option FieldItem) → others ≡ option_map (field_to f) found →
        cond b (Some (field_to f x)) others ≡ option_map (field_to f) (cond b (Some x) found)
    step true others found e = refl
    step false others found e = e

-- ---- rules

numbers_alike : (f : ℕ → ℕ) (n : Option Number) (d : ℕ) →
    option_map_or (λ (m : Number). nat_abs m.value) (option_map (number_to f) n) d ≡ option_map_or (λ (m : Number). nat_abs m.value) n d
numbers_alike f None d = refl
numbers_alike f (Some n) d = refl

terms_alike : (f : ℕ → ℕ) (x : FieldItem) (op : CmpOp) (n : Number) (p : PacketItem) →
    term_of (field_to f x) op (number_to f n) (packet_to f p) ≡ term_of x op n p
terms_alike f x op n p = λ i. record {
  kind = x.kind;
  mid = nat_abs p.mid.value;
  offset = nat_abs x.offset.value;
  mask = numbers_alike f x.mask (full_mask x.kind) i;
  stale = numbers_alike f x.stale 0 i;
  op = op;
  value = n.value;
}

watches_alike : (f : ℕ → ℕ) (x : FieldItem) (op : CmpOp) (n : Number) (p : Option PacketItem) →
    option_map (λ p. Watch (term_of (field_to f x) op (number_to f n) p)) (option_map (packet_to f) p) ≡ option_map (λ p. Watch (term_of x op n p)) p
watches_alike f x op n None = refl
watches_alike f x op n (Some p) = ap (λ t. Some (Watch t)) (terms_alike f x op n p)

compares_alike : (f : ℕ → ℕ) (items : List Item) (op : CmpOp) (n : Number) (x : Option FieldItem) →
    option_and_then (λ x. option_map (λ p. Watch (term_of x op (number_to f n) p)) (packet_named (map (item_to f) items) x.packet)) (option_map (field_to f) x) ≡
    option_and_then (λ x. option_map (λ p. Watch (term_of x op n p)) (packet_named items x.packet)) x
compares_alike f items op n None = refl
compares_alike f items op n (Some x) =
    ap (option_map (λ p. Watch (term_of (field_to f x) op (number_to f n) p))) (packets_to f items x.packet) ∙ watches_alike f x op n (packet_named items x.packet)

conditions_alike : (f : ℕ → ℕ) (items : List Item) (e : Expression) → condition_in (map (item_to f) items) (expression_to f e) ≡ condition_in items e
conditions_alike f items (Compare name op n) =
    ap (option_and_then (λ x. option_map (λ p. Watch (term_of x op (number_to f n) p)) (packet_named (map (item_to f) items) x.packet))) (fields_to f items name)
    ∙ compares_alike f items op n (field_named items name)
conditions_alike f items (Not e) = ap (option_map condition.Not) (conditions_alike f items e)
conditions_alike f items (Join o a b) =
    λ i. option_map_two (condition.Join o) (conditions_alike f items a i) (conditions_alike f items b i)

reports_alike : (f : ℕ → ℕ) (r : Option ReportItem) (d : ReportMaxima) →
    option_map_or report_of (option_map (report_to f) r) d ≡ option_map_or report_of r d
reports_alike f None d = refl
reports_alike f (Some r) d = refl

named_alike : (f : ℕ → ℕ) (r : RuleItem) (c : Condition) → named_rule (rule_to f r) c ≡ named_rule r c
named_alike f r c = λ i. record {
  name = r.name.text;
  action = record {
    mode = r.mode;
    fails = nat_abs r.fails.value;
    sequence = nat_abs r.sequence.value;
    event_kind = r.event_kind;
    event_id = nat_abs r.event_id.value;
    text = r.text;
    report = reports_alike f r.report (record { passive = 0; pass_to_fail = 0; fail_to_pass = 0 }) i;
    condition = c;
  };
}

both_alike : (f : ℕ → ℕ) (r : RuleItem) (a : Option Condition) (b : Option (List NamedRule)) →
    option_map_two (λ c rs. named_rule (rule_to f r) c ∷ rs) a b ≡ option_map_two (λ c rs. named_rule r c ∷ rs) a b
both_alike f r None b = refl
both_alike f r (Some c) None = refl
both_alike f r (Some c) (Some rs) = ap (λ (n : NamedRule). Some (n ∷ rs)) (named_alike f r c)

rules_alike : (f : ℕ → ℕ) (items some : List Item) → rules_in (map (item_to f) items) (map (item_to f) some) ≡ rules_in items some
rules_alike f items [] = refl
rules_alike f items (Packet p ∷ others) = rules_alike f items others
rules_alike f items (Field x ∷ others) = rules_alike f items others
rules_alike f items (Rule r ∷ others) =
    (λ i. option_map_two (λ c rs. named_rule (rule_to f r) c ∷ rs) (conditions_alike f items r.condition i) (rules_alike f items others i))
    ∙ both_alike f r (condition_in items r.condition) (rules_in items others)

-- ---- faults

abbrev fault_to : (ℕ → ℕ) → TextFault → TextFault
fault_to f x = record { code = x.code; at = f x.at }

abbrev faults_to : (ℕ → ℕ) → List TextFault → List TextFault
faults_to f = map (fault_to f)

if_to : (f : ℕ → ℕ) (b : Bool) (code at : ℕ) → fault_if b code (f at) ≡ faults_to f (fault_if b code at)
if_to f true code at = refl
if_to f false code at = refl

outside_to : (f : ℕ → ℕ) (low high code : ℕ) (n : Number) → fault_outside low high code (number_to f n) ≡ faults_to f (fault_outside low high code n)
outside_to f low high code n = if_to f (int_lt n.value (pos low) || int_lt (pos high) n.value) code n.at

-- faults one behind the other
two : (f : ℕ → ℕ) (us vs : List TextFault) {xs ys : List TextFault} → xs ≡ faults_to f us → ys ≡ faults_to f vs → xs ++ ys ≡ faults_to f (us ++ vs)
two f us vs a b = (λ i. a i ++ b i) ∙ sym (map-append (fault_to f) us vs)

packet_faults_to : (f : ℕ → ℕ) (p : PacketItem) → packet_faults (packet_to f p) ≡ faults_to f (packet_faults p)
packet_faults_to f p = two f _ _ (two f _ _ (outside_to f _ _ _ p.mid) (if_to f _ _ p.mid.at)) (outside_to f _ _ _ p.length)

none_alike : (f : ℕ → ℕ) (p : Option PacketItem) → is_none (option_map (packet_to f) p) ≡ is_none p
none_alike f None = refl
none_alike f (Some p) = refl

outside_alike : (f : ℕ → ℕ) (x : FieldItem) (p : Option PacketItem) → is_outside (field_to f x) (option_map (packet_to f) p) ≡ is_outside x p
outside_alike f x None = refl
outside_alike f x (Some p) = refl

mask_to : (f : ℕ → ℕ) (low high code : ℕ) (n : Option Number) →
    option_map_or (fault_outside low high code) (option_map (number_to f) n) [] ≡ faults_to f (option_map_or (fault_outside low high code) n [])
mask_to f low high code None = refl
mask_to f low high code (Some n) = outside_to f low high code n

stale_to : (f : ℕ → ℕ) (code : ℕ) (n : Option Number) →
    option_map_or (λ (n : Number). fault_if (int_lt n.value (pos 0)) code n.at) (option_map (number_to f) n) [] ≡
    faults_to f (option_map_or (λ (n : Number). fault_if (int_lt n.value (pos 0)) code n.at) n [])
stale_to f code None = refl
stale_to f code (Some n) = if_to f (int_lt n.value (pos 0)) code n.at

field_faults_to : (f : ℕ → ℕ) (items : List Item) (x : FieldItem) → field_faults (map (item_to f) items) (field_to f x) ≡ faults_to f (field_faults items x)
field_faults_to f items x =
    two f _ _ (two f _ _ (two f _ _
    (ap (λ (b : Bool). fault_if b unknown_name (f x.packet.at)) (ap is_none (packets_to f items x.packet) ∙ none_alike f (packet_named items x.packet))
    ∙ if_to f (is_none (packet_named items x.packet)) unknown_name x.packet.at)
    (ap (λ (b : Bool). fault_if b field_outside (f x.offset.at)) (ap (is_outside (field_to f x)) (packets_to f items x.packet) ∙ outside_alike f x (packet_named items x.packet))
    ∙ if_to f (is_outside x (packet_named items x.packet)) field_outside x.offset.at))
    (mask_to f 1 (full_mask x.kind) mask_range x.mask)) (stale_to f number_range x.stale)

compare_to : (f : ℕ → ℕ) (name : Token) (n : Number) (x : Option FieldItem) →
    compare_faults (token_to f name) (number_to f n) (option_map (field_to f) x) ≡ faults_to f (compare_faults name n x)
compare_to f name n None = refl
compare_to f name n (Some x) = if_to f (not (is_in_type x.kind n.value)) compared_range n.at

condition_faults_to : (f : ℕ → ℕ) (items : List Item) (e : Expression) →
    condition_faults (map (item_to f) items) (expression_to f e) ≡ faults_to f (condition_faults items e)
condition_faults_to f items (Compare name op n) =
    ap (compare_faults (token_to f name) (number_to f n)) (fields_to f items name) ∙ compare_to f name n (field_named items name)
condition_faults_to f items (Not e) = condition_faults_to f items e
condition_faults_to f items (Join o a b) =
    two f (condition_faults items a) (condition_faults items b) (condition_faults_to f items a) (condition_faults_to f items b)

report_faults_to : (f : ℕ → ℕ) (r : Option ReportItem) →
    option_map_or report_faults (option_map (report_to f) r) [] ≡ faults_to f (option_map_or report_faults r [])
report_faults_to f None = refl
report_faults_to f (Some r) = two f _ _ (two f _ _ (outside_to f _ _ _ r.passive) (outside_to f _ _ _ r.pass_to_fail)) (outside_to f _ _ _ r.fail_to_pass)

rule_faults_to : (f : ℕ → ℕ) (items : List Item) (r : RuleItem) → rule_faults (map (item_to f) items) (rule_to f r) ≡ faults_to f (rule_faults items r)
rule_faults_to f items r =
    two f _ _ (two f _ _ (two f _ _ (two f _ _ (outside_to f _ _ _ r.fails) (outside_to f _ _ _ r.sequence)) (outside_to f _ _ _ r.event_id))
    (report_faults_to f r.report)) (condition_faults_to f items r.condition)

-- ---- names

-- places in the same order
abbrev pub Ascends : (ℕ → ℕ) → Type 0
Ascends f = (m n : ℕ) → m ≤ n → f m ≤ f n

earlier_to : (f : ℕ → ℕ) → Ascends f → (a b : Token) → is_earlier a b ≡ false → is_earlier (token_to f a) (token_to f b) ≡ false
earlier_to f up a b e = go (bytes_eq a.text b.text) refl
  where
    go : (same : Bool) → bytes_eq a.text b.text ≡ same → is_earlier (token_to f a) (token_to f b) ≡ false
    go false s = rw s refl
    go true s =
        let later : nat_lt a.at b.at ≡ false = rw s at e in
        let order : b.at ≤ a.at = grind (arith, later) in
        let moved : f b.at ≤ f a.at = up b.at a.at order in
        let not_less : nat_lt (f a.at) (f b.at) ≡ false = grind (arith, moved) in
        rw (s, not_less) refl

name_to : (f : ℕ → ℕ) (item : Item) → name_of (item_to f item) ≡ token_to f (name_of item)
name_to f (Packet p) = refl
name_to f (Field x) = refl
name_to f (Rule r) = refl

none_earlier : (f : ℕ → ℕ) → Ascends f → (t : Token) (items : List Item) → list_any (λ other. is_earlier (name_of other) t) items ≡ false →
    list_any (λ other. is_earlier (name_of other) (token_to f t)) (map (item_to f) items) ≡ false
none_earlier f up t [] e = refl
none_earlier f up t (item ∷ items) e =
    or_neither _ _
    (subst (λ (name : Token). is_earlier name (token_to f t) ≡ false) (sym (name_to f item)) (earlier_to f up (name_of item) t (or_first _ (list_any (λ other. is_earlier (name_of other) t) items) e)))
    (none_earlier f up t items (or_second (is_earlier (name_of item) t) _ e))

no_fault : (b : Bool) (code at : ℕ) → fault_if b code at ≡ [] → b ≡ false
no_fault true code at e = absurd (cc e)
no_fault false code at e = refl

names_clean : (f : ℕ → ℕ) → Ascends f → (items : List Item) (item : Item) → name_faults items item ≡ [] →
    name_faults (map (item_to f) items) (item_to f item) ≡ []
names_clean f up items item e =
    ap (λ (b : Bool). fault_if b duplicate_name (name_of (item_to f item)).at)
    (subst (λ (t : Token). list_any (λ other. is_earlier (name_of other) t) (map (item_to f) items) ≡ false) (sym (name_to f item))
    (none_earlier f up (name_of item) items (no_fault _ duplicate_name (name_of item).at e)))

first_empty : (xs ys : List TextFault) → xs ++ ys ≡ [] → xs ≡ []
first_empty [] ys e = refl
first_empty (x ∷ xs) ys e = absurd (cc e)

second_empty : (xs ys : List TextFault) → xs ++ ys ≡ [] → ys ≡ []
second_empty [] ys e = e
second_empty (x ∷ xs) ys e = absurd (cc e)

item_clean : (f : ℕ → ℕ) → Ascends f → (items : List Item) (item : Item) → faults_of items item ≡ [] → faults_of (map (item_to f) items) (item_to f item) ≡ []
item_clean f up items (Packet p) e =
    λ i. names_clean f up items (Packet p) (first_empty _ (packet_faults p) e) i
    ++ (packet_faults_to f p ∙ ap (faults_to f) (second_empty (name_faults items (Packet p)) _ e)) i
item_clean f up items (Field x) e =
    λ i. names_clean f up items (Field x) (first_empty _ (field_faults items x) e) i
    ++ (field_faults_to f items x ∙ ap (faults_to f) (second_empty (name_faults items (Field x)) _ e)) i
item_clean f up items (Rule r) e =
    λ i. names_clean f up items (Rule r) (first_empty _ (rule_faults items r) e) i
    ++ (rule_faults_to f items r ∙ ap (faults_to f) (second_empty (name_faults items (Rule r)) _ e)) i

all_clean : (f : ℕ → ℕ) → Ascends f → (items some : List Item) → flat_map (faults_of items) some ≡ [] →
    flat_map (faults_of (map (item_to f) items)) (map (item_to f) some) ≡ []
all_clean f up items [] e = refl
all_clean f up items (item ∷ some) e =
    λ i. item_clean f up items item (first_empty (faults_of items item) _ e) i ++ all_clean f up items some (second_empty (faults_of items item) _ e) i

pub means_to : (f : ℕ → ℕ) → Ascends f → (items : List Item) (rules : List NamedRule) → Means items rules → Means (map (item_to f) items) rules
means_to f up items rules means = record { accepted = all_clean f up items items means.accepted; meant = rules_alike f items items ∙ means.meant }
