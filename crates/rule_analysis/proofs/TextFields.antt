-- The fields that the rules of a text read are those of telemetry.
use Rattle.std.proofs.Common.{◌≡◌, refl, subst, ℕ, ◌+◌, ◌≤◌, true, false, ◌&&◌, nat_le, List, [], ◌∷◌, flat_map, Option, Some, None, option_map, ℤ, pos, negsuc, ◌+ℤ◌, int_lt, nat_abs, arith}
use Rattle.std.specs.Prelude.{IsTrue, is_none, option_and_then}
use Rattle.std.specs.List.{AllByRecursion}
use Rattle.std.proofs.lemmas.Bool.Decides.{nat_tests}
use Rattle.std.proofs.lemmas.Int.{ints}
use Rattle.lc_model.specs.declared.field.CmpOp.{CmpOp}
use Rattle.lc_model.specs.declared.field.Term.{Term}
use Rattle.lc_model.specs.Packet.{is_telemetry_mid}
use Rattle.lc_model.specs.Field.{width}
use Rattle.lc_model.specs.Condition.{Condition, Watch}
use Rattle.lc_model.specs.Condition as condition
use Rattle.lc_model.specs.Rule.{NamedRule}
use Rattle.lc_model.specs.Text.Syntax.{Number, Expression, Compare, Not, Join, PacketItem, FieldItem, Item, Packet, Field, Rule}
use Rattle.lc_model.specs.Text.Meaning.{fault_if, fault_outside, name_faults, packet_faults, field_faults, faults_of, is_outside, term_of, option_map_two, condition_in, named_rule, rules_in, field_named, packet_named, Means}
use Rattle.lc_model.specs.Tables.Equation.{mentions}
use Rattle.lc_model.proofs.Texts.ItemsInRange.{HasMask, HasMid, IsBetween, OfField, OfPacket, all_masked, all_identified, field_found, packet_found, not_refused, number_fits}
use Rattle.lc_model.proofs.Facts.{append_none_second, append_none_first, or_first, or_second}
use Rattle.rule_analysis.specs.Bits.{ReadsTelemetry, TextsReadTelemetry}
use Rattle.rule_analysis.proofs.Each.{both}

-- ---- a field ends in its packet

ends : (offset length : ℤ) (w : ℕ) → int_lt offset (pos 0) ≡ false → int_lt length (offset +ℤ pos w) ≡ false → nat_abs length ≤ 2048 → nat_abs offset + w ≤ 2048
ends (pos m) (pos n) w begins inside few = grind (arith, ints)
ends (pos m) (negsuc n) w begins inside few = absurd (cc inside)
ends (negsuc m) length w begins inside few = absurd (cc begins)

-- no part of the field lies behind the declared length
Inside : List Item → FieldItem → Type 0
Inside items f = is_outside f (packet_named items f.packet) ≡ false

HasLength : PacketItem → Type 0
HasLength p = nat_abs p.length.value ≤ 2048

inside : (items : List Item) (item : Item) → faults_of items item ≡ [] → OfField (Inside items) item
unfolding Inside
inside items (Packet p) e = tt
inside items (Field f) e =
    let own : field_faults items f ≡ [] = append_none_second (name_faults items (Field f)) (field_faults items f) e in
    not_refused (is_outside f (packet_named items f.packet)) 25 f.offset.at
    (append_none_second (fault_if (is_none (packet_named items f.packet)) 22 f.packet.at) _ (append_none_first _ _ (append_none_first _ _ own)))
inside items (Rule r) e = tt

lengths : (items : List Item) (item : Item) → faults_of items item ≡ [] → OfPacket HasLength item
unfolding HasLength
lengths items (Packet p) e =
    let own : packet_faults p ≡ [] = append_none_second (name_faults items (Packet p)) (packet_faults p) e in
    let between : IsBetween 12 2048 p.length.value = number_fits 12 2048 29 p.length (append_none_second _ (fault_outside 12 2048 29 p.length) own) in
    between.most
lengths items (Field f) e = tt
lengths items (Rule r) e = tt

each_item : (P : Item → Type 0) (items others : List Item) → ((item : Item) → faults_of items item ≡ [] → P item) →
    flat_map (faults_of items) others ≡ [] → AllByRecursion P others
each_item P items [] holds e = tt
each_item P items (item ∷ others) holds e = (
  holds item (append_none_first (faults_of items item) (flat_map (faults_of items) others) e),
  each_item P items others holds (append_none_second (faults_of items item) (flat_map (faults_of items) others) e),
)

telemetry : (mid : ℕ) → 0x0800 ≤ mid → mid ≤ 0x0FFF → IsTrue (is_telemetry_mid mid)
telemetry mid least most = λ i. above i && below i
  where
    above : nat_le 0x0800 mid ≡ true
    above = grind (arith, nat_tests)

    below : nat_le mid 0x0FFF ≡ true
    below = grind (arith, nat_tests)

-- ---- the terms of rules

abbrev AllRead : List Term → Type 0
AllRead ts = AllByRecursion ReadsTelemetry ts

module _ (items : List Item) (accepted : flat_map (faults_of items) items ≡ []) where
  term_reads : (op : CmpOp) (n : Number) (f : FieldItem) → HasMask f → Inside items f → (o : Option PacketItem) → packet_named items f.packet ≡ o →
      (c : Condition) → option_map (λ p. Watch (term_of f op n p)) o ≡ Some c → AllRead (mentions c)
  unfolding Inside HasLength
  term_reads op n f masked within None e c is = absurd (cc is)
  term_reads op n f masked within (Some p) e c is =
      let same : Watch (term_of f op n p) ≡ c = cc is in
      let packet : HasMid p = packet_found HasMid _ items (all_identified items accepted) p e in
      let short : nat_abs p.length.value ≤ 2048 = packet_found HasLength _ items (each_item (OfPacket HasLength) items items (lengths items) accepted) p e in
      let outside : is_outside f (Some p) ≡ false = subst (λ (q : Option PacketItem). is_outside f q ≡ false) e within in
      let reads : ReadsTelemetry (term_of f op n p) = record {
        mid = telemetry (nat_abs p.mid.value) packet.range.0 packet.range.1;
        free = packet.free;
        end = ends f.offset.value p.length.value (width f.kind) (or_first (int_lt f.offset.value (pos 0)) (int_lt p.length.value (f.offset.value +ℤ pos (width f.kind))) outside)
            (or_second (int_lt f.offset.value (pos 0)) (int_lt p.length.value (f.offset.value +ℤ pos (width f.kind))) outside) short;
        mask = masked.1;
      } in
      subst (λ (d : Condition). AllRead (mentions d)) same (reads, tt)

  condition_reads : (e : Expression) (c : Condition) → condition_in items e ≡ Some c → AllRead (mentions c)
  condition_reads (Compare name op n) c is = by_field (field_named items name) refl is
    where
      by_field : (o : Option FieldItem) → field_named items name ≡ o →
          option_and_then (λ f. option_map (λ p. Watch (term_of f op n p)) (packet_named items f.packet)) o ≡ Some c → AllRead (mentions c)
      by_field None e is = absurd (cc is)
      by_field (Some f) e is =
          term_reads op n f (field_found HasMask _ items (all_masked items accepted) f e)
          (field_found (Inside items) _ items (each_item (OfField (Inside items)) items items (inside items) accepted) f e) (packet_named items f.packet) refl c is
  condition_reads (Not e) c is = by_part (condition_in items e) (condition_reads e) is
    where
      by_part : (o : Option Condition) → ((d : Condition) → o ≡ Some d → AllRead (mentions d)) → option_map condition.Not o ≡ Some c → AllRead (mentions c)
      by_part None part is = absurd (cc is)
      by_part (Some d) part is = let whole : condition.Not d ≡ c = cc is in subst (λ (x : Condition). AllRead (mentions x)) whole (part d refl)
  condition_reads (Join o a b) c is = by_parts (condition_in items a) (condition_in items b) (condition_reads a) (condition_reads b) is
    where
      by_parts : (p q : Option Condition) → ((d : Condition) → p ≡ Some d → AllRead (mentions d)) → ((d : Condition) → q ≡ Some d → AllRead (mentions d)) →
          option_map_two (condition.Join o) p q ≡ Some c → AllRead (mentions c)
      by_parts None q first second is = absurd (cc is)
      by_parts (Some x) None first second is = absurd (cc is)
      by_parts (Some x) (Some y) first second is =
          let whole : condition.Join o x y ≡ c = cc is in
          subst (λ (z : Condition). AllRead (mentions z)) whole (both ReadsTelemetry (mentions x) (mentions y) (first x refl) (second y refl))

  rules_read : (others : List Item) (rules : List NamedRule) → rules_in items others ≡ Some rules →
      AllByRecursion (λ (rule : NamedRule). AllRead (mentions rule.action.condition)) rules
  rules_read [] rules is =
      let same : [] ≡ rules = cc is in subst (AllByRecursion (λ (rule : NamedRule). AllRead (mentions rule.action.condition))) same tt
  rules_read (Packet p ∷ others) rules is = rules_read others rules is
  rules_read (Field f ∷ others) rules is = rules_read others rules is
  rules_read (Rule r ∷ others) rules is = by_parts (condition_in items r.condition) refl (rules_in items others) (rules_read others) is
    where
      by_parts : (p : Option Condition) → condition_in items r.condition ≡ p → (q : Option (List NamedRule)) →
          ((rs : List NamedRule) → q ≡ Some rs → AllByRecursion (λ (rule : NamedRule). AllRead (mentions rule.action.condition)) rs) →
          option_map_two (λ c rs. named_rule r c ∷ rs) p q ≡ Some rules → AllByRecursion (λ (rule : NamedRule). AllRead (mentions rule.action.condition)) rules
      by_parts None e q rest is = absurd (cc is)
      by_parts (Some c) e None rest is = absurd (cc is)
      by_parts (Some c) e (Some rs) rest is =
          let whole : named_rule r c ∷ rs ≡ rules = cc is in
          subst (AllByRecursion (λ (rule : NamedRule). AllRead (mentions rule.action.condition))) whole (condition_reads r.condition c e, rest rs refl)

pub texts_read_telemetry : TextsReadTelemetry
texts_read_telemetry text rules reads =
    let items : List Item = reads.1 in
    let means : Means items rules = reads.4 in
    rules_read items means.accepted items rules means.meant
