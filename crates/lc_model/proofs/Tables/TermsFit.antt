-- The watchpoints of a rule text are those that a sound table may have.
use Rattle.std.proofs.Common.{◌≡◌, refl, subst, ℕ, ◌<◌, ◌≤◌, ◌==◌, Bool, true, false, not, cond, List, [], ◌∷◌, ◌++◌, filter, flat_map, Option, Some, None, option_map, arith}
use Rattle.std.specs.Prelude.{option_and_then}
use Rattle.std.specs.List.{AllByRecursion, list_any}
use Rattle.lc_model.specs.Packet.{reserved_mids}
use Rattle.std.specs.Option.{option_map_or}
use Rattle.lc_model.specs.declared.field.CmpOp.{CmpOp}
use Rattle.lc_model.specs.declared.field.Term.{Term}
use Rattle.lc_model.specs.Field.{full_mask, is_in_type}
use Rattle.lc_model.specs.Condition.{Operator, Condition, Watch}
use Rattle.lc_model.specs.Condition as condition
use Rattle.lc_model.specs.Rule.{NamedRule}
use Rattle.lc_model.specs.Text.Syntax.{Number, Expression, Compare, Not, Join, PacketItem, FieldItem, Item, Packet, Field, Rule}
use Rattle.lc_model.specs.Text.Meaning.{fault_if, fault_outside, name_faults, faults_of, compare_faults, condition_faults, rule_faults, report_faults, term_of, option_map_two, condition_in, named_rule, rules_in, field_named, packet_named, Means}
use Rattle.lc_model.specs.Text.Reading.{Reads}
use Rattle.lc_model.specs.Tables.Equation.{same_term, mentions, distinct, terms_of}
use Rattle.lc_model.specs.Tables.Image.{FitsWatchpoint, ComparesInType}
use Rattle.lc_model.proofs.Tables.NumbersIn32Bits.{in_type_fits}
use Rattle.lc_model.proofs.Texts.ItemsInRange.{FitsField, HasMask, HasMid, OfField, OfPacket, fields_fit, all_masked, all_identified, field_found, packet_found}
use Rattle.lc_model.proofs.Facts.{append_none_second, append_none_first}
use Rattle.lc_model.proofs.FieldTypes.{mask_small}

-- a watchpoint that a sound table may have: a message id of telemetry that isn't the host's own, a mask of some of the
-- type's bits, and a number of the type
pub record IsSoundTerm (t : Term) : Type 0 where
  pub fits : FitsWatchpoint t
  pub in_type : ComparesInType t
  pub mid : (0x0800 ≤ t.mid) × (t.mid ≤ 0x0FFF)
  pub free : list_any (◌==◌ t.mid) reserved_mids ≡ false
  pub mask : (1 ≤ t.mask) × (t.mask ≤ full_mask t.kind)

abbrev AllFit : List Term → Type 0
AllFit ts = AllByRecursion IsSoundTerm ts

in_range : (b : Bool) (code at : ℕ) → fault_if (not b) code at ≡ [] → b ≡ true
in_range true code at e = refl
in_range false code at e = absurd (cc e)

fit_both : (xs ys : List Term) → AllFit xs → AllFit ys → AllFit (xs ++ ys)
fit_both [] ys a b = b
fit_both (x ∷ xs) ys a b = (a.0, fit_both xs ys a.1 b)

module _ (items : List Item) (fields : AllByRecursion (OfField FitsField) items) (masks : AllByRecursion (OfField HasMask) items) (packets : AllByRecursion (OfPacket HasMid) items) where
  comparison_fits : (op : CmpOp) (n : Number) (c : Condition) (f : FieldItem) → FitsField f → HasMask f → is_in_type f.kind n.value ≡ true →
      (o : Option PacketItem) → packet_named items f.packet ≡ o → option_map (λ p. Watch (term_of f op n p)) o ≡ Some c → AllFit (mentions c)
  comparison_fits op n c f fits masked value None e is = absurd (cc is)
  comparison_fits op n c f fits masked value (Some p) e is =
      let same : Watch (term_of f op n p) ≡ c = cc is in
      let packet : HasMid p = packet_found HasMid _ items packets p e in
      let fit : FitsWatchpoint (term_of f op n p) = record {
        mid = omega (arith, packet.range.1);
        offset = fits.offset;
        mask = omega (arith, masked.1, mask_small f.kind);
        stale = fits.stale;
        value = in_type_fits f.kind n.value value;
      } in
      let sound : IsSoundTerm (term_of f op n p) = record { fits = fit; in_type = value; mid = packet.range; free = packet.free; mask = masked } in
      subst (λ (d : Condition). AllFit (mentions d)) same (sound, tt)

  condition_fits : (e : Expression) (c : Condition) → condition_faults items e ≡ [] → condition_in items e ≡ Some c → AllFit (mentions c)
  condition_fits (Compare name op n) c none is = by_field (field_named items name) refl none is
    where
      by_field : (o : Option FieldItem) → field_named items name ≡ o → compare_faults name n o ≡ [] →
          option_and_then (λ f. option_map (λ p. Watch (term_of f op n p)) (packet_named items f.packet)) o ≡ Some c → AllFit (mentions c)
      by_field None e none is = absurd (cc is)
      by_field (Some f) e none is =
          comparison_fits op n c f (field_found FitsField _ items fields f e) (field_found HasMask _ items masks f e) (in_range (is_in_type f.kind n.value) 27 n.at none) (packet_named items f.packet) refl is
  condition_fits (Not e) c none is = by_part (condition_in items e) (λ d same. condition_fits e d none same) is
    where
      by_part : (o : Option Condition) → ((d : Condition) → o ≡ Some d → AllFit (mentions d)) → option_map condition.Not o ≡ Some c → AllFit (mentions c)
      by_part None part is = absurd (cc is)
      by_part (Some d) part is =
          let whole : condition.Not d ≡ c = cc is in
          subst (λ (x : Condition). AllFit (mentions x)) whole (part d refl)
  condition_fits (Join o a b) c none is = by_parts (condition_in items a) (condition_in items b)
      (λ d same. condition_fits a d (append_none_first (condition_faults items a) (condition_faults items b) none) same)
      (λ d same. condition_fits b d (append_none_second (condition_faults items a) (condition_faults items b) none) same) is
    where
      by_parts : (p q : Option Condition) → ((d : Condition) → p ≡ Some d → AllFit (mentions d)) → ((d : Condition) → q ≡ Some d → AllFit (mentions d)) →
          option_map_two (condition.Join o) p q ≡ Some c → AllFit (mentions c)
      by_parts None q first second is = absurd (cc is)
      by_parts (Some x) None first second is = absurd (cc is)
      by_parts (Some x) (Some y) first second is =
          let whole : condition.Join o x y ≡ c = cc is in
          subst (λ (z : Condition). AllFit (mentions z)) whole (fit_both (mentions x) (mentions y) (first x refl) (second y refl))

  rules_fit : (others : List Item) (rules : List NamedRule) → flat_map (faults_of items) others ≡ [] → rules_in items others ≡ Some rules →
      AllFit (flat_map (λ (r : NamedRule). mentions r.action.condition) rules)
  rules_fit [] rules none is =
      let same : [] ≡ rules = cc is in subst (λ (rs : List NamedRule). AllFit (flat_map (λ (r : NamedRule). mentions r.action.condition) rs)) same tt
  rules_fit (Packet p ∷ others) rules none is = rules_fit others rules (append_none_second (faults_of items (Packet p)) (flat_map (faults_of items) others) none) is
  rules_fit (Field f ∷ others) rules none is = rules_fit others rules (append_none_second (faults_of items (Field f)) (flat_map (faults_of items) others) none) is
  rules_fit (Rule r ∷ others) rules none is = by_parts (condition_in items r.condition) refl (rules_in items others)
      (λ rs same. rules_fit others rs (append_none_second (faults_of items (Rule r)) (flat_map (faults_of items) others) none) same) is
    where
      here : condition_faults items r.condition ≡ []
      here =
          let whole : faults_of items (Rule r) ≡ [] = append_none_first (faults_of items (Rule r)) (flat_map (faults_of items) others) none in
          let rest : rule_faults items r ≡ [] = append_none_second (name_faults items (Rule r)) (rule_faults items r) whole in
          append_none_second
          (fault_outside 1 65_535 28 r.fails ++ fault_outside 1 65_535 28 r.sequence ++ fault_outside 1_000 65_535 28 r.event_id
          ++ option_map_or report_faults r.report [])
          (condition_faults items r.condition) rest

      by_parts : (p : Option Condition) → condition_in items r.condition ≡ p → (q : Option (List NamedRule)) →
          ((rs : List NamedRule) → q ≡ Some rs → AllFit (flat_map (λ (r : NamedRule). mentions r.action.condition) rs)) →
          option_map_two (λ c rs. named_rule r c ∷ rs) p q ≡ Some rules → AllFit (flat_map (λ (r : NamedRule). mentions r.action.condition) rules)
      by_parts None e q rest is = absurd (cc is)
      by_parts (Some c) e None rest is = absurd (cc is)
      by_parts (Some c) e (Some rs) rest is =
          let whole : named_rule r c ∷ rs ≡ rules = cc is in
          subst (λ (x : List NamedRule). AllFit (flat_map (λ (r : NamedRule). mentions r.action.condition) x)) whole
          (fit_both (mentions c) (flat_map (λ (r : NamedRule). mentions r.action.condition) rs) (condition_fits r.condition c here e) (rest rs refl))

filter_fits : (p : Term → Bool) (ts : List Term) → AllFit ts → AllFit (filter p ts)
filter_fits p [] all = tt
filter_fits p (t ∷ ts) all = by_test (p t) (filter_fits p ts all.1)
  where
    by_test : (b : Bool) → AllFit (filter p ts) → AllFit (cond b (t ∷ filter p ts) (filter p ts))
    by_test true others = (all.0, others)
    by_test false others = others

distinct_fit : (ts : List Term) → AllFit ts → AllFit (distinct ts)
distinct_fit [] all = tt
distinct_fit (t ∷ ts) all = (all.0, filter_fits (λ u. not (same_term t u)) (distinct ts) (distinct_fit ts all.1))

-- the watchpoints of a text are sound
pub all_fit : (text : List ℕ) (rules : List NamedRule) → Reads text rules → AllFit (terms_of rules)
all_fit text rules reads =
    let items : List Item = reads.1 in
    let means : Means items rules = reads.4 in
    distinct_fit (flat_map (λ (r : NamedRule). mentions r.action.condition) rules)
    (rules_fit items (fields_fit reads.3.0) (all_masked items means.accepted) (all_identified items means.accepted) items rules means.accepted means.meant)

each_fits : (ts : List Term) → AllFit ts → AllByRecursion FitsWatchpoint ts
each_fits [] all = tt
each_fits (t ∷ ts) all = (all.0.fits, each_fits ts all.1)

each_in_type : (ts : List Term) → AllFit ts → AllByRecursion ComparesInType ts
each_in_type [] all = tt
each_in_type (t ∷ ts) all = (all.0.in_type, each_in_type ts all.1)

-- the watchpoints of a text fit, with numbers of their types
pub terms_fit : (text : List ℕ) (rules : List NamedRule) → Reads text rules → AllByRecursion FitsWatchpoint (terms_of rules)
terms_fit text rules reads = each_fits (terms_of rules) (all_fit text rules reads)

pub terms_in_type : (text : List ℕ) (rules : List NamedRule) → Reads text rules → AllByRecursion ComparesInType (terms_of rules)
terms_in_type text rules reads = each_in_type (terms_of rules) (all_fit text rules reads)
