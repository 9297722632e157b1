-- Where no two fields share a bit, the packets that are laid make the condition true.
use Rattle.std.proofs.Common.{◌≡◌, ℕ, zero, suc, ◌<◌, nat_le, nat_lt, Bool, true, false, ◌&&◌, ◌==◌, if◌then◌else◌, List, [], ◌∷◌, length, refl, ap, sym, ◌∙◌, subst, arith, slice_get, Option, Some, None, Vec}
use Rattle.std.specs.Global.{Global}
use Rattle.std.specs.Prelude.{IsTrue, IsFalse, is_some}
use Rattle.std.specs.List.{AllByRecursion, list_any}
use Rattle.std.proofs.lemmas.Bool.Decides.{nat_tests}
use Rattle.std.proofs.lemmas.Option.{get_or_from_slice_get}
use Rattle.lc_model.specs.declared.truth.Truth.{Truth}
use Rattle.lc_model.specs.declared.truth.Truth.TheVariants.{Stale}
use Rattle.lc_model.specs.declared.field.Term.{Term}
use Rattle.lc_model.specs.Field.{value_of}
use Rattle.lc_model.specs.Packet.{message_id, is_telemetry_mid, reserved_mids}
use Rattle.lc_model.specs.Condition.{Condition}
use Rattle.lc_model.specs.Tables.Equation.{mentions}
use Rattle.lc_model.specs.LimitChecker.Watch.{last_packet, judgement, is_stale, truth_of_term, truth_of}
use Rattle.rule_analysis.specs.declared.fields.Field.{Field}
use Rattle.rule_analysis.specs.declared.packets.Chosen.{Chosen}
use Rattle.rule_analysis.specs.Judgement.{place_of, value_by, found_in, Refines}
use Rattle.rule_analysis.specs.Classes.{truth_there}
use Rattle.rule_analysis.specs.Fields.{field_number, field_read, is_field_of}
use Rattle.rule_analysis.specs.Search.{found_so_far}
use Rattle.rule_analysis.specs.Bits.{share_bits, ReadsTelemetry}
use Rattle.rule_analysis.specs.Laid.{AreLaid, IsLaid, chosen_of}
use Rattle.rule_analysis.specs.Findings.{HoldsWith, IsOverlap, IsTelemetry, Shows}
use Rattle.rule_analysis.specs.Came.{history_of}
use Rattle.rule_analysis.proofs.FieldLaws.{reads_its_own}
use Rattle.rule_analysis.proofs.Known.{refines-same, tables_keep}
use Rattle.rule_analysis.proofs.LaidLaws.{pair_of}
use Rattle.rule_analysis.proofs.TelemetryLaws.{fault_free}
use Rattle.rule_analysis.proofs.BitLaws.{LeaveOthers}
use Rattle.rule_analysis.proofs.ShownLaws.{IsFree, IsRead, all_at, equal, is_free, leave_others, reads_bits, same_field, where_any}

-- ---- fields with bits, and their packets

pair_there : (fields : List Field) (bits : List ℕ) (n b : ℕ) → slice_get bits n ≡ Some b → n < length fields →
    (f : Field) × (slice_get fields n ≡ Some f) × (slice_get (chosen_of fields bits) n ≡ Some (pair_of f b))
pair_there [] bits n b is below = absurd (omega (arith, below))
pair_there (f ∷ fields) [] n b is below = absurd (cc is)
pair_there (f ∷ fields) (c ∷ bits) zero b is below = let same : c ≡ b = cc is in (f, refl, ap (λ own. Some (pair_of f own)) same)
pair_there (f ∷ fields) (c ∷ bits) (suc n) b is below = pair_there fields bits n b is (omega (arith, below))

some_below : {A : Type 0} (xs : List A) (n : ℕ) (x : A) → slice_get xs n ≡ Some x → n < length xs
some_below [] n x is = absurd (cc is)
some_below (y ∷ xs) zero x is = omega arith
some_below (y ∷ xs) (suc n) x is = omega (arith, some_below xs n x is)

each_chosen : (P : Field → Type 0) (fields : List Field) (bits : List ℕ) → AllByRecursion P fields → AllByRecursion (λ (one : Chosen). P one.field) (chosen_of fields bits)
each_chosen P [] bits all = tt
each_chosen P (f ∷ fields) [] all = tt
each_chosen P (f ∷ fields) (b ∷ bits) all = (all.0, each_chosen P fields bits all.1)

found_packet : (chosen : List Chosen) (mid : ℕ) (packets : List (Vec ℕ Global)) → AllByRecursion (λ (p : Vec ℕ Global). IsLaid chosen (message_id p.items) p.items) packets →
    IsTrue (is_some (last_packet mid (history_of packets))) → (packet : List ℕ) × (last_packet mid (history_of packets) ≡ Some (packet, 0)) × IsLaid chosen mid packet
found_packet chosen mid [] all there = absurd (cc there)
found_packet chosen mid (p ∷ packets) all there = by_test (message_id p.items == mid) refl (found_packet chosen mid packets all.1) there
  where
    by_test : (test : Bool) → (message_id p.items == mid) ≡ test →
        (IsTrue (is_some (last_packet mid (history_of packets))) → (packet : List ℕ) × (last_packet mid (history_of packets) ≡ Some (packet, 0)) × IsLaid chosen mid packet) →
        IsTrue (is_some (if test then Some (p.items, 0) else last_packet mid (history_of packets))) →
        (packet : List ℕ) × ((if test then Some (p.items, 0) else last_packet mid (history_of packets)) ≡ Some (packet, 0)) × IsLaid chosen mid packet
    by_test true e later h = (p.items, refl, subst (λ m. IsLaid chosen m p.items) (equal (message_id p.items) mid e) all.0)
    by_test false e later h = later h

not_stale : (t : Term) → is_stale t 0 ≡ false
not_stale t = by_age t.stale
  where
    neither_way : (a b : Bool) → b ≡ false → (a && b) ≡ false
    neither_way true b e = e
    neither_way false b e = refl

    none_reached : (age : ℕ) → nat_le (suc age) 0 ≡ false
    none_reached age = grind (arith, nat_tests)

    by_age : (age : ℕ) → (nat_lt 0 age && nat_le age 0) ≡ false
    by_age zero = refl
    by_age (suc age) = neither_way (nat_lt 0 (suc age)) (nat_le (suc age) 0) (none_reached age)

-- ---- the condition

module _ (c : Condition) (fields : List Field) (bits : List ℕ) (packets : List (Vec ℕ Global)) (all : AllByRecursion ReadsTelemetry (mentions c))
    (none : share_bits (mentions c) ≡ false) (holds : HoldsWith c fields bits) (laid : AreLaid (chosen_of fields bits) packets) where
  leave : LeaveOthers (chosen_of fields bits)
  leave = leave_others (mentions c) all none fields bits holds.read.read holds.read.once

  each_free : AllByRecursion (λ (one : Chosen). IsRead (mentions c) one.field) (chosen_of fields bits)
  each_free = each_chosen (IsRead (mentions c)) fields bits holds.read.read

  judged : Term → Option (List ℕ × ℕ) → Truth
  judged t None = Stale
  judged t (Some (packet, agings)) = if is_stale t agings then Stale else judgement t (value_of t packet)

  -- a term whose field was chosen is what its bits say
  term_is : (t : Term) (b : ℕ) → slice_get bits (field_number fields t) ≡ Some b → truth_of_term t (history_of packets) ≡ judgement t (Some (value_by (place_of t) b))
  unfolding judged
  term_is t b is =
      let n = field_number fields t in
      let below : field_number fields t < length fields = omega (arith, some_below bits n b is, holds.few) in
      let there = pair_there fields bits n b is below in
      let reads : IsTrue (is_field_of t there.0) = reads_its_own fields t n there.0 refl below (sym (get_or_from_slice_get fields n there.0 there.0 there.1)) in
      let same : field_read t ≡ there.0 = same_field t there.0 reads in
      let here : slice_get (chosen_of fields bits) n ≡ Some (pair_of (field_read t) b) = there.2 ∙ ap (λ f. Some (pair_of f b)) (sym same) in
      let free : IsFree (field_read t) = subst IsFree (sym same) (is_free (mentions c) all none there.0 (all_at (IsRead (mentions c)) fields n there.0 holds.read.read there.1)) in
      let has : IsTrue (is_some (last_packet t.mid (history_of packets))) =
      all_at (λ (one : Chosen). IsTrue (is_some (last_packet one.field.mid (history_of packets)))) (chosen_of fields bits) n (pair_of (field_read t) b) laid.all here in
      let found = found_packet (chosen_of fields bits) t.mid packets laid.each has in
      let value = reads_bits t b n (chosen_of fields bits) found.0 free here leave found.2 in
      ap (judged t) found.1 ∙ (λ i. if not_stale t i then Stale else judgement t (value i))

  refined : (t : Term) → Refines (found_so_far (field_number fields) bits t) (found_in (history_of packets) t)
  refined t = by_bits (slice_get bits (field_number fields t)) refl
    where
      by_bits : (o : Option ℕ) → slice_get bits (field_number fields t) ≡ o → Refines (truth_there t o) (found_in (history_of packets) t)
      by_bits None e = tt
      by_bits (Some b) e =
          subst (Refines (judgement t (Some (value_by (place_of t) b)))) (sym (term_is t b e)) (refines-same (judgement t (Some (value_by (place_of t) b))))

  -- what is known of a packet's message id
  record IsKnown (mid : ℕ) : Type 0 where
    telemetry : IsTrue (is_telemetry_mid mid)
    free : list_any (◌==◌ mid) reserved_mids ≡ false

  known_of : (chosen : List Chosen) (mid : ℕ) → AllByRecursion (λ (one : Chosen). IsRead (mentions c) one.field) chosen →
      AllByRecursion (λ (one : Chosen). IsTrue (one.field.mid == mid) → IsKnown mid) chosen
  known_of [] mid reads = tt
  known_of (one ∷ chosen) mid reads =
      let free = is_free (mentions c) all none one.field reads.0 in
      ((λ e. subst IsKnown (equal one.field.mid mid e) (record { telemetry = free.mid; free = free.free })), known_of chosen mid reads.1)

  are_telemetry : (ps : List (Vec ℕ Global)) → AllByRecursion (λ (p : Vec ℕ Global). IsLaid (chosen_of fields bits) (message_id p.items) p.items) ps →
      AllByRecursion (λ (p : Vec ℕ Global). IsTrue (list_any (λ (one : Chosen). one.field.mid == message_id p.items) (chosen_of fields bits))) ps →
      AllByRecursion (λ (p : Vec ℕ Global). IsTelemetry p.items) ps
  are_telemetry [] laid_each own = tt
  are_telemetry (p ∷ ps) laid_each own =
      let known = where_any (λ (one : Chosen). one.field.mid == message_id p.items) (IsKnown (message_id p.items)) (chosen_of fields bits)
      (known_of (chosen_of fields bits) (message_id p.items) each_free) own.0 in
      (record { no_fault = fault_free (chosen_of fields bits) (message_id p.items) p.items laid_each.0 known.telemetry known.free; mid = known.telemetry }, are_telemetry ps laid_each.1 own.1)

  pub laid_shows : Shows c packets
  laid_shows = record {
    telemetry = are_telemetry packets laid.each laid.own;
    fails = subst (λ x. Refines x (truth_of c (history_of packets))) holds.holds
        (tables_keep (found_so_far (field_number fields) bits) (found_in (history_of packets)) refined c);
  }

clash : (b : Bool) → IsTrue b → IsFalse b → ⊥
clash true is not = cc
clash false is not = cc

-- so what is not shown shares some
pub overlaps : (c : Condition) (fields handed : List Field) (bits given : List ℕ) (packets seen : List (Vec ℕ Global)) (shown : Bool) → HoldsWith c fields bits →
    handed ≡ fields → given ≡ bits → seen ≡ packets → AreLaid (chosen_of handed given) packets → (Shows c seen → IsTrue shown) → IsFalse shown → IsOverlap c
overlaps c fields handed bits given packets seen shown holds same are so laid all_shown hidden = record {
  fields = fields;
  bits = bits;
  holds = holds;
  packets = packets;
  laid = is_laid;
  hidden = none_shown;
  shared = λ all. by_test all (share_bits (mentions c)) refl;
}
  where
    is_laid : AreLaid (chosen_of fields bits) packets
    is_laid = subst (λ bs. AreLaid (chosen_of fields bs) packets) are (subst (λ fs. AreLaid (chosen_of fs given) packets) same laid)

    none_shown : Shows c packets → ⊥
    none_shown shows = clash shown (all_shown (subst (Shows c) (sym so) shows)) hidden

    by_test : AllByRecursion ReadsTelemetry (mentions c) → (test : Bool) → share_bits (mentions c) ≡ test → IsTrue (share_bits (mentions c))
    by_test all true e = e
    by_test all false e = absurd (none_shown (laid_shows c fields bits packets all e holds is_laid))
